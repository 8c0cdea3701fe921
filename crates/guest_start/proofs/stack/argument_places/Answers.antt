use Rattle.std.proofs.Common.{◌∙◌, ℕ, ap, arith, vec_len, Vec, Global}
use Rattle.guest_start.proofs.StackLemmas.{step-fresh, step-within, places-end}
use Rattle.guest_start.proofs.stack.argument_places.Goals as goal
use Rattle.guest_start.proofs.stack.argument_places.Goals.{then-is_fresh+in_ok-push, else-is_fresh}

pub loop-index-preserved : goal.loop-index-preserved
loop-index-preserved c = record {
  places = elim c.if-is_fresh.branch [
    | then-is_fresh+in_ok-push w ↦ step-fresh _ _ _ _ _ _ _ c.loop-index-test.true w.if-is_fresh.true
        (ap (λ (v : Vec ℕ Global). v.items) w.places-is ∙ w.in_ok-push.ensures.items) c.loop-index.invariant.places
    | else-is_fresh w ↦ step-within _ _ _ _ _ _ _ c.loop-index-test.true w.if-is_fresh.false
        (ap (λ (v : Vec ℕ Global). v.items) w.places-is) c.loop-index.invariant.places
  ];
  few = elim c.if-is_fresh.branch [
    | then-is_fresh+in_ok-push w ↦ omega (arith, ap (λ (v : Vec ℕ Global). vec_len v) w.places-is, w.in_ok-push.ensures.len, c.loop-index.invariant.few)
    | else-is_fresh w ↦ omega (arith, ap (λ (v : Vec ℕ Global). vec_len v) w.places-is, c.loop-index.invariant.few)
  ];
}

pub returns-clause-places : goal.returns-clause-places
returns-clause-places c = places-end _ _ _ _ _ _ c.loop-index-test.false c.loop-index.invariant.places
