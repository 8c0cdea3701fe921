use Rattle.std.proofs.Common.{◌≡◌, true, length, sym, ap, subst, ◌∙◌, arith}
use Rattle.std.specs.Prelude.{Contains}
use Rattle.plain_machine.specs.declared.kernel.PlainKernel.{PlainKernel}
use Rattle.plain_machine.specs.Kernel.{is_live}
use Rattle.staged_cut.proofs.GoingOn.{can_begin}
use Rattle.staged_cut.proofs.Asking.{suspended_by}
use Rattle.staged_cut.proofs.LiveParts.{live_listed, listed_lives, few_listed}
use Rattle.staged_cut.proofs.holding.hold.Goals as goal

pub drained_of-requires-clause-few : goal.drained_of-requires-clause-few
drained_of-requires-clause-few c =
    let same = ap length (c.as_slice.ensures ∙ c.in_ok-live.ensures) in
    let few = few_listed c.args.computation.now c.requires.ready.valid in
    omega (arith, same, few)

pub drained_of-requires-clause-listed : goal.drained_of-requires-clause-listed
drained_of-requires-clause-listed c p lives =
    subst (λ live. Contains live p) (sym (c.as_slice.ensures ∙ c.in_ok-live.ensures))
    (live_listed c.args.computation.now c.requires.ready.valid p
    (ap (λ (k : PlainKernel). is_live k p) (sym c.replace-wrapped.ensures.value) ∙ lives))

pub returns-in-Ok-clause-ok : goal.returns-in-Ok-clause-ok
returns-in-Ok-clause-ok c =
    let kernel = c.in-Ok.ensures.ok.1 ∙ c.replace-wrapped.ensures.value in
    let guests = c.replace-guests.ensures.value in
    let listed = c.as_slice.ensures ∙ c.in_ok-live.ensures in
    let valid = c.requires.ready.valid in
    record {
      suspended = suspended_by (Contains c.as_slice.result.now)
          (λ p. is_live c.args.computation.now.kernel p ≡ true) _
          (λ p at. listed_lives c.args.computation.now valid p (subst (λ live. Contains live p) listed at))
          (λ p lives. subst (λ live. Contains live p) (sym listed)
          (live_listed c.args.computation.now valid p lives)) c.in-Ok.ensures.suspended;
      drained = c.in-Ok.ensures.ok.0 ∙ c.replace-wrapped.ensures.value;
      kernel = kernel;
      guests = guests;
      can = can_begin c.args.computation.now _ c.requires.ready c.requires.supported c.requires.arrived
          kernel guests;
    }
