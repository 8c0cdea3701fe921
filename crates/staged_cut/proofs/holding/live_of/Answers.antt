use Rattle.std.proofs.Common.{[], ◌∷◌, ◌++◌, sym, ap, ◌∙◌, append_assoc, append-nil}
use Rattle.staged_cut.proofs.holding.live_of.Goals as goal

pub loop-p-init : goal.loop-p-init
loop-p-init c =
    ap (λ live. live ++ c.into_iter-p-iterator.result) c.new-live.ensures
    ∙ c.into_iter-p-iterator.ensures.into_iter_gives ∙ c.keys-p-items.ensures

pub loop-p-preserved : goal.loop-p-preserved
loop-p-preserved c =
    ap (λ live. live ++ c.next.new.self) c.in_ok-push.ensures.ok
    ∙ append_assoc c.loop-p.live (c.in-Some.p.now ∷ []) c.next.new.self
    ∙ ap (λ left. c.loop-p.live ++ left) (sym c.in-Some.ensures.steps) ∙ c.loop-p.invariant

pub returns : goal.returns
returns c =
    sym (append-nil c.loop-p.live) ∙ ap (λ left. c.loop-p.live ++ left) (sym c.in-None.ensures.steps.0)
    ∙ c.loop-p.invariant
