use Rattle.std.proofs.Common.{[], ◌∷◌, ◌++◌, sym, ap, ◌∙◌, arith}
use Rattle.std.specs.FinMap as map
use Rattle.seen_kernel.proofs.SeenListeners.{queue_on, queue_ends}
use Rattle.seen_kernel.proofs.listeners.waiting_at.Goals as goal

pub loop-place-preserved : goal.loop-place-preserved
loop-place-preserved c =
    c.in_ok-push.ensures.ok ∙ ap (λ queue. queue ++ c.in-Some.conn ∷ []) c.loop-place.invariant
    ∙ queue_on (map.get c.args.net.now.listeners c.args.at) c.loop-place.place c.in-Some.conn
    (sym c.in-Some.ensures)

pub returns-in_default : goal.returns-in_default
returns-in_default c =
    c.loop-place.invariant
    ∙ queue_ends (map.get c.args.net.now.listeners c.args.at) c.loop-place.place c.args.most
    (sym c.in_default.ensures) (let below = c.loop-place-test.true in omega (arith, below))
