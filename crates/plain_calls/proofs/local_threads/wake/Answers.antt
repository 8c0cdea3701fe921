use Rattle.std.proofs.Common.{sym, ap, ◌∙◌, arith}
use Rattle.plain_process.specs.Threads.{first_waiter}
use Rattle.plain_process.proofs.WakingInRow.{wake_none, wake_more, wake_done}
use Rattle.plain_calls.proofs.local_threads.wake.Goals as goal

pub loop-count-init : goal.loop-count-init
loop-count-init c = wake_none c.args.address c.args.user.now

pub returns-in_default : goal.returns-in_default
returns-in_default c =
    wake_done c.loop-count.count c.args.limit c.args.address c.args.user.now c.loop-count.user c.loop-count.count (omega arith) c.loop-count.invariant
    (ap (first_waiter c.args.address) (sym c.as_slice.ensures) ∙ sym c.first_waiter.ensures ∙ c.in_default.is)

pub loop-count-preserved : goal.loop-count-preserved
loop-count-preserved c =
    wake_more c.loop-count.count c.args.address c.args.user.now c.loop-count.user c.awake.new.user c.in-Some.waiter c.loop-count.invariant
    (ap (first_waiter c.args.address) (sym c.as_slice.ensures) ∙ sym c.first_waiter.ensures ∙ c.in-Some.is) c.awake.ensures
