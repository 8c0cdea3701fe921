use Rattle.std.proofs.Common.{refl, sym, ◌∙◌, arith}
use Rattle.plain_process.proofs.WakingInRow.{wake_none, wake_more, wake_done}
use Rattle.thread_group.specs.Groups.{joined}
use Rattle.thread_group.proofs.group.ThreadGroup.wake.Goals as goal

pub loop-count-init : goal.loop-count-init
loop-count-init c = record { woken = λ memory. wake_none c.args.address (joined memory c.args.self.now); spare = refl }

pub returns-in_default-clause-woken : goal.returns-in_default-clause-woken
returns-in_default-clause-woken c memory =
    wake_done c.loop-count.count c.args.limit c.args.address (joined memory c.args.self.now) (joined memory c.loop-count.self) c.loop-count.count (omega arith) (c.loop-count.invariant.woken memory)
    (sym c.first_waiter.ensures ∙ c.in_default.is)

pub loop-count-preserved : goal.loop-count-preserved
loop-count-preserved c = record {
  woken = λ memory.
      wake_more c.loop-count.count c.args.address (joined memory c.args.self.now) (joined memory c.loop-count.self) (joined memory c.wake_thread.new.self) c.in-Some.waiter
      (c.loop-count.invariant.woken memory) (sym c.first_waiter.ensures ∙ c.in-Some.is) (c.wake_thread.ensures.awake memory);
  spare = c.wake_thread.ensures.spare ∙ c.loop-count.invariant.spare;
}
