use Rattle.drain_core.specs.Work.{work_left}
use Rattle.cut_stages.specs.Drains.{drain_task}
use Rattle.cut_stages.specs.Rounds.{under_way, IsFurther}
use Rattle.ckpt_stages.proofs.draining.drain_through.Given as goal

abbrev pub invariant-loop-drain : goal.invariant-loop-drain
invariant-loop-drain l =
    IsFurther drain_task (under_way l.initial.net l.initial.drain) (under_way l.net l.drain)

abbrev pub decreases-loop-drain : goal.decreases-loop-drain
decreases-loop-drain l = work_left l.net.channels l.drain
