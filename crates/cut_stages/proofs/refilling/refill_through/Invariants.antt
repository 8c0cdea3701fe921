use Rattle.refill_core.specs.Work.{work_left}
use Rattle.cut_stages.specs.Resumptions.{refill_task}
use Rattle.cut_stages.specs.Rounds.{under_way, IsFurther}
use Rattle.cut_stages.proofs.refilling.refill_through.Given as goal

abbrev pub invariant-loop-refill : goal.invariant-loop-refill
invariant-loop-refill l =
    IsFurther refill_task (under_way l.initial.net l.initial.refill) (under_way l.net l.refill)

abbrev pub decreases-loop-refill : goal.decreases-loop-refill
decreases-loop-refill l = work_left l.net.channels l.refill
