use Rattle.cut_stages.specs.Resumptions.{refill_task}
use Rattle.cut_stages.specs.Rounds.{under_way}
use Rattle.cut_stages.proofs.Rounds.{IsFront}
use Rattle.cut_stages.proofs.refilling.go_round.Given as goal

abbrev pub invariant-loop-place : goal.invariant-loop-place
invariant-loop-place l =
    IsFront refill_task l.ends l.place (under_way l.initial.net l.initial.refill) (under_way l.net l.refill)
