use Rattle.cut_stages.specs.Drains.{drain_task}
use Rattle.cut_stages.specs.Rounds.{under_way}
use Rattle.cut_stages.proofs.Rounds.{IsFront}
use Rattle.ckpt_stages.proofs.draining.go_round.Given as goal

abbrev pub invariant-loop-place : goal.invariant-loop-place
invariant-loop-place l =
    IsFront drain_task l.ends l.place (under_way l.initial.net l.initial.drain) (under_way l.net l.drain)
