use Rattle.cut_stages.specs.Resumptions.{refill_task}
use Rattle.cut_stages.specs.Rounds.{under_way}
use Rattle.cut_stages.proofs.Rounds.{further_none, further_on, going_on, acting_on}
use Rattle.cut_stages.proofs.refilling.refill_through.Goals as goal

pub loop-refill-init : goal.loop-refill-init
loop-refill-init c =
    further_none refill_task (under_way c.args.net.now c.args.refill.now) c.requires.going.fits

pub is_done-requires : goal.is_done-requires
is_done-requires c = c.loop-refill.invariant.fits

pub go_round-requires-clause-going : goal.go_round-requires-clause-going
go_round-requires-clause-going c =
    going_on refill_task (under_way c.args.net.now c.args.refill.now)
    (under_way c.loop-refill.net c.loop-refill.refill) c.requires.going c.loop-refill.invariant

pub go_round-requires-clause-acting : goal.go_round-requires-clause-acting
go_round-requires-clause-acting c =
    acting_on refill_task c.args.ends.now (under_way c.args.net.now c.args.refill.now)
    (under_way c.loop-refill.net c.loop-refill.refill) c.requires.acting c.loop-refill.invariant

pub loop-refill-smaller : goal.loop-refill-smaller
loop-refill-smaller c = c.go_round.ensures.less

pub loop-refill-preserved : goal.loop-refill-preserved
loop-refill-preserved c =
    further_on refill_task (under_way c.args.net.now c.args.refill.now)
    (under_way c.loop-refill.net c.loop-refill.refill) (under_way c.go_round.new.net c.go_round.new.refill)
    c.loop-refill.invariant c.go_round.ensures.on

pub returns-clause-on : goal.returns-clause-on
returns-clause-on c = c.loop-refill.invariant
