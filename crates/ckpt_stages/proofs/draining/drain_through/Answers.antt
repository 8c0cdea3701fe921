use Rattle.cut_stages.specs.Drains.{drain_task}
use Rattle.cut_stages.specs.Rounds.{under_way}
use Rattle.cut_stages.proofs.Rounds.{further_none, further_on, going_on, acting_on}
use Rattle.ckpt_stages.proofs.draining.drain_through.Goals as goal

pub loop-drain-init : goal.loop-drain-init
loop-drain-init c =
    further_none drain_task (under_way c.args.net.now c.args.drain.now) c.requires.going.fits

pub is_done-requires : goal.is_done-requires
is_done-requires c = c.loop-drain.invariant.fits

pub go_round-requires-clause-going : goal.go_round-requires-clause-going
go_round-requires-clause-going c =
    going_on drain_task (under_way c.args.net.now c.args.drain.now)
    (under_way c.loop-drain.net c.loop-drain.drain) c.requires.going c.loop-drain.invariant

pub go_round-requires-clause-acting : goal.go_round-requires-clause-acting
go_round-requires-clause-acting c =
    acting_on drain_task c.args.ends.now (under_way c.args.net.now c.args.drain.now)
    (under_way c.loop-drain.net c.loop-drain.drain) c.requires.acting c.loop-drain.invariant

pub loop-drain-smaller : goal.loop-drain-smaller
loop-drain-smaller c = c.go_round.ensures.less

pub loop-drain-preserved : goal.loop-drain-preserved
loop-drain-preserved c =
    further_on drain_task (under_way c.args.net.now c.args.drain.now)
    (under_way c.loop-drain.net c.loop-drain.drain) (under_way c.go_round.new.net c.go_round.new.drain)
    c.loop-drain.invariant c.go_round.ensures.on

pub returns-clause-on : goal.returns-clause-on
returns-clause-on c = c.loop-drain.invariant
