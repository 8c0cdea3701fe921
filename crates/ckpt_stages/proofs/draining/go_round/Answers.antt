use Rattle.std.proofs.Common.{refl}
use Rattle.cut_stages.specs.Drains.{drain_task}
use Rattle.cut_stages.specs.Rounds.{under_way}
use Rattle.cut_stages.proofs.Led.{drain_movers}
use Rattle.cut_stages.proofs.Rounds.{going_on, front_begun, front_on, round_passed}
use Rattle.ckpt_stages.proofs.draining.go_round.Goals as goal

pub loop-place-init : goal.loop-place-init
loop-place-init c =
    front_begun drain_task c.args.ends.now (under_way c.args.net.now c.args.drain.now)
    c.requires.going.fits

pub take_turn-requires : goal.take_turn-requires
take_turn-requires c =
    going_on drain_task (under_way c.args.net.now c.args.drain.now)
    (under_way c.loop-place.net c.loop-place.drain) c.requires.going c.loop-place.invariant.on

pub loop-place-preserved : goal.loop-place-preserved
loop-place-preserved c =
    front_on drain_task c.args.ends.now c.loop-place.place _ _ (under_way c.args.net.now c.args.drain.now)
    (under_way c.loop-place.net c.loop-place.drain) (under_way c.take_turn.new.net c.take_turn.new.drain)
    c.loop-place-test.true refl c.loop-place.invariant c.take_turn.ensures.on c.take_turn.ensures.passed

pub returns-clause-on : goal.returns-clause-on
returns-clause-on c = c.loop-place.invariant.on

pub returns-clause-less : goal.returns-clause-less
returns-clause-less c =
    round_passed drain_task c.args.ends.now c.loop-place.place (under_way c.args.net.now c.args.drain.now)
    (under_way c.loop-place.net c.loop-place.drain) c.loop-place-test.false c.requires.acting
    (drain_movers c.args.ends.now c.args.net.now.channels c.args.drain.now c.requires.acting.led)
    c.requires.left c.loop-place.invariant
