use Rattle.cut_stages.specs.Drains.{drain_task}
use Rattle.cut_stages.specs.Rounds.{under_way}
use Rattle.cut_stages.proofs.Rounds.{further_on, going_on, turn_passed}
use Rattle.ckpt_stages.proofs.draining.take_turn.Goals as goal

pub pass_on-requires : goal.pass_on-requires
pass_on-requires c =
    going_on drain_task (under_way c.args.net.now c.args.drain.now)
    (under_way c.act_once.new.net c.act_once.new.drain) c.requires c.act_once.ensures.on

pub returns-clause-on : goal.returns-clause-on
returns-clause-on c =
    further_on drain_task (under_way c.args.net.now c.args.drain.now)
    (under_way c.act_once.new.net c.act_once.new.drain) (under_way c.pass_on.new.net c.act_once.new.drain)
    c.act_once.ensures.on c.pass_on.ensures.on

pub returns-clause-passed : goal.returns-clause-passed
returns-clause-passed c =
    turn_passed drain_task c.args.before.now c.args.e (under_way c.args.net.now c.args.drain.now)
    (under_way c.act_once.new.net c.act_once.new.drain) (under_way c.pass_on.new.net c.act_once.new.drain)
    c.act_once.ensures.passed c.pass_on.ensures.passed
