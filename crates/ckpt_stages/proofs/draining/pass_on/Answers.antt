use Rattle.std.proofs.Common.{sym, subst, arith}
use Rattle.wire_channels.specs.Frames.{SameFrames}
use Rattle.wire_net.specs.Networks.{Network}
use Rattle.cut_stages.specs.Drains.{drain_task}
use Rattle.cut_stages.specs.Rounds.{under_way, IsQuiet, IsFurther, Passed}
use Rattle.cut_stages.proofs.Moves.{moved_further, moved_passed}
use Rattle.ckpt_stages.proofs.draining.pass_on.Goals as goal

pub returns-clause-on : goal.returns-clause-on
returns-clause-on c =
    let t = c.args.net.now in
    let notes = c.args.drain.now in
    subst (λ (u : Network). IsFurther drain_task (under_way t notes) (under_way u notes))
    (sym c.pump_on.ensures.after)
    (moved_further drain_task c.drain_laws.ensures.fits c.drain_laws.ensures.lowers t notes c.args.d 65536
    c.if-d-ge2.false c.requires
    (subst (λ (u : Network). SameFrames t.channels u.channels) c.pump_on.ensures.after
    c.pump_on.ensures.frame))

pub returns-clause-passed : goal.returns-clause-passed
returns-clause-passed c =
    let t = c.args.net.now in
    let notes = c.args.drain.now in
    subst (λ (u : Network). Passed drain_task (IsQuiet (under_way t notes) c.args.d) (under_way t notes)
    (under_way u notes))
    (sym c.pump_on.ensures.after)
    (moved_passed drain_task c.drain_laws.ensures.fits c.drain_laws.ensures.lowers t notes c.args.d 65536
    c.if-d-ge2.false c.requires (omega arith))
