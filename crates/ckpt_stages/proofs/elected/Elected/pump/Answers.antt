use Rattle.std.proofs.Common.{◌≡◌, ◌<◌, ◌⊎◌, sym, subst}
use Rattle.drain_core.specs.Work.{work_left}
use Rattle.wire_channels.specs.declared.place.Place.TheVariants.{Send, Wire}
use Rattle.wire_channels.specs.Channels.{at_direction}
use Rattle.wire_channels.specs.Directions.{after_move}
use Rattle.wire_channels.specs.Frames.{SameFrames}
use Rattle.wire_net.specs.Networks.{Network}
use Rattle.cut_stages.specs.Drains.{IsDraining, drain_task}
use Rattle.cut_stages.specs.Rounds.{under_way, IsGoing}
use Rattle.cut_stages.proofs.Cutting.{with_net}
use Rattle.cut_stages.proofs.Cutting.{drained_move}
use Rattle.cut_stages.proofs.Moves.{moved_less}
use Rattle.ckpt_stages.specs.Elections.{Draining}
use Rattle.ckpt_stages.specs.contracts.elected.Elected.{the_view}
use Rattle.ckpt_stages.proofs.Moved.{seen_less}
use Rattle.ckpt_stages.proofs.elected.Elected.pump.Goals as goal

pub invariant_of-self : goal.invariant_of-self
invariant_of-self c =
    let base = c.self.inside.base in
    let notes = c.self.inside.drain in
    let m = base.system.kernel.net.channels in
    let d = c.args.d in
    let n = c.args.n in
    let fits = c.drain_laws.ensures.fits in
    subst (λ (t : Network). IsDraining (with_net base.system t) base.next_id base.stood.kernel base.owners
    c.self.inside.ends.items notes)
    (sym c.pump_on.ensures.after)
    (drained_move base.system base.next_id base.stood.kernel base.owners c.self.inside.ends.items notes
    c.self.invariant d n
    (subst (λ (t : Network). SameFrames m t.channels) c.pump_on.ensures.after c.pump_on.ensures.frame)
    (fits (at_direction m d (after_move Send n)) notes d Wire n c.requires
    (fits m notes d Send n c.requires c.self.invariant.fits)))

pub returns-clause-less : goal.returns-clause-less
returns-clause-less c =
    let notes = c.self.inside.drain in
    let t = c.self.inside.base.system.kernel.net in
    let u = c.pump_on.new.net in
    let going : IsGoing drain_task (under_way t notes) = record {
      fits = c.self.invariant.fits;
      noted = c.self.invariant.noted;
    } in
    let seen : Draining = the_view c.self.inside in
    subst (λ (v : Draining). (record seen { net = u } ≡ v)
    ⊎ (work_left u.channels seen.notes < work_left v.net.channels v.notes))
    c.self.view_is
    (seen_less seen u
    (moved_less drain_task c.drain_laws.ensures.fits c.drain_laws.ensures.lowers t notes c.args.d c.args.n
    c.requires going u c.pump_on.ensures.after))
