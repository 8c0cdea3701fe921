use Rattle.std.proofs.Common.{◌≡◌, ◌<◌, ◌⊎◌, sym, subst}
use Rattle.refill_core.specs.Work.{work_left}
use Rattle.wire_channels.specs.Frames.{SameFrames}
use Rattle.wire_net.specs.Networks.{Network}
use Rattle.cut_stages.specs.Resumptions.{Filling, IsRefilling, refill_task}
use Rattle.cut_stages.specs.contracts.written.Written.{the_view}
use Rattle.cut_stages.specs.Drains.{pumped}
use Rattle.cut_stages.specs.Rounds.{under_way, IsGoing}
use Rattle.cut_stages.proofs.Cutting.{with_net}
use Rattle.cut_stages.proofs.Moves.{moved_further, moved_less}
use Rattle.cut_stages.proofs.GoingOn.{refilling_further, seen_less}
use Rattle.cut_stages.proofs.written.Written.pump.Goals as goal

pub invariant_of-self : goal.invariant_of-self
invariant_of-self c =
    let base = c.self.inside.base in
    let notes = c.self.inside.refill in
    let t = base.system.kernel.net in
    let going : IsGoing refill_task (under_way t notes) = record {
      fits = c.self.invariant.filling.fits;
      noted = c.self.invariant.filling.noted;
    } in
    subst (λ (u : Network). IsRefilling (with_net base.system u) base.next_id base.stood.kernel base.owners
    c.self.inside.ends.items notes)
    (sym c.pump_on.ensures.after)
    (refilling_further base.system base.next_id base.stood.kernel base.owners c.self.inside.ends.items notes
    c.self.invariant (pumped c.args.d c.args.n t) notes
    (moved_further refill_task c.refill_laws.ensures.fits c.refill_laws.ensures.lowers t notes c.args.d
    c.args.n c.requires going
    (subst (λ (u : Network). SameFrames t.channels u.channels) c.pump_on.ensures.after
    c.pump_on.ensures.frame)))

pub returns-clause-less : goal.returns-clause-less
returns-clause-less c =
    let notes = c.self.inside.refill in
    let t = c.self.inside.base.system.kernel.net in
    let u = c.pump_on.new.net in
    let going : IsGoing refill_task (under_way t notes) = record {
      fits = c.self.invariant.filling.fits;
      noted = c.self.invariant.filling.noted;
    } in
    let seen : Filling = the_view c.self.inside in
    subst (λ (v : Filling). (record seen { net = u } ≡ v)
    ⊎ (work_left u.channels seen.notes < work_left v.net.channels v.notes))
    c.self.view_is
    (seen_less seen u
    (moved_less refill_task c.refill_laws.ensures.fits c.refill_laws.ensures.lowers t notes c.args.d c.args.n
    c.requires going u c.pump_on.ensures.after))
