use Rattle.std.proofs.Common.{None, sym, ap, subst, ◌∙◌}
use Rattle.std.specs.FinMap as map
use Rattle.views.proofs.MapLaws.{insert_same}
use Rattle.views.proofs.Outcomes.{on_some}
use Rattle.sys_abi.proofs.OrderLaws.{vpid_total, vpid_exact}
use Rattle.sys_abi.specs.declared.record.Record.TheVariants.{Call}
use Rattle.guest_proc.specs.Guests.{GuestPart}
use Rattle.plain_process.specs.declared.user_part.UserPart.{UserPart}
use Rattle.plain_process.specs.Local.{local_row}
use Rattle.computation.specs.Computations.{plain_of}
use Rattle.computation.proofs.Numbered.{Numbered, each_err, numbered_put}
use Rattle.computation.proofs.States.{seen}
use Rattle.computation.proofs.Taking.{takes_valid}
use Rattle.computation.proofs.Effects.{local_goes, missing_part, same_part, nobody, put_takes}
use Rattle.computation.proofs.computation.Computation.local_call.Goals as goal

pub unreachable-requires : goal.unreachable-requires
unreachable-requires c = nobody _ c.requires.asks.user (missing_part c.args.self.now.guests c.args.p c.in_default.ensures.value) c.requires.asks.there

pub returns-clause-ok : goal.returns-clause-ok
returns-clause-ok c taken =
    let asks = c.requires.asks in
    let same = same_part c.args.self.now.guests c.args.p c.in-Some.guest.now asks.user c.in-Some.ensures.value asks.there in
    put_takes c.args.self.now _ c.args.p c.local.new.self (local_row asks.user c.args.t.0 c.args.request.now) (Call c.args.p c.args.t)
    (local_goes (plain_of c.args.self.now) c.args.p c.args.t asks.user c.args.request.now asks.there asks.asks c.requires.local)
    (on_some c.in-Some.is (c.get_mut.follows.holds c.local.new.self))
    (ap (λ (g : GuestPart). g.user) c.in_ok-local.ensures.ok ∙ ap (λ (u : UserPart). local_row u c.args.t.0 c.args.request.now) same) c.args.trace.now c.append.new.self taken c.append.ensures

pub returns-clause-ready : goal.returns-clause-ready
returns-clause-ready c = record {
  valid = takes_valid _ _ _ _ _ _ c.requires.ready.valid (returns-clause-ok c None);
  numbered = subst Numbered (sym (on_some c.in-Some.is (c.get_mut.follows.holds c.local.new.self)))
      (numbered_put c.args.self.now.guests c.args.p c.local.new.self c.requires.ready.numbered
      (ap (λ (g : GuestPart). g.pid) c.in_ok-local.ensures.ok ∙ c.requires.ready.numbered c.args.p c.in-Some.guest.now (sym c.in-Some.ensures.value)));
}

pub returns-in_err-local-clause-same : goal.returns-in_err-local-clause-same
returns-in_err-local-clause-same c =
    let m = c.args.self.now in
    each_err c.from_residual.result (ap (seen m.kernel)
    (on_some c.in-Some.is (c.get_mut.follows.holds c.local.new.self) ∙ ap (map.insert m.guests c.args.p) c.in_err-local.ensures.err
    ∙ insert_same vpid_total vpid_exact m.guests c.args.p c.in-Some.guest.now (sym c.in-Some.ensures.value)))
