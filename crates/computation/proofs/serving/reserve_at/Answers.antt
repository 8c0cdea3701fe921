use Rattle.std.proofs.Common.{sym, ap, ◌∙◌}
use Rattle.std.specs.FinMap as map
use Rattle.views.proofs.MapLaws.{insert_same}
use Rattle.views.proofs.Outcomes.{on_err_then, on_some}
use Rattle.sys_abi.proofs.OrderLaws.{vpid_total, vpid_exact}
use Rattle.guest_proc.specs.Guests.{GuestPart}
use Rattle.computation.proofs.Effects.{same_guest}
use Rattle.computation.proofs.Numbered.{OnOk-map}
use Rattle.computation.proofs.serving.reserve_at.Goals as goal

pub returns-clause-ok : goal.returns-clause-ok
returns-clause-ok c = OnOk-map c.reserve_for.result (λ room guest there. record {
  spare = c.reserve_for.new.guest.spare;
  room = room;
  guests = on_some c.in-Some.is (c.get_mut.follows.holds c.reserve_for.new.guest) ∙ ap (map.insert c.args.guests.now c.args.p) c.reserve_for.ensures.same
      ∙ ap (λ (g : GuestPart). map.insert c.args.guests.now c.args.p (let h : GuestPart = record { pid = g.pid; user = g.user; spare = c.reserve_for.new.guest.spare } in h)) (same_guest c.args.guests.now c.args.p c.in-Some.guest.now guest (sym c.in-Some.ensures.value) there);
}) c.reserve_for.ensures.spare

pub returns-clause-err : goal.returns-clause-err
returns-clause-err c = on_err_then c.reserve_for.result c.reserve_for.ensures.err (λ same.
    on_some c.in-Some.is (c.get_mut.follows.holds c.reserve_for.new.guest) ∙ ap (map.insert c.args.guests.now c.args.p) same
    ∙ insert_same vpid_total vpid_exact c.args.guests.now c.args.p c.in-Some.guest.now (sym c.in-Some.ensures.value))
