use Rattle.std.proofs.Common.{◌≡◌, Some, None, sym, ap, subst, ◌∙◌}
use Rattle.std.specs.FinMap as map
use Rattle.views.proofs.MapLaws.{insert_same}
use Rattle.views.proofs.Outcomes.{on_some}
use Rattle.sys_abi.proofs.OrderLaws.{vpid_total, vpid_exact}
use Rattle.plain_process.specs.declared.user_part.UserPart.{UserPart}
use Rattle.plain_process.specs.Buffers.{lent}
use Rattle.computation.proofs.Numbered.{OnOk-map}
use Rattle.computation.proofs.Effects.{missing_part, same_part, nobody}
use Rattle.computation.proofs.computation.Computation.lend.Goals as goal

pub unreachable-requires : goal.unreachable-requires
unreachable-requires c = nobody _ c.requires.user (missing_part c.args.self.now.guests c.args.p c.in_default.ensures.value) c.requires.there

pub returns-clause-ok : goal.returns-clause-ok
returns-clause-ok c = OnOk-map c.lend.result (λ reads user there.
    subst (λ (u : UserPart). lent u.memory c.args.request.now ≡ Some c.lend.new.transfer) (same_part c.args.self.now.guests c.args.p c.in-Some.guest.now user c.in-Some.ensures.value there) reads) c.lend.ensures.ok

pub returns-clause-fault : goal.returns-clause-fault
returns-clause-fault c is user there =
    subst (λ (u : UserPart). lent u.memory c.args.request.now ≡ None) (same_part c.args.self.now.guests c.args.p c.in-Some.guest.now user c.in-Some.ensures.value there) (c.lend.ensures.fault.0 is)

pub returns-clause-guests : goal.returns-clause-guests
returns-clause-guests c =
    on_some c.in-Some.is (c.get_mut.follows.holds c.lend.new.self) ∙ ap (map.insert c.args.self.now.guests c.args.p) c.lend.ensures.same
    ∙ insert_same vpid_total vpid_exact c.args.self.now.guests c.args.p c.in-Some.guest.now (sym c.in-Some.ensures.value)
