use Rattle.std.proofs.Common.{◌≡◌, true, Some, refl, sym, ap, subst, ◌∙◌}
use Rattle.std.specs.Prelude.{is_some}
use Rattle.std.proofs.lemmas.Result.{IfOk-weaker}
use Rattle.std.specs.FinMap as map
use Rattle.views.proofs.Outcomes.{on_err_then}
use Rattle.sys_abi.specs.declared.reply.Reply.TheVariants.{Value}
use Rattle.plain_tables.specs.Tables.{pid}
use Rattle.plain_process.specs.Put.{made_by}
use Rattle.plain_process.specs.Steps.{Asks, user_step}
use Rattle.plain_process.specs.Twins.{twin_of}
use Rattle.plain_process.specs.declared.user_part.UserPart.{UserPart}
use Rattle.plain_machine.specs.Serve.{row}
use Rattle.plain_machine.specs.Kernel.{is_live}
use Rattle.plain_machine.proofs.Asking.{stands_asked}
use Rattle.plain_machine.proofs.LocalBounds.{asks_there}
use Rattle.plain_machine.proofs.RowBounds.{next_is_nobody}
use Rattle.guest_proc.specs.Guests.{GuestPart}
use Rattle.computation.specs.Computations.{plain_of}
use Rattle.computation.specs.Parts.{Guests}
use Rattle.computation.proofs.Answered.{answered, waits_never, made_of, made_value, makes_fork, born_as, guest_at}
use Rattle.computation.proofs.Effects.{same_part, found_part}
use Rattle.computation.proofs.Numbered.{each_err}
use Rattle.computation.proofs.Twins.{grown, held_there, kept, kernel_same, lent_there, replied, same_seen, twin_there}
use Rattle.computation.proofs.computation.Computation.serve_call.Goals as goal

pub reserve_at-requires : goal.reserve_at-requires
reserve_at-requires c = ap is_some (guest_at c.args.self.now.guests c.args.p c.requires.asks.user c.requires.asks.there).1

-- room that was made already is not seen
pub returns-in_err-place_twin-clause-same : goal.returns-in_err-place_twin-clause-same
returns-in_err-place_twin-clause-same c =
    let m = c.args.self.now in
    let at = guest_at m.guests c.args.p c.requires.asks.user c.requires.asks.there in
    let reserved = c.in_ok-reserve_at.ensures.ok at.0 at.1 in
    each_err c.from_residual-in_err-place_twin.result
    (same_seen m.kernel m.kernel m.guests c.place_twin.new.guests c.args.p at.0 reserved.spare at.1 refl (c.in_err-place_twin.ensures.err ∙ reserved.guests))

pub call-told-requires-clause-asked : goal.call-told-requires-clause-asked
call-told-requires-clause-asked c =
    let m = c.args.self.now in
    let asks = c.requires.asks in
    stands_asked (plain_of m) asks.user c.args.p c.args.t.0 c.args.request.now m.transfer c.requires.ready.valid
    asks.there asks.asks (c.requires.given asks.user asks.there)

-- a child that lives was made
pub settle_child-requires-clause-fork : goal.settle_child-requires-clause-fork
settle_child-requires-clause-fork c lives =
    let m = c.args.self.now in
    let asks = c.requires.asks in
    let q = c.args.request.now in
    let after = c.call-told.new.self in
    let left = c.call-told.new.transfer in
    let there : is_live after (pid m.kernel.next_id) ≡ true = sym (ap (λ n. is_live after (pid n)) c.next_id.ensures) ∙ sym c.is_live-is_born.ensures ∙ lives in
    let replies = replied m.kernel after c.call-told.result
    (waits_never m.kernel after c.args.p c.args.t.0 q m.transfer left c.requires.goes c.call-told.result c.call-told.ensures)
    (kernel_same m.kernel after m.transfer left c.call-told.result (row m.kernel c.args.p c.args.t.0 q m.transfer) c.call-told.ensures)
    (next_is_nobody m.kernel c.requires.ready.valid.kernel) there in
    let has = answered m.kernel after c.args.p c.args.t.0 q m.transfer left c.requires.goes replies.0 c.call-told.result replies.1 c.call-told.ensures in
    let made = made_of (plain_of m) c.requires.ready.valid c.args.p c.args.t.0 q asks.user asks.there asks.asks m.transfer (c.requires.given asks.user asks.there) after left replies.0 has in
    subst (λ n. made_by q (Value n) ≡ Some n) (sym c.next_id.ensures)
    (made_value q replies.0 m.kernel.next_id (born_as m.kernel after (made_by q replies.0) made there))

pub settle_child-requires-clause-lent : goal.settle_child-requires-clause-lent
settle_child-requires-clause-lent c lives =
    let m = c.args.self.now in
    let q = c.args.request.now in
    let next = pid c.next_id.result in
    let at = guest_at m.guests c.args.p c.requires.asks.user c.requires.asks.there in
    let reserved = c.in_ok-reserve_at.ensures.ok at.0 at.1 in
    let held : GuestPart = record { pid = at.0.pid; user = at.0.user; spare = reserved.spare } in
    let placed = c.in_ok-place_twin.ensures.ok held (held_there m.kernel m.guests c.reserve_at.new.guests c.args.p at.0 q c.next_id.result c.requires.ready.valid at.1 reserved c.next_id.ensures) in
    let fork = makes_fork q (Value c.next_id.result) c.next_id.result (settle_child-requires-clause-fork c lives) in
    lent_there c.place_twin.new.guests next (record { pid = at.0.pid; user = twin_of at.0.user c.args.t.0; spare = 0 }) q m.transfer
    (ap (λ (guests : Guests). map.get guests next) placed ∙ twin_there c.reserve_at.new.guests held c.args.t.0 q next fork)
    (c.requires.given at.0.user (found_part m.guests c.args.p at.0 (sym at.1)))

pub answered-requires : goal.answered-requires
answered-requires c =
    let m = c.args.self.now in
    waits_never m.kernel c.call-told.new.self c.args.p c.args.t.0 c.args.request.now m.transfer c.call-told.new.transfer
    c.requires.goes c.call-told.result c.call-told.ensures

pub returns-clause-served : goal.returns-clause-served
returns-clause-served c = IfOk-weaker c.answered.result _ _ (λ reply is.
    let m = c.args.self.now in
    answered m.kernel c.call-told.new.self c.args.p c.args.t.0 c.args.request.now m.transfer c.call-told.new.transfer
    c.requires.goes reply c.call-told.result is c.call-told.ensures) c.answered.ensures.ok

pub returns-clause-grown : goal.returns-clause-grown
returns-clause-grown c = IfOk-weaker c.answered.result _ _ (λ reply is guest there.
    let m = c.args.self.now in
    let asks = c.requires.asks in
    let q = c.args.request.now in
    let has = answered m.kernel c.call-told.new.self c.args.p c.args.t.0 q m.transfer c.call-told.new.transfer c.requires.goes reply c.call-told.result is c.call-told.ensures in
    let made = made_of (plain_of m) c.requires.ready.valid c.args.p c.args.t.0 q asks.user asks.there asks.asks m.transfer (c.requires.given asks.user asks.there) c.call-told.new.self c.call-told.new.transfer reply has in
    let stands : user_step guest.user c.args.t.0 ≡ Asks q = ap (λ (u : UserPart). user_step u c.args.t.0) (same_part m.guests c.args.p guest asks.user (sym there) asks.there) ∙ asks.asks in
    grown m.kernel m.guests c.reserve_at.new.guests c.args.p guest q c.next_id.result c.requires.ready.valid there (c.in_ok-reserve_at.ensures.ok guest there) c.next_id.ensures
    c.place_twin.new.guests c.settle_child.new.guests c.args.t.0 c.is_live-is_born.result (asks_there guest.user c.args.t.0 q stands) c.in_ok-place_twin.ensures.ok c.settle_child.ensures
    c.call-told.new.self reply c.is_live-is_born.ensures made) c.answered.ensures.ok

-- where the kernel wanted memory nobody was born, and the twin was taken out again
pub returns-clause-same : goal.returns-clause-same
returns-clause-same c = on_err_then c.answered.result c.answered.ensures.err (λ wants.
    let m = c.args.self.now in
    let asks = c.requires.asks in
    let q = c.args.request.now in
    let at = guest_at m.guests c.args.p asks.user asks.there in
    let stands : user_step at.0.user c.args.t.0 ≡ Asks q = ap (λ (u : UserPart). user_step u c.args.t.0) (same_part m.guests c.args.p at.0 asks.user (sym at.1) asks.there) ∙ asks.asks in
    kept m.kernel m.guests c.reserve_at.new.guests c.args.p at.0 q c.next_id.result c.requires.ready.valid at.1 (c.in_ok-reserve_at.ensures.ok at.0 at.1) c.next_id.ensures
    c.place_twin.new.guests c.settle_child.new.guests c.args.t.0 c.is_live-is_born.result (asks_there at.0.user c.args.t.0 q stands) c.in_ok-place_twin.ensures.ok c.settle_child.ensures
    c.call-told.new.self c.is_live-is_born.ensures
    (kernel_same m.kernel c.call-told.new.self m.transfer c.call-told.new.transfer c.call-told.result (row m.kernel c.args.p c.args.t.0 q m.transfer) c.call-told.ensures wants))
