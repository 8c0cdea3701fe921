use Rattle.std.proofs.Common.{sym, subst}
use Rattle.call_table.specs.declared.request.Request.{Request}
use Rattle.plain_machine.specs.RowLaws.{IsAsked}
use Rattle.plain_machine.specs.Rows.Connections.{accept_row}
use Rattle.plain_machine.specs.Serve.{row}
use Rattle.host_tables.specs.declared.attempt.Attempt.{Attempt}
use Rattle.host_tables.specs.declared.reply.KernelReply.TheVariants.{Done, Error, NotReady}
use Rattle.host_tables.specs.Conditions.{IsNewDesc}
use Rattle.host_tables.specs.Serves.{Serves, ByNumber, same}
use Rattle.host_tables.specs.Systems.{given_of}
use Rattle.wrap_names.specs.Wrapping.{StandsAfter}
use Rattle.wrap_names.proofs.Named.{new_desc}
use Rattle.wrap_sockets.proofs.Meetings.{no_accept}
use Rattle.wrap_sockets.proofs.AcceptedCalls.{accept_names, accept_fails, accept_waits, countable, accept_done}
use Rattle.wrap_sockets.proofs.accepting.accept.Goals as goal

pub unreachable-requires : goal.unreachable-requires
unreachable-requires c = no_accept c.args.request.now c.requires.accepts c.in_default.not-Accept

pub accept-requires : goal.accept-requires
accept-requires c = record {
  new = subst (IsNewDesc c.args.system.now.kernel.book) (sym c.next_desc-id.ensures)
      (new_desc c.args.system.now c.args.next_id c.args.stood.now.kernel c.requires.wrapped c.args.p
      c.args.t.0
      c.args.request.now c.args.transfer.now c.requires.asked);
}

pub count_made-requires : goal.count_made-requires
count_made-requires c =
    let s = c.args.system.now in
    let k = c.args.stood.now.kernel in
    let w = c.requires.wrapped in
    let p = c.args.p in
    let before = c.args.transfer.now in
    let fd = c.in-Accept.fd in
    let asked = subst (λ q. IsAsked k p c.args.t.0 q before) c.in-Accept.is c.requires.asked in
    let named = accept_names s c.args.next_id k w p c.real_caller-who.result c.real_caller-who.ensures
    c.whole.ensures fd c.leads_to_pipe-of_pipe.result c.leads_to_pipe-of_pipe.ensures c.next_desc-id.result
    c.next_desc-id.ensures in
    countable s c.args.next_id k w p c.args.t.0 fd c.in-Accept.address c.in-Accept.length before asked
    c.accept.new.kernel c.in-Ok-Gives.new
    (subst (λ (a : Attempt). Serves ByNumber same (given_of s) s.kernel c.accept.new.kernel before before a
    (accept_row k p fd 0 before)) c.in-Ok-Gives.field-0-is
    (c.in-Ok-Gives.ensures.ok (given_of s) k p w.stands.kernel w.stands.tables c.real_caller-who.ensures
    before
    named))

pub returns-in-Ok-Fails : goal.returns-in-Ok-Fails
returns-in-Ok-Fails c =
    let s = c.args.system.now in
    let k = c.args.stood.now.kernel in
    let w = c.requires.wrapped in
    let p = c.args.p in
    let before = c.args.transfer.now in
    let fd = c.in-Accept.fd in
    let asked = subst (λ q. IsAsked k p c.args.t.0 q before) c.in-Accept.is c.requires.asked in
    let named = accept_names s c.args.next_id k w p c.real_caller-who.result c.real_caller-who.ensures
    c.whole.ensures fd c.leads_to_pipe-of_pipe.result c.leads_to_pipe-of_pipe.ensures c.next_desc-id.result
    c.next_desc-id.ensures in
    subst (λ (q : Request). StandsAfter (record s { kernel = c.accept.new.kernel }) c.args.next_id k before
    before
    (Error c.in-Ok-Fails.error) (row k p c.args.t.0 q before)) (sym c.in-Accept.is)
    (accept_fails s c.args.next_id k w p c.args.t.0 fd c.in-Accept.address c.in-Accept.length before asked
    c.accept.new.kernel c.in-Ok-Fails.error
    (subst (λ (a : Attempt). Serves ByNumber same (given_of s) s.kernel c.accept.new.kernel before before a
    (accept_row k p fd 0 before)) c.in-Ok-Fails.field-0-is
    (c.in-Ok-Fails.ensures.ok (given_of s) k p w.stands.kernel w.stands.tables c.real_caller-who.ensures
    before
    named)))

pub returns-in-Ok-NotReady : goal.returns-in-Ok-NotReady
returns-in-Ok-NotReady c =
    let s = c.args.system.now in
    let k = c.args.stood.now.kernel in
    let w = c.requires.wrapped in
    let p = c.args.p in
    let before = c.args.transfer.now in
    let fd = c.in-Accept.fd in
    let asked = subst (λ q. IsAsked k p c.args.t.0 q before) c.in-Accept.is c.requires.asked in
    let named = accept_names s c.args.next_id k w p c.real_caller-who.result c.real_caller-who.ensures
    c.whole.ensures fd c.leads_to_pipe-of_pipe.result c.leads_to_pipe-of_pipe.ensures c.next_desc-id.result
    c.next_desc-id.ensures in
    subst (λ (q : Request). StandsAfter (record s { kernel = c.accept.new.kernel }) c.args.next_id k before
    before
    NotReady (row k p c.args.t.0 q before)) (sym c.in-Accept.is)
    (accept_waits s c.args.next_id k w p c.args.t.0 fd c.in-Accept.address c.in-Accept.length before asked
    c.accept.new.kernel
    (subst (λ (a : Attempt). Serves ByNumber same (given_of s) s.kernel c.accept.new.kernel before before a
    (accept_row k p fd 0 before)) c.in-Ok-NotReady.field-0-is
    (c.in-Ok-NotReady.ensures.ok (given_of s) k p w.stands.kernel w.stands.tables c.real_caller-who.ensures
    before
    named)))

pub returns-in-Ok-Gives : goal.returns-in-Ok-Gives
returns-in-Ok-Gives c =
    let s = c.args.system.now in
    let k = c.args.stood.now.kernel in
    let w = c.requires.wrapped in
    let p = c.args.p in
    let before = c.args.transfer.now in
    let fd = c.in-Accept.fd in
    let asked = subst (λ q. IsAsked k p c.args.t.0 q before) c.in-Accept.is c.requires.asked in
    let named = accept_names s c.args.next_id k w p c.real_caller-who.result c.real_caller-who.ensures
    c.whole.ensures fd c.leads_to_pipe-of_pipe.result c.leads_to_pipe-of_pipe.ensures c.next_desc-id.result
    c.next_desc-id.ensures in
    subst (λ (q : Request). StandsAfter
    (record s { kernel = c.accept.new.kernel; conns = c.count_made.new.conns })
    c.args.next_id k before c.tell_client.new.transfer (Done c.in-Ok-Gives.new) (row k p c.args.t.0 q before))
    (sym c.in-Accept.is)
    (accept_done s c.args.next_id k w p c.args.t.0 fd c.in-Accept.address c.in-Accept.length before asked
    c.accept.new.kernel c.in-Ok-Gives.new
    (subst (λ (a : Attempt). Serves ByNumber same (given_of s) s.kernel c.accept.new.kernel before before a
    (accept_row k p fd 0 before)) c.in-Ok-Gives.field-0-is
    (c.in-Ok-Gives.ensures.ok (given_of s) k p w.stands.kernel w.stands.tables c.real_caller-who.ensures
    before
    named))
    c.real_caller-who.result c.real_caller-who.ensures c.count_made.new.conns c.count_made.ensures
    c.tell_client.new.transfer c.tell_client.ensures)
