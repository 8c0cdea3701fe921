use Rattle.std.proofs.Common.{sym, subst}
use Rattle.call_table.specs.declared.request.Request.{Request}
use Rattle.plain_machine.specs.RowLaws.{IsAsked}
use Rattle.plain_machine.specs.Serve.{row}
use Rattle.host_tables.specs.declared.reply.KernelReply.TheVariants.{Error}
use Rattle.wrap_names.specs.Wrapping.{StandsAfter}
use Rattle.wrap_sockets.proofs.ListenedCalls.{listen_fails, listen_done}
use Rattle.wrap_sockets.proofs.Meetings.{no_listen}
use Rattle.wrap_sockets.proofs.listening.listen.Goals as goal

pub unreachable-requires : goal.unreachable-requires
unreachable-requires c = no_listen c.args.request.now c.requires.listens c.in_default.not-Listen

pub returns-in-Err : goal.returns-in-Err
returns-in-Err c =
    let s = c.args.system.now in
    let k = c.args.stood.now.kernel in
    let w = c.requires.wrapped in
    let p = c.args.p in
    let t = c.args.t.0 in
    let before = c.args.transfer.now in
    let asked = subst (λ q. IsAsked k p t q before) c.in-Listen.is c.requires.asked in
    subst (λ (q : Request). StandsAfter s c.args.next_id k before before (Error c.in-Err.error)
    (row k p t q before))
    (sym c.in-Listen.is)
    (listen_fails s c.args.next_id k w p t c.in-Listen.fd c.in-Listen.backlog before asked c.in-Err.error
    (c.in-Err.ensures k c.args.next_id p w c.real_caller-who.ensures))

pub returns-in-Ok : goal.returns-in-Ok
returns-in-Ok c =
    let s = c.args.system.now in
    let k = c.args.stood.now.kernel in
    let w = c.requires.wrapped in
    let p = c.args.p in
    let t = c.args.t.0 in
    let before = c.args.transfer.now in
    let asked = subst (λ q. IsAsked k p t q before) c.in-Listen.is c.requires.asked in
    subst (λ (q : Request). StandsAfter c.listen_at.new.system c.args.next_id k before before
    c.listen_at.result
    (row k p t q before)) (sym c.in-Listen.is)
    (listen_done s c.args.next_id k w p t c.in-Listen.fd c.in-Listen.backlog before asked
    c.real_caller-who.result
    c.real_caller-who.ensures c.in-Ok.found (c.in-Ok.ensures k c.args.next_id p w c.real_caller-who.ensures)
    c.listen_at.new.system c.listen_at.result c.listen_at.ensures)
