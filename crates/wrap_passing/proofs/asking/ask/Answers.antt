use Rattle.std.proofs.Common.{sym, ◌∙◌, subst}
use Rattle.std.proofs.lemmas.Option.{none-some}
use Rattle.plain_machine.specs.Serve.{row}
use Rattle.host_tables.specs.declared.reply.KernelReply.{KernelReply}
use Rattle.host_tables.specs.declared.request.RealRequest.{RealRequest}
use Rattle.host_tables.specs.Conditions.{IsFresh}
use Rattle.host_tables.specs.Requests.{IsNamed}
use Rattle.host_tables.specs.Systems.{given_of}
use Rattle.wrap_names.specs.Asks.{AsksFor}
use Rattle.wrap_names.proofs.Callers.{caller_there, paired, thread_paired, sound, asking}
use Rattle.wrap_passing.proofs.RealCalls.{IsPlain, each_plain, fresh, named}
use Rattle.wrap_passing.proofs.Passing.{passed}
use Rattle.wrap_passing.proofs.asking.ask.Goals as goal

pub unreachable-requires : goal.unreachable-requires
unreachable-requires c =
    let there = caller_there c.args.system.now c.args.next_id c.args.stood.now.kernel c.requires.wrapped
    c.args.p c.args.t.0 c.args.request.now c.args.transfer.now c.requires.asked in
    none-some there.0 (sym c.in_default.is ∙ c.caller_of.ensures ∙ there.1)

pub serve-reply-requires-clause-sound : goal.serve-reply-requires-clause-sound
serve-reply-requires-clause-sound c =
    sound c.args.system.now c.args.next_id c.args.stood.now.kernel c.requires.wrapped

pub serve-reply-requires-clause-asking : goal.serve-reply-requires-clause-asking
serve-reply-requires-clause-asking c =
    asking c.args.system.now c.args.next_id c.args.stood.now.kernel c.requires.wrapped c.args.p c.args.t.0
    c.args.request.now c.args.transfer.now c.requires.asked c.in-Some.caller
    (sym c.caller_of.ensures ∙ c.in-Some.is)

pub serve-reply-requires-clause-fresh : goal.serve-reply-requires-clause-fresh
serve-reply-requires-clause-fresh c =
    subst (IsFresh c.args.system.now.kernel c.in-Some.caller.who) (sym c.real_of-req.ensures)
    (fresh c.args.system.now c.args.next_id c.args.stood.now.kernel c.requires.wrapped c.args.p c.args.t.0
    c.args.request.now c.args.transfer.now c.requires.asked c.in-Some.caller.who c.args.request.now
    c.requires.served)

pub returns-clause-asks : goal.returns-clause-asks
returns-clause-asks c =
    let s = c.args.system.now in
    let k = c.args.stood.now.kernel in
    let w = c.requires.wrapped in
    let t = c.args.t.0 in
    let r = c.args.request.now in
    let before = c.args.transfer.now in
    let caller = c.in-Some.caller in
    let found = sym c.caller_of.ensures ∙ c.in-Some.is in
    let who = caller.who in
    let is_paired = paired s c.args.next_id k w c.args.p t r before c.requires.asked caller found in
    let plain : IsPlain c.real_of-req.result r =
    subst (λ (q : RealRequest). IsPlain q r) (sym c.real_of-req.ensures)
    (each_plain s c.args.p who r c.requires.served) in
    let names : IsNamed (given_of s) k who c.args.p 0 before c.real_of-req.result =
    subst (λ (q : RealRequest). IsNamed (given_of s) k who c.args.p 0 before q) (sym c.real_of-req.ensures)
    (named s c.args.next_id k w c.args.p who is_paired c.whole.ensures before r c.requires.served) in
    subst (λ (answered : KernelReply). AsksFor s (record s { kernel = c.serve-reply.new.kernel }) k before
    c.serve-reply.new.transfer answered (row k c.args.p t r before)) (sym c.told_reply.ensures)
    (passed s c.args.next_id k w c.args.p t r who caller.thread
    is_paired
    (thread_paired s c.args.next_id k w c.args.p t r before c.requires.asked caller found)
    c.real_of-req.result plain before c.serve-reply.new.transfer names c.serve-reply.new.kernel
    c.serve-reply.result c.serve-reply.ensures)
