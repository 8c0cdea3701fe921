use Rattle.std.proofs.Common.{sym, ◌∙◌}
use Rattle.std.proofs.lemmas.Option.{none-some}
use Rattle.wrap_names.proofs.Callers.{caller_there, paired}
use Rattle.wrap_sockets.proofs.callers.real_caller.Goals as goal

pub unreachable-requires : goal.unreachable-requires
unreachable-requires c =
    let there = caller_there c.args.system.now c.args.next_id c.args.stood.now.kernel c.requires.wrapped
    c.args.p c.args.t.0 c.args.request.now c.args.transfer.now c.requires.asked in
    none-some there.0 (sym c.in_default.is ∙ c.caller_of.ensures ∙ there.1)

pub returns : goal.returns
returns c =
    paired c.args.system.now c.args.next_id c.args.stood.now.kernel c.requires.wrapped c.args.p c.args.t.0
    c.args.request.now c.args.transfer.now c.requires.asked c.in-Some.caller
    (sym c.caller_of.ensures ∙ c.in-Some.is)
