use Rattle.std.proofs.Common.{[], sym, ◌∙◌, subst}
use Rattle.std.proofs.lemmas.Option.{none-some}
use Rattle.call_table.specs.declared.request.Request.TheVariants.{Getpid}
use Rattle.plain_machine.specs.Kernel.{after_take}
use Rattle.proc_book.specs.Procs.{ProcTable}
use Rattle.wrap_names.specs.Wrapping.{IsWrapped}
use Rattle.wrap_names.proofs.Callers.{caller_there}
use Rattle.wrap_passing.proofs.TakenSignals.{asked_nothing, taken_wrapped}
use Rattle.wrap_passing.proofs.taking.take_signal.Goals as goal

pub unreachable-requires : goal.unreachable-requires
unreachable-requires c =
    let k = c.args.stood.now.kernel in
    let there = caller_there c.args.system.now c.args.next_id k c.requires.wrapped c.args.p c.args.t.0 Getpid []
    (asked_nothing k c.args.p c.args.t.0 c.requires.wrapped.stands.kernel c.requires.alive c.requires.thread) in
    none-some there.0 (sym c.in_default.is ∙ c.caller_of.ensures ∙ there.1)

pub returns : goal.returns
returns c =
    let s = c.args.system.now in
    let k = c.args.stood.now.kernel in
    subst (λ (procs : ProcTable). IsWrapped (record s { kernel = record s.kernel { procs = procs } }) c.args.next_id
    (after_take k c.args.p c.args.t.0 c.args.signal.0)) (sym c.take.ensures.taken)
    (taken_wrapped s c.args.next_id k c.requires.wrapped c.args.p c.args.t.0 c.requires.alive c.requires.thread
    c.in-Some.caller (sym c.caller_of.ensures ∙ c.in-Some.is) c.args.signal.0)
