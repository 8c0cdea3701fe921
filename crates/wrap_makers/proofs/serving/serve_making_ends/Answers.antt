use Rattle.std.proofs.Common.{refl, sym, ap, ◌∙◌, subst}
use Rattle.std.specs.FinMap as map
use Rattle.std.proofs.lemmas.Option.{none-some}
use Rattle.conn_table.specs.declared.table.ConnTable.{ConnTable}
use Rattle.plain_machine.specs.Serve.{row}
use Rattle.host_tables.specs.Conditions.{IsFresh}
use Rattle.wrap_names.specs.Wrapping.{IsWrapped, StandsAfter}
use Rattle.wrap_names.proofs.Callers.{caller_there, paired, thread_paired, sound, asking}
use Rattle.wrap_makers.specs.declared.making.Making.{Making}
use Rattle.wrap_makers.specs.Entries.{settled}
use Rattle.wrap_makers.proofs.Answered.{answered_on, countable}
use Rattle.wrap_makers.proofs.Fits.{Fits, each_fits}
use Rattle.wrap_makers.proofs.serving.serve_making_ends.Goals as goal

pub unreachable-requires : goal.unreachable-requires
unreachable-requires c =
    let there = caller_there c.args.system.now c.args.next_id c.args.stood.now.kernel c.requires.wrapped
    c.args.p c.args.t.0 c.args.request.now c.args.transfer.now c.requires.asked in
    none-some there.0 (sym c.in_default.is ∙ c.caller_of.ensures ∙ there.1)

pub serve-reply-requires-clause-sound : goal.serve-reply-requires-clause-sound
serve-reply-requires-clause-sound c =
    sound c.args.system.now c.args.next_id c.args.stood.now.kernel c.requires.wrapped

pub serve-reply-requires-clause-asking : goal.serve-reply-requires-clause-asking
serve-reply-requires-clause-asking c =
    asking c.args.system.now c.args.next_id c.args.stood.now.kernel c.requires.wrapped c.args.p c.args.t.0
    c.args.request.now c.args.transfer.now c.requires.asked c.in-Some.caller
    (sym c.caller_of.ensures ∙ c.in-Some.is)

pub serve-reply-requires-clause-fresh : goal.serve-reply-requires-clause-fresh
serve-reply-requires-clause-fresh c =
    subst (λ (m : Making). IsFresh c.args.system.now.kernel c.in-Some.caller.who m.call)
    (sym c.making_of-making.ensures)
    ((each_fits c.args.system.now c.args.next_id c.args.stood.now.kernel c.requires.wrapped c.args.p
    c.requires.asked.alive c.args.t.0 c.args.request.now c.args.transfer.now c.requires.family).fresh
    c.in-Some.caller.who)

pub settle-requires : goal.settle-requires
settle-requires c =
    let s = c.args.system.now in
    let k = c.args.stood.now.kernel in
    let w = c.requires.wrapped in
    let p = c.args.p in
    let t = c.args.t.0 in
    let r = c.args.request.now in
    let before = c.args.transfer.now in
    let caller = c.in-Some.caller in
    let found = sym c.caller_of.ensures ∙ c.in-Some.is in
    let fits : Fits s k p t r before c.making_of-making.result =
    subst (λ (m : Making). Fits s k p t r before m) (sym c.making_of-making.ensures)
    (each_fits s c.args.next_id k w p c.requires.asked.alive t r before c.requires.family) in
    λ done maker is.
    countable s c.args.next_id k w p t r before c.requires.asked c.making_of-making.result fits caller.who
    caller.thread (paired s c.args.next_id k w p t r before c.requires.asked caller found)
    (thread_paired s c.args.next_id k w p t r before c.requires.asked caller found)
    c.serve-reply.new.kernel c.serve-reply.new.transfer c.serve-reply.result c.serve-reply.ensures done maker
    (ap (λ (x : ConnTable). map.get x.makers p) (sym c.in-Ok.ensures.ok) ∙ is)

pub returns-in_default-put_entry : goal.returns-in_default-put_entry
returns-in_default-put_entry c = (
  subst (λ (conns : ConnTable). IsWrapped (record c.args.system.now { conns = conns }) c.args.next_id
      c.args.stood.now.kernel) (sym c.in_default-put_entry.ensures.err) c.requires.wrapped,
  refl,
)

pub returns : goal.returns
returns c =
    let s = c.args.system.now in
    let k = c.args.stood.now.kernel in
    let w = c.requires.wrapped in
    let p = c.args.p in
    let t = c.args.t.0 in
    let r = c.args.request.now in
    let before = c.args.transfer.now in
    let caller = c.in-Some.caller in
    let found = sym c.caller_of.ensures ∙ c.in-Some.is in
    let m = c.making_of-making.result in
    let fits : Fits s k p t r before m =
    subst (λ (m : Making). Fits s k p t r before m) (sym c.making_of-making.ensures)
    (each_fits s c.args.next_id k w p c.requires.asked.alive t r before c.requires.family) in
    subst (λ (conns : ConnTable). StandsAfter (record s { kernel = c.serve-reply.new.kernel; conns = conns })
    c.args.next_id k before c.serve-reply.new.transfer c.serve-reply.result (row k p t r before))
    (sym (c.settle.ensures
    ∙ ap (λ (x : ConnTable). settled x p m.entry m.count c.serve-reply.result) c.in-Ok.ensures.ok))
    (answered_on s c.args.next_id k w p t r before c.requires.asked m fits caller.who caller.thread
    (paired s c.args.next_id k w p t r before c.requires.asked caller found)
    (thread_paired s c.args.next_id k w p t r before c.requires.asked caller found)
    c.serve-reply.new.kernel c.serve-reply.new.transfer c.serve-reply.result c.serve-reply.ensures)
