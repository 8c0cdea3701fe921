use Rattle.std.proofs.Common.{sym, ◌∙◌, subst, arith}
use Rattle.conn_table.specs.declared.table.ConnTable.{ConnTable}
use Rattle.plain_machine.specs.Serve.{row}
use Rattle.wrap_names.specs.Wrapping.{StandsAfter}
use Rattle.wrap_passing.proofs.MakingRows.{making_keeps}
use Rattle.wrap_passing.proofs.Made.{unmade_on, done_on, countable_if}
use Rattle.wrap_passing.proofs.serving.serve_making.Goals as goal

pub count_made-requires : goal.count_made-requires
count_made-requires c =
    let k = c.args.stood.now.kernel in
    let t = c.args.t.0 in
    let r = c.args.request.now in
    let before = c.args.transfer.now in
    countable_if c.args.system.now c.args.next_id k c.requires.wrapped c.args.p t r before c.requires.asked 1
    (making_keeps k c.args.p c.requires.wrapped.stands.kernel c.requires.asked.alive t r before c.requires.making)
    c.ask-reply.new.system c.ask-reply.ensures.conns c.ask-reply.new.transfer c.ask-reply.result
    (sym c.is_done.ensures ∙ c.if-not-is_done.false) (omega arith) c.ask-reply.ensures.asks

pub returns-then-not-is_done : goal.returns-then-not-is_done
returns-then-not-is_done c =
    let k = c.args.stood.now.kernel in
    let t = c.args.t.0 in
    let r = c.args.request.now in
    let before = c.args.transfer.now in
    unmade_on c.args.system.now c.args.next_id k c.requires.wrapped c.args.p t r before c.requires.asked 1
    (making_keeps k c.args.p c.requires.wrapped.stands.kernel c.requires.asked.alive t r before c.requires.making)
    c.ask-reply.new.system c.ask-reply.ensures.conns c.ask-reply.new.transfer c.ask-reply.result
    (sym c.is_done.ensures ∙ c.if-not-is_done.true) c.ask-reply.ensures.asks

pub returns : goal.returns
returns c =
    let k = c.args.stood.now.kernel in
    let t = c.args.t.0 in
    let r = c.args.request.now in
    let before = c.args.transfer.now in
    subst (λ (conns : ConnTable). StandsAfter (record c.ask-reply.new.system { conns = conns }) c.args.next_id k before
    c.ask-reply.new.transfer c.ask-reply.result (row k c.args.p t r before)) (sym c.count_made.ensures)
    (done_on c.args.system.now c.args.next_id k c.requires.wrapped c.args.p t r before c.requires.asked 1
    (making_keeps k c.args.p c.requires.wrapped.stands.kernel c.requires.asked.alive t r before c.requires.making)
    c.ask-reply.new.system c.ask-reply.ensures.conns c.ask-reply.new.transfer c.ask-reply.result
    (sym c.is_done.ensures ∙ c.if-not-is_done.false) c.ask-reply.ensures.asks)
