use Rattle.std.proofs.Common.{◌+◌, drop, sym, ap, ◌∙◌, arith}
use Rattle.std.specs.FinMap as map
use Rattle.conn_table.specs.declared.table.ConnTable.{ConnTable}
use Rattle.wire_net.specs.Networks.{waiting_at}
use Rattle.wrap_ends.proofs.Waiting.{queued_is, without_queue, turned, rested, past}
use Rattle.wrap_ends.proofs.forgetting.forget_waiting.Goals as goal

pub returns-in_default : goal.returns-in_default
returns-in_default c short =
    let listener = map.get c.args.net.now.listeners c.args.at in
    rested c.loop-place.conns (waiting_at listener) c.loop-place.place
    (sym (queued_is listener c.loop-place.place) ∙ sym c.queued.ensures ∙ c.in_default.is)
    ∙ c.loop-place.invariant

pub loop-place-preserved : goal.loop-place-preserved
loop-place-preserved c =
    let listener = map.get c.args.net.now.listeners c.args.at in
    let queue = waiting_at listener in
    ap (λ (t : ConnTable). without_queue t (drop (c.loop-place.place + 1) queue))
    (c.drop_end.ensures.closed (omega arith))
    ∙ turned c.loop-place.conns queue c.loop-place.place c.in-Some.conn
    (sym (queued_is listener c.loop-place.place) ∙ sym c.queued.ensures ∙ c.in-Some.is)
    ∙ c.loop-place.invariant

pub returns : goal.returns
returns c short =
    let queue = waiting_at (map.get c.args.net.now.listeners c.args.at) in
    let over = c.loop-place-test.false in
    past c.loop-place.conns queue c.loop-place.place (omega (arith, short, over)) ∙ c.loop-place.invariant
