use Rattle.conn_table.proofs.FreeNumbers.{taken_none, taken_more, lowest_found}
use Rattle.conn_table.proofs.opening.lowest_among.Goals as goal

pub loop-number-init : goal.loop-number-init
loop-number-init c = taken_none c.args.pairs.now

pub loop-number-preserved : goal.loop-number-preserved
loop-number-preserved c =
    taken_more c.args.pairs.now c.loop-number.number c.contains_key.result c.loop-number.invariant
    c.contains_key.ensures c.if-not-contains_key.false

pub returns-then-not-contains_key-clause-found : goal.returns-then-not-contains_key-clause-found
returns-then-not-contains_key-clause-found c =
    lowest_found c.args.pairs.now c.loop-number.number c.contains_key.result c.loop-number.invariant
    c.contains_key.ensures c.if-not-contains_key.true
