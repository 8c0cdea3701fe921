use Rattle.std.proofs.lemmas.List.Elements.{All-nil}
use Rattle.conn_table.specs.Unsupported.{IsSupported}
use Rattle.conn_table.proofs.Leasts.{least_of_more, least_of_all}
use Rattle.conn_table.proofs.unsupported.least_unsupported.Goals as goal

pub loop-row-init : goal.loop-row-init
loop-row-init c = All-nil IsSupported

pub loop-row-preserved : goal.loop-row-preserved
loop-row-preserved c =
    least_of_more c.args.rows.now c.loop-row.row-index _ c.loop-row.least c.lesser-least.result c.loop-row-test.true c.loop-row.invariant c.lesser-least.ensures

pub returns : goal.returns
returns c = least_of_all c.args.rows.now c.loop-row.row-index c.loop-row.least c.loop-row-test.false c.loop-row.invariant
