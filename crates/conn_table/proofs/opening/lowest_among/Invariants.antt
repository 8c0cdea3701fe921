use Rattle.conn_table.specs.Openings.{AreTaken}
use Rattle.conn_table.proofs.opening.lowest_among.Given as goal

abbrev pub invariant-loop-number : goal.invariant-loop-number
invariant-loop-number l = AreTaken l.pairs l.number
