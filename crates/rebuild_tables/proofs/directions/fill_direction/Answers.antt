use Rattle.std.proofs.Common.{sym}
use Rattle.std.specs.FinMap as map
use Rattle.rebuild_tables.proofs.FilledDirections.{none_told}
use Rattle.rebuild_tables.proofs.directions.fill_direction.Goals as goal

pub returns-in_default : goal.returns-in_default
returns-in_default c =
    none_told c.args.net.now c.args.d c.requires.new (map.get c.args.kernel.now.directions c.args.d)
    c.in_default.ensures

pub fill_as-requires-clause-whole : goal.fill_as-requires-clause-whole
fill_as-requires-clause-whole c =
    c.requires.whole.channels.each c.args.d c.in-Some.direction.now (sym c.in-Some.ensures)
