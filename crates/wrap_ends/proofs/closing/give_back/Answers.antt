use Rattle.wrap_names.proofs.OfHostProcesses.LowestCloses.{nothing_closed}
use Rattle.wrap_ends.proofs.closing.give_back.Goals as goal

pub returns : goal.returns
returns c =
    nothing_closed c.args.book.now.descriptors c.args.who c.requires.none c.end_table.result
    c.end_table.ensures.lowest c.end_table.ensures.none
