use Rattle.plain_memory.proofs.LentLengths.{is_short}
use Rattle.plain_memory.proofs.lending.short_bytes_of.Goals as goal

pub returns-clause-short : goal.returns-clause-short
returns-clause-short c = is_short c.args.memory.now c.args.source c.in_ok-bytes.bytes c.requires c.in_ok-bytes.ensures
