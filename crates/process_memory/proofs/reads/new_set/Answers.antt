use Rattle.std.proofs.Common.{rules}
use Rattle.process_memory.proofs.LocalReads.{set_read}
use Rattle.process_memory.proofs.reads.new_set.Goals as goal

pub returns-else-address-eq0 : goal.returns-else-address-eq0
returns-else-address-eq0 c given read = set_read c.args.space.now c.args.address given c.word_at.result (search rules) c.word_at.ensures read
