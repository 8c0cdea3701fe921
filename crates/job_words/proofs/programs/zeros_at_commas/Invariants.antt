use Rattle.std.proofs.Common.{◌≡◌, map, take}
use Rattle.job_words.specs.Parts.{zero_at_comma}
use Rattle.job_words.proofs.programs.zeros_at_commas.Given as goal

abbrev pub invariant-loop-byte : goal.invariant-loop-byte
invariant-loop-byte l = l.bytes.items ≡ map zero_at_comma (take l.byte-index l.text)
