use Rattle.std.proofs.Common.{◌≡◌, ◌+◌, ◌≤◌, length}
use Rattle.std.specs.Prelude.{option_map}
use Rattle.asm_parts.specs.Quotes.{spelled}
use Rattle.asm_parts.proofs.QuoteLaws.{counted}
use Rattle.asm_parts.proofs.quoted.spelled_len.Given as goal

abbrev pub invariant-loop-rest : goal.invariant-loop-rest
invariant-loop-rest l = (option_map length (spelled l.inside) ≡ counted l.count (spelled l.rest)) × (l.count + length l.rest ≤ length l.inside)

abbrev pub decreases-loop-rest : goal.decreases-loop-rest
decreases-loop-rest l = length l.rest
