use Rattle.std.proofs.Common.{◌≡◌, true, length}
use Rattle.std.specs.Prelude.{is_some}
use Rattle.asm_parts.specs.Quotes.{spelled}
use Rattle.asm_parts.proofs.QuoteLaws.{put_behind}
use Rattle.asm_parts.proofs.quoted.put_spelled.Given as goal

abbrev pub invariant-loop-rest : goal.invariant-loop-rest
invariant-loop-rest l = (put_behind l.initial.out.items (spelled l.inside) ≡ put_behind l.out.items (spelled l.rest)) × (is_some (spelled l.rest) ≡ true)

abbrev pub decreases-loop-rest : goal.decreases-loop-rest
decreases-loop-rest l = length l.rest
