use Rattle.std.proofs.Common.{Some, sym, ap, ◌∙◌, List, ℕ}
use Rattle.asm_parts.proofs.OperandLaws.{one_more, one_last}
use Rattle.asm_parts.proofs.operands.one_in.Goals as goal

pub returns-in-Some : goal.returns-in-Some
returns-in-Some c = sym (one_more c.args.text.now _ c.in-Some.ensures)

pub returns-in-None : goal.returns-in-None
returns-in-None c = ap (λ (a : List ℕ). Some a) c.without_spaces.ensures ∙ sym (one_last c.args.text.now c.in-None.ensures)
