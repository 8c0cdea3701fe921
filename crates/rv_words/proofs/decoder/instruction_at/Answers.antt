use Rattle.std.proofs.Common.{Some, sym, ap, arith}
use Rattle.std.specs.Option.{option_map}
use Rattle.plain_process.specs.Instructions.{encoding}
use Rattle.plain_process.specs.declared.instruction.Insn.{Insn}
use Rattle.rv_words.specs.Fields.{row_at, with_operands}
use Rattle.rv_words.proofs.Fields.{no_row}
use Rattle.rv_words.proofs.decoder.instruction_at.Goals as goal

pub returns-in-55 : goal.returns-in-55
unfolding row_at encoding
returns-in-55 c = rw c.in-55.is (ap (λ (i : Insn). Some i) c.of_upper.ensures)

pub returns-in-23 : goal.returns-in-23
unfolding row_at encoding
returns-in-23 c = rw c.in-23.is (ap (λ (i : Insn). Some i) c.of_upper-in-23.ensures)

pub returns-in-111 : goal.returns-in-111
unfolding row_at encoding
returns-in-111 c = rw c.in-111.is (ap (λ (i : Insn). Some i) c.of_jump.ensures)

pub returns-in_default : goal.returns-in_default
returns-in_default c = ap (option_map (with_operands c.args.word)) (sym (no_row c.args.opcode c.args.funct3 c.args.funct7 c.args.word (omega arith) (omega arith) (omega arith) (omega arith) (omega arith) (omega arith) (omega arith) (omega arith) (omega arith) (omega arith) (omega arith)))
