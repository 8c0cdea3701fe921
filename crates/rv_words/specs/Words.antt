-- The word that an instruction's operands fill in, each cut to the width of its place (RISC-V unprivileged
-- manual, sections 2.2 and 2.3). Where a word is the instruction, it is this one.
--     joined c d f a b g      the word with these fields: opcode, rd, funct3, rs1, rs2 and funct7
--     word_of insn            the word of an instruction
use Rattle.std.specs.Prelude.{ℕ, ◌+◌, ◌*◌, ◌%◌, ◌^◌}
use Rattle.plain_process.specs.declared.instruction.Insn.{Insn}
use Rattle.plain_process.specs.Instructions.{Format, R, I, S, B, U, J, Shift, Whole, Encoding, encoding, bits, word}

abbrev pub joined : ℕ → ℕ → ℕ → ℕ → ℕ → ℕ → ℕ
joined c d f a b g = c + 2 ^ 7 * d + 2 ^ 12 * f + 2 ^ 15 * a + 2 ^ 20 * b + 2 ^ 25 * g

-- i is the immediate modulo 2^32
abbrev pub filled : Format → Encoding → Insn → ℕ → ℕ
filled R row insn i = joined row.opcode (insn.rd % 32) row.funct3 (insn.rs1 % 32) (insn.rs2 % 32) row.funct7
filled I row insn i = joined row.opcode (insn.rd % 32) row.funct3 (insn.rs1 % 32) (bits 0 5 i) (bits 5 7 i)
filled S row insn i = joined row.opcode (bits 0 5 i) row.funct3 (insn.rs1 % 32) (insn.rs2 % 32) (bits 5 7 i)
filled B row insn i = joined row.opcode (bits 11 1 i + 2 * bits 1 4 i) row.funct3 (insn.rs1 % 32) (insn.rs2 % 32) (bits 5 6 i + 2 ^ 6 * bits 12 1 i)
filled U row insn i = joined row.opcode (insn.rd % 32) (bits 12 3 i) (bits 15 5 i) (bits 20 5 i) (bits 25 7 i)
filled J row insn i = joined row.opcode (insn.rd % 32) (bits 12 3 i) (bits 15 5 i) (bits 11 1 i + 2 * bits 1 4 i) (bits 5 6 i + 2 ^ 6 * bits 20 1 i)
filled Shift row insn i = joined row.opcode (insn.rd % 32) row.funct3 (insn.rs1 % 32) (bits 0 5 i) row.funct7
filled Whole row insn i = row.opcode

unfoldable pub word_of : Insn → ℕ
word_of insn = filled (encoding insn.op).format (encoding insn.op) insn (word insn.imm)
