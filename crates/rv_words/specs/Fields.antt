-- The instruction table by the fields of a word: opcode o, funct3 f and funct7 g (RISC-V unprivileged manual,
-- section 2.2).
--     row_at o f g w      the instruction whose fixed fields are these, where w is the whole word
use Rattle.std.specs.Prelude.{◌==◌, ◌&&◌, ◌%◌, ℕ, Bool, find, Option}
use Rattle.plain_process.specs.declared.instruction.Insn.{Insn}
use Rattle.plain_process.specs.declared.instruction.Op.{Op}
use Rattle.plain_process.specs.Instructions.{Format, R, I, S, B, U, J, Shift, Whole, Encoding, encoding, insn_of, rows}

abbrev pub fits_format : Format → Encoding → ℕ → ℕ → ℕ → ℕ → Bool
fits_format U row o f g w = o == row.opcode
fits_format J row o f g w = o == row.opcode
fits_format I row o f g w = (o == row.opcode) && (f == row.funct3)
fits_format S row o f g w = (o == row.opcode) && (f == row.funct3)
fits_format B row o f g w = (o == row.opcode) && (f == row.funct3)
fits_format R row o f g w = (o == row.opcode) && (f == row.funct3) && (g == row.funct7)
fits_format Shift row o f g w = (o == row.opcode) && (f == row.funct3) && (g == row.funct7)
fits_format Whole row o f g w = (o == row.opcode % 128) && (w == row.opcode)

abbrev pub fits : ℕ → ℕ → ℕ → ℕ → Op → Bool
fits o f g w op = fits_format (encoding op).format (encoding op) o f g w

unfoldable pub row_at : ℕ → ℕ → ℕ → ℕ → Option Op
row_at o f g w = find (fits o f g w) rows

-- an instruction with the operands of a word
abbrev pub with_operands : ℕ → Op → Insn
with_operands w op = insn_of op (encoding op).format w
