-- What a line of a program's text says.
--     Statement               statements, with names as texts and with the bytes that data have
--     meant statement         the statement that the reader's value stands for
use Rattle.std.specs.Prelude.{ℕ, List, [], ◌∷◌, unwrap_or}
use Rattle.std.specs.Prelude.{replicate}
use Rattle.plain_process.specs.declared.instruction.Insn.{Insn}
use Rattle.asm_lines.specs.declared.statement.Statement.{Statement as Value}
use Rattle.asm_lines.specs.declared.statement.Statement.TheVariants as value
use Rattle.asm_parts.specs.Texts.{Text}
use Rattle.asm_parts.specs.Quotes.{spelled}

pub data Statement : Type 0 where
  -- an empty line, or a comment
  nothing : Statement
  label : Text → Statement
  one : Insn → Statement
  -- an instruction whose immediate is how far the label of this name is from it
  aimed : Insn → Text → Statement
  -- a word of 32 bits into a register
  constant : ℕ → ℕ → Statement
  -- the address of a label into a register
  address : ℕ → Text → Statement
  word : ℕ → Statement
  bytes : List ℕ → Statement
  -- zeros up to a multiple of 4
  align : Statement

abbrev pub meant : Value → Statement
meant value.Nothing = nothing
meant (value.Label name) = label name.now
meant (value.One insn) = one insn
meant (value.Aimed insn name) = aimed insn name.now
meant (value.Constant rd n) = constant rd n
meant (value.Address rd name) = address rd name.now
meant (value.Word n) = word n
meant (value.Byte n) = bytes (n ∷ [])
meant (value.Zeros n) = bytes (replicate n 0)
meant (value.Ascii inside) = bytes (unwrap_or (spelled inside.now) [])
meant value.Align = align
