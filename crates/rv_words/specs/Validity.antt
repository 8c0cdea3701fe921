-- Instructions that have a word.
use Rattle.std.specs.Prelude.{◌≡◌, ℕ, ◌<◌, ◌^◌, Some}
use Rattle.plain_process.specs.declared.instruction.Insn.{Insn}
use Rattle.plain_process.specs.Instructions.{decoded}

-- some word of 32 bits is the instruction
pub record IsValid (insn : Insn) : Type 0 where
  pub word : ℕ
  pub in_range : word < 2 ^ 32
  pub decodes : decoded word ≡ Some insn
