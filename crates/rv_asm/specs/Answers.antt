-- What the assembler answers where a text has no file.
use Rattle.std.specs.Prelude.{◌≡◌, ℕ, ◌+◌, ◌-◌, ◌^◌, min}
use Rattle.rv_asm.specs.declared.asm_fault.AsmFault.{AsmFault}
use Rattle.rv_asm.specs.declared.asm_fault.AsmFault.TheVariants.{Line, Memory}
use Rattle.rv_asm.specs.Files.{IsFirstBroken}
use Rattle.rv_asm.specs.Layout.{Lines}

-- the number of a line, counted from 1; those past the last number stand as the last
abbrev pub number_of : ℕ → ℕ
number_of n = min (n + 1) (2 ^ 32 - 1)

-- the fault is the first line that breaks a rule, or want of memory
abbrev pub Refuses : Lines → AsmFault → Type 0
Refuses lines (Line number) = (n : ℕ) × IsFirstBroken lines n × (number ≡ number_of n)
Refuses lines Memory = Unit {0}
