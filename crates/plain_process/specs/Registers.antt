-- Registers x0 to x31, where x0 reads 0 and is never written, and the program counter (unprivileged manual,
-- section 2.1).
use Rattle.std.specs.Prelude.{◌==◌, ℕ, ◌+◌, ◌%◌, ◌^◌, slice_index, slice_set, if◌then◌else◌}
use Rattle.elf32.specs.OfViews.Numbers.{Address}
use Rattle.plain_process.specs.declared.regs.Regs.{Regs}

abbrev pub reg : Regs → ℕ → ℕ
reg regs i = if i == 0 then 0 else slice_index regs.x i

abbrev pub with_reg : Regs → ℕ → ℕ → Regs
with_reg regs i value = if i == 0 then regs else record { x = slice_set regs.x i value; pc = regs.pc }

abbrev pub at_pc : Regs → Address → Regs
at_pc regs address = record { x = regs.x; pc = address }

-- the address of the next instruction
abbrev pub next_pc : Regs → Address
next_pc regs = (regs.pc + 4) % 2 ^ 32

-- the registers that the calling convention names (RISC-V ELF psABI, chapter 1)
abbrev pub RA : ℕ
RA = 1

abbrev pub SP : ℕ
SP = 2

abbrev pub TP : ℕ
TP = 4

abbrev pub A0 : ℕ
A0 = 10

abbrev pub A1 : ℕ
A1 = 11

abbrev pub A2 : ℕ
A2 = 12
