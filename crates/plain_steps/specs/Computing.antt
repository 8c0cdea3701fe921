-- What an instruction does, from what it computes of its operands.
--     size_of width                       how many bytes an access of this width has
--     effect_of computed rd regs memory   the effect of what was computed, with this destination
--     OnlyWrites op                       it writes its destination and goes on, and does nothing else
use Rattle.std.specs.Prelude.{ℕ}
use Rattle.plain_process.specs.declared.regs.Regs.{Regs}
use Rattle.plain_process.specs.Memory.{Memory, load, store}
use Rattle.plain_process.specs.Registers.{at_pc, next_pc}
use Rattle.plain_process.specs.Instructions.{Effect, Next, Calls, Traps, BREAKPOINT, writes, jumps, branches, loads, stores, same, sign_extended}
use Rattle.plain_process.specs.declared.instruction.Op.{Op}
use Rattle.plain_process.specs.declared.instruction.Op.TheVariants as row
use Rattle.plain_steps.specs.declared.computing.Computed.{Computed}
use Rattle.plain_steps.specs.declared.computing.Computed.TheVariants.{Value, Jump, Branch, SignedByte, SignedHalf, Load, Store, Nothing, Call, Break}
use Rattle.plain_steps.specs.declared.computing.Width.{Width}
use Rattle.plain_steps.specs.declared.computing.Width.TheVariants as width

abbrev pub size_of : Width → ℕ
size_of width.Byte = 1
size_of width.Half = 2
size_of width.Word = 4

abbrev pub effect_of : Computed → ℕ → Regs → Memory → Effect
effect_of (Value value) rd regs memory = writes regs memory rd value
effect_of (Jump target) rd regs memory = jumps regs memory rd target
effect_of (Branch is_taken target) rd regs memory = branches regs memory is_taken target
effect_of (SignedByte address) rd regs memory = loads regs memory rd (sign_extended 8) (load memory address 1)
effect_of (SignedHalf address) rd regs memory = loads regs memory rd (sign_extended 16) (load memory address 2)
effect_of (Load address width) rd regs memory = loads regs memory rd same (load memory address (size_of width))
effect_of (Store address width value) rd regs memory = stores regs (store memory address (size_of width) value)
effect_of Nothing rd regs memory = Next (at_pc regs (next_pc regs)) memory
effect_of Call rd regs memory = Calls
effect_of Break rd regs memory = Traps BREAKPOINT

abbrev pub OnlyWrites : Op → Type 0
OnlyWrites row.Jal = ⊥
OnlyWrites row.Jalr = ⊥
OnlyWrites row.Beq = ⊥
OnlyWrites row.Bne = ⊥
OnlyWrites row.Blt = ⊥
OnlyWrites row.Bge = ⊥
OnlyWrites row.Bltu = ⊥
OnlyWrites row.Bgeu = ⊥
OnlyWrites row.Lb = ⊥
OnlyWrites row.Lh = ⊥
OnlyWrites row.Lw = ⊥
OnlyWrites row.Lbu = ⊥
OnlyWrites row.Lhu = ⊥
OnlyWrites row.Sb = ⊥
OnlyWrites row.Sh = ⊥
OnlyWrites row.Sw = ⊥
OnlyWrites row.Fence = ⊥
OnlyWrites row.Ecall = ⊥
OnlyWrites row.Ebreak = ⊥
OnlyWrites _ = Unit {0}
