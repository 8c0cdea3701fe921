-- What an instruction does, from what it computes of its operands (RISC-V unprivileged manual, chapters 2 and
-- 13).
--     size_of width                          how many bytes an access of this width has
--     effect_of_computed c rd regs memory    the effect of what was computed, with this destination
use Rattle.std.specs.Prelude.{ℕ}
use Rattle.plain_process.specs.declared.regs.Regs.{Regs}
use Rattle.plain_process.specs.Memory.{Memory, load, store}
use Rattle.plain_process.specs.Registers.{at_pc, next_pc}
use Rattle.plain_process.specs.Instructions.{Effect, Next, Calls, Traps, BREAKPOINT, writes, jumps, branches, loads, stores, same, sign_extended}
use Rattle.rv_isa.specs.declared.computing.Computed.{Computed}
use Rattle.rv_isa.specs.declared.computing.Computed.TheVariants.{Value, Jump, Branch, SignedByte, SignedHalf, Load, Store, Fence, Call, Break}
use Rattle.rv_isa.specs.declared.computing.Width.{Width}
use Rattle.rv_isa.specs.declared.computing.Width.TheVariants as width

abbrev pub size_of : Width → ℕ
size_of width.Byte = 1
size_of width.Half = 2
size_of width.Word = 4

abbrev pub effect_of_computed : Computed → ℕ → Regs → Memory → Effect
effect_of_computed (Value value) rd regs memory = writes regs memory rd value
effect_of_computed (Jump target) rd regs memory = jumps regs memory rd target
effect_of_computed (Branch is_taken target) rd regs memory = branches regs memory is_taken target
effect_of_computed (SignedByte address) rd regs memory = loads regs memory rd (sign_extended 8) (load memory address 1)
effect_of_computed (SignedHalf address) rd regs memory = loads regs memory rd (sign_extended 16) (load memory address 2)
effect_of_computed (Load address width) rd regs memory = loads regs memory rd same (load memory address (size_of width))
effect_of_computed (Store address width value) rd regs memory = stores regs (store memory address (size_of width) value)
effect_of_computed Fence rd regs memory = Next (at_pc regs (next_pc regs)) memory
effect_of_computed Call rd regs memory = Calls
effect_of_computed Break rd regs memory = Traps BREAKPOINT
