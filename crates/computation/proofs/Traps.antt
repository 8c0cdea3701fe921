-- The signal of a trap is one of 1 to 31.
use Rattle.std.proofs.Common.{◌≡◌, ℕ, ◌+◌, ◌*◌, ◌/◌, ◌%◌, ◌^◌, ◌≤◌, Bool, true, false, not, cond, Option, Some, None, subst, arith}
use Rattle.std.specs.Prelude.{◌==◌, nat_lt, int_lt}
use Rattle.std.specs.FinMap as map
use Rattle.plain_process.specs.declared.instruction.Insn.{Insn}
use Rattle.plain_process.specs.declared.instruction.Op.{Op}
use Rattle.plain_process.specs.declared.instruction.Op.TheVariants.{Jal, Jalr, Beq, Bne, Blt, Bge, Bltu, Bgeu, Lb, Lh, Lw, Lbu, Lhu, Sb, Sh, Sw, Ebreak}
use Rattle.plain_process.specs.declared.regs.Regs.{Regs}
use Rattle.plain_process.specs.declared.user_part.UserPart.{UserPart}
use Rattle.plain_process.specs.declared.user_part.ThreadPart.{ThreadPart}
use Rattle.plain_process.specs.Memory.{Memory, load, store, fetch}
use Rattle.plain_process.specs.Instructions.{Effect, Next, Calls, Traps, goes_to, jumps, branches, loads, stores, effect_by, effect, decoded, signed, sign_extended, same, word}
use Rattle.plain_process.specs.Registers.{reg, with_reg, at_pc, next_pc}
use Rattle.plain_process.specs.Steps.{UserStep, Trapped, Waits, effect_of_insn, effect_of_word, effect_at, step_by, step_of, user_step, waits}

abbrev IsSignal : ℕ → Type 0
IsSignal s = (1 ≤ s) × (s ≤ 31)

abbrev Tame : Effect → Type 0
Tame (Next regs memory) = Unit {0}
Tame Calls = Unit {0}
Tame (Traps s) = IsSignal s

goes_tame : (regs : Regs) (memory : Memory) (target : ℕ) → Tame (goes_to regs memory target)
goes_tame regs memory target = elim (target % 4 == 0) as (λ aligned. Tame (cond aligned (Next (record { x = regs.x; pc = target }) memory) (Traps 7))) [ true ↦ tt | false ↦ (omega arith, omega arith) ]

jump_tame : (regs : Regs) (memory : Memory) (rd target : ℕ) → Tame (jumps regs memory rd target)
jump_tame regs memory rd target = elim (target % 4 == 0) as (λ aligned. Tame (cond aligned (Next (at_pc (with_reg regs rd (next_pc regs)) target) memory) (Traps 7))) [ true ↦ tt | false ↦ (omega arith, omega arith) ]

branch_tame : (regs : Regs) (memory : Memory) (taken : Bool) (target : ℕ) → Tame (branches regs memory taken target)
branch_tame regs memory true target = goes_tame regs memory target
branch_tame regs memory false target = tt

load_tame : (regs : Regs) (memory : Memory) (rd : ℕ) (extended : ℕ → ℕ) (value : Option ℕ) → Tame (loads regs memory rd extended value)
load_tame regs memory rd extended None = (omega arith, omega arith)
load_tame regs memory rd extended (Some value) = tt

store_tame : (regs : Regs) (memory : Option Memory) → Tame (stores regs memory)
store_tame regs None = (omega arith, omega arith)
store_tame regs (Some memory) = tt

effect_by_tame : (op : Op) (rd i a b : ℕ) (regs : Regs) (memory : Memory) → Tame (effect_by op rd i a b regs memory)
unfolding effect_by
effect_by_tame Jal rd i a b regs memory = jump_tame regs memory rd ((regs.pc + i) % 2 ^ 32)
effect_by_tame Jalr rd i a b regs memory = jump_tame regs memory rd (2 * ((a + i) % 2 ^ 32 / 2))
effect_by_tame Beq rd i a b regs memory = branch_tame regs memory (a == b) ((regs.pc + i) % 2 ^ 32)
effect_by_tame Bne rd i a b regs memory = branch_tame regs memory (not (a == b)) ((regs.pc + i) % 2 ^ 32)
effect_by_tame Blt rd i a b regs memory = branch_tame regs memory (int_lt (signed a) (signed b)) ((regs.pc + i) % 2 ^ 32)
effect_by_tame Bge rd i a b regs memory = branch_tame regs memory (not (int_lt (signed a) (signed b))) ((regs.pc + i) % 2 ^ 32)
effect_by_tame Bltu rd i a b regs memory = branch_tame regs memory (nat_lt a b) ((regs.pc + i) % 2 ^ 32)
effect_by_tame Bgeu rd i a b regs memory = branch_tame regs memory (not (nat_lt a b)) ((regs.pc + i) % 2 ^ 32)
effect_by_tame Lb rd i a b regs memory = load_tame regs memory rd (sign_extended 8) (load memory ((a + i) % 2 ^ 32) 1)
effect_by_tame Lh rd i a b regs memory = load_tame regs memory rd (sign_extended 16) (load memory ((a + i) % 2 ^ 32) 2)
effect_by_tame Lw rd i a b regs memory = load_tame regs memory rd same (load memory ((a + i) % 2 ^ 32) 4)
effect_by_tame Lbu rd i a b regs memory = load_tame regs memory rd same (load memory ((a + i) % 2 ^ 32) 1)
effect_by_tame Lhu rd i a b regs memory = load_tame regs memory rd same (load memory ((a + i) % 2 ^ 32) 2)
effect_by_tame Sb rd i a b regs memory = store_tame regs (store memory ((a + i) % 2 ^ 32) 1 b)
effect_by_tame Sh rd i a b regs memory = store_tame regs (store memory ((a + i) % 2 ^ 32) 2 b)
effect_by_tame Sw rd i a b regs memory = store_tame regs (store memory ((a + i) % 2 ^ 32) 4 b)
effect_by_tame Ebreak rd i a b regs memory = (omega arith, omega arith)
effect_by_tame _ rd i a b regs memory = tt

effect_tame : (insn : Insn) (regs : Regs) (memory : Memory) → Tame (effect insn regs memory)
unfolding effect
effect_tame insn regs memory = effect_by_tame insn.op insn.rd (word insn.imm) (reg regs insn.rs1) (reg regs insn.rs2) regs memory

insn_tame : (insn : Option Insn) (regs : Regs) (memory : Memory) → Tame (effect_of_insn insn regs memory)
insn_tame None regs memory = (omega arith, omega arith)
insn_tame (Some insn) regs memory = effect_tame insn regs memory

word_tame : (w : Option ℕ) (regs : Regs) (memory : Memory) → Tame (effect_of_word w regs memory)
word_tame None regs memory = (omega arith, omega arith)
word_tame (Some w) regs memory = insn_tame (decoded w) regs memory

at_tame : (regs : Regs) (memory : Memory) → Tame (effect_at regs memory)
unfolding effect_at
at_tame regs memory = word_tame (fetch memory regs.pc) regs memory

abbrev TamePlace : UserStep → Type 0
TamePlace (Trapped s) = IsSignal s
TamePlace _ = Unit {0}

by_tame : (user : UserPart) (t : ℕ) (thread : ThreadPart) (e : Effect) → Tame e → TamePlace (step_by user t thread e)
by_tame user t thread (Next regs memory) tame = tt
by_tame user t thread Calls tame = tt
by_tame user t thread (Traps s) tame = tame

of_tame : (user : UserPart) (t : ℕ) (thread : Option ThreadPart) → TamePlace (step_of user t thread)
of_tame user t None = tt
of_tame user t (Some thread) = elim (waits user t) as (λ w. TamePlace (cond w Waits (step_by user t thread (effect_at thread.regs user.memory)))) [
  | true ↦ tt
  | false ↦ by_tame user t thread (effect_at thread.regs user.memory) (at_tame thread.regs user.memory)
]

place_tame : (user : UserPart) (t : ℕ) → TamePlace (user_step user t)
unfolding user_step
place_tame user t = of_tame user t (map.get user.threads t)

pub trap_is_signal : (user : UserPart) (t s : ℕ) → user_step user t ≡ Trapped s → (1 ≤ s) × (s ≤ 31)
trap_is_signal user t s is = subst TamePlace is (place_tame user t)
