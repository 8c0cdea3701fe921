-- Every row of the instruction table keeps registers words and memory valid, with its pages and what may not be written of them.
use Rattle.std.proofs.Common.{◌≡◌, ℕ, zero, suc, ◌+◌, ◌-◌, ◌*◌, ◌/◌, ◌%◌, ◌^◌, ◌<◌, ◌≤◌, Bool, true, false, cond, List, [], ◌∷◌, refl, sym, subst, ◌≢◌, ◌∙◌, arith}
use Rattle.std.specs.Prelude.{◌==◌, nat_lt, not, Option, Some, None, slice_index, slice_set, All, bit_and, int_lt, pos}
use Rattle.std.proofs.lemmas.List.Elements.{All-set}
use Rattle.std.proofs.lemmas.List.{length-set, get_or-set_other}
use Rattle.std.proofs.lemmas.Bool.Decides.{nat_tests}
use Rattle.std.proofs.lemmas.Nat.{or_lt, xor_lt, and_le_l}
use Rattle.std.proofs.Math.Nat.{div-le_self, mod-le}
use Rattle.plain_tables.specs.OfPlainProcess.declared.instruction.Insn.{Insn}
use Rattle.plain_tables.specs.OfPlainProcess.declared.instruction.Op.{Op}
use Rattle.plain_tables.specs.OfPlainProcess.declared.instruction.Op.TheVariants.{Lui, Auipc, Jal, Jalr, Beq, Bne, Blt, Bge, Bltu, Bgeu, Lb, Lh, Lw, Lbu, Lhu, Sb, Sh, Sw, Addi, Slti, Sltiu, Xori, Ori, Andi, Slli, Srli, Srai, Add, Sub, Sll, Slt, Sltu, Xor, Srl, Sra, Or, And, Mul, Mulh, Mulhsu, Mulhu, Div, Divu, Rem, Remu, Fence, Ecall, Ebreak}
use Rattle.plain_tables.specs.OfPlainProcess.declared.regs.Regs.{Regs}
use Rattle.plain_tables.specs.OfPlainProcess.Memory.{Memory, load, fetch}
use Rattle.plain_tables.specs.OfPlainProcess.Registers.{reg, with_reg, at_pc, next_pc}
use Rattle.plain_tables.specs.OfPlainProcess.Instructions.{Effect, Next, Calls, Traps, ILLEGAL, BREAKPOINT, MISALIGNED, FAULT, writes, jumps, branches, loads, stores, signed, word, same, sign_extended, effect_by, effect, bits, immediate, insn_of, encoding, decoded, Format, R, I, S, B, U, J, Shift, Whole}
use Rattle.plain_tables.specs.OfPlainProcess.Steps.{effect_at, effect_of_word, effect_of_insn}
use Rattle.plain_tables.specs.OfPlainProcess.Valid.{IsWord, IsRegs}
use Rattle.plain_tables.proofs.OfPlainProcess.Giving.{Giving, mapped}
use Rattle.plain_machine.proofs.WordBounds.{shifted_word, product_high, signed_small, unsigned_high, quotient_word, remainder_word, either_word, flag_word, signed_back, extended_word, extended_byte, extended_half}
use Rattle.plain_tables.proofs.OfPlainProcess.MemoryBounds.{IsMemory, word_read, kept_by_store}
use Rattle.plain_machine.proofs.MemoryPages.{KeepsPages, kept_pages, store_keeps}

pub record IsAfter (before : Memory) (x : Regs) (m : Memory) : Type 0 where
  pub regs : IsRegs x
  pub memory : IsMemory m
  pub pages : KeepsPages before m

-- what an effect leaves of this memory, where it goes on, is valid; and it traps with a signal
pub record Keeps (before : Memory) (done : Effect) : Type 0 where
  pub each : (regs : Regs) (memory : Memory) → done ≡ Next regs memory → IsAfter before regs memory
  pub trap : (s : ℕ) → done ≡ Traps s → s < 32

goes_on : (before : Memory) (regs : Regs) (memory : Memory) → IsRegs regs → IsMemory memory → KeepsPages before memory → Keeps before (Next regs memory)
goes_on before regs memory first second third = record {
  each = λ other after is.
      let same_regs : regs ≡ other = cc in
      let same_memory : memory ≡ after = cc in
      record { regs = subst IsRegs same_regs first; memory = subst IsMemory same_memory second; pages = subst (KeepsPages before) same_memory third };
  trap = λ s is. cc;
}

traps : {before : Memory} (s : ℕ) → s < 32 → Keeps before (Traps s)
traps s small = record {
  each = λ regs memory is. cc;
  trap = λ other is. let same : s ≡ other = cc in subst (λ n. n < 32) same small;
}

calls : {before : Memory} → Keeps before Calls
calls = record { each = λ regs memory is. cc; trap = λ s is. cc }

either_effect : {before : Memory} (b : Bool) {first second : Effect} → Keeps before first → Keeps before second → Keeps before (cond b first second)
either_effect true holds other = holds
either_effect false other holds = holds

-- registers
pub reg_word : (regs : Regs) (i : ℕ) → IsRegs regs → IsWord (reg regs i)
reg_word regs i are = either_word (i == 0) 0 (slice_index regs.x i) (omega arith) (word_at regs.x i are.words)
  where
    word_at : (xs : List ℕ) (i : ℕ) → All IsWord xs → IsWord (slice_index xs i)
    word_at [] i are = omega arith
    word_at (x ∷ xs) zero are = are 0 0 (omega arith)
    word_at (x ∷ xs) (suc i) are = word_at xs i (λ k d inside. are (suc k) d (omega arith))

pub next_word : (regs : Regs) → IsWord (next_pc regs)
next_word regs = omega arith

pub regs_at : (regs : Regs) (address : ℕ) → IsRegs regs → IsWord address → IsRegs (at_pc regs address)
regs_at regs address are is = record { count = are.count; zero = are.zero; words = are.words; pc = is }

pub regs_with : (regs : Regs) (i value : ℕ) → IsRegs regs → IsWord value → IsRegs (with_reg regs i value)
regs_with regs i value are is = chosen (i == 0) refl
  where
    apart : (i == 0) ≡ false → 0 ≢ i
    apart is_not same = let back : i ≡ 0 = sym same in grind (arith, nat_tests)

    chosen : (b : Bool) → (i == 0) ≡ b → IsRegs (cond b regs (record { x = slice_set regs.x i value; pc = regs.pc }))
    chosen true at = are
    chosen false at = record {
      count = length-set regs.x i value ∙ are.count;
      zero = get_or-set_other regs.x i 0 value 0 (apart at) ∙ are.zero;
      words = All-set IsWord regs.x i value is are.words;
      pc = are.pc;
    }

module _ (regs : Regs) (memory : Memory) (are : IsRegs regs) (before : IsMemory memory) where
  keeps_next : Keeps memory (Next (at_pc regs (next_pc regs)) memory)
  keeps_next = goes_on memory _ memory (regs_at regs _ are (next_word regs)) before (kept_pages memory)

  keeps_write : (rd value : ℕ) → IsWord value → Keeps memory (writes regs memory rd value)
  keeps_write rd value is = goes_on memory _ memory (regs_at _ _ (regs_with regs rd value are is) (next_word regs)) before (kept_pages memory)

  keeps_jump : (rd target : ℕ) → IsWord target → Keeps memory (jumps regs memory rd target)
  keeps_jump rd target is =
      either_effect (target % 4 == 0) (goes_on memory _ memory (regs_at _ _ (regs_with regs rd (next_pc regs) are (next_word regs)) is) before (kept_pages memory)) (traps MISALIGNED (omega arith))

  keeps_branch : (taken : Bool) (target : ℕ) → IsWord target → Keeps memory (branches regs memory taken target)
  keeps_branch taken target is = either_effect taken (either_effect (target % 4 == 0) (goes_on memory _ memory (regs_at regs target are is) before (kept_pages memory)) (traps MISALIGNED (omega arith))) keeps_next

  write_modulo : (rd n : ℕ) → Keeps memory (writes regs memory rd (n % 2 ^ 32))
  write_modulo rd n = keeps_write rd (n % 2 ^ 32) (omega arith)

  jump_modulo : (rd n : ℕ) → Keeps memory (jumps regs memory rd (n % 2 ^ 32))
  jump_modulo rd n = keeps_jump rd (n % 2 ^ 32) (omega arith)

  branch_modulo : (taken : Bool) (n : ℕ) → Keeps memory (branches regs memory taken (n % 2 ^ 32))
  branch_modulo taken n = keeps_branch taken (n % 2 ^ 32) (omega arith)

  keeps_load : (rd bound : ℕ) (extended : ℕ → ℕ) (found : Option ℕ) → Giving found (λ value. value < bound) → ((value : ℕ) → value < bound → IsWord (extended value)) → Keeps memory (loads regs memory rd extended found)
  keeps_load rd bound extended None read fits = traps FAULT (omega arith)
  keeps_load rd bound extended (Some value) read fits = keeps_write rd (extended value) (fits value (read.each value refl))

  keeps_store : (found : Option Memory) → Giving found IsMemory → Giving found (KeepsPages memory) → Keeps memory (stores regs found)
  keeps_store None stored keeps = traps FAULT (omega arith)
  keeps_store (Some after) stored keeps = goes_on memory _ after (regs_at regs _ are (next_word regs)) (stored.each after refl) (keeps.each after refl)

  loads_byte : (rd address : ℕ) (extended : ℕ → ℕ) → ((value : ℕ) → value < 2 ^ 8 → IsWord (extended value)) → Keeps memory (loads regs memory rd extended (load memory address 1))
  loads_byte rd address extended = keeps_load rd (2 ^ 8) extended (load memory address 1) (word_read memory address 1 before.frames)

  loads_half : (rd address : ℕ) (extended : ℕ → ℕ) → ((value : ℕ) → value < 2 ^ 16 → IsWord (extended value)) → Keeps memory (loads regs memory rd extended (load memory address 2))
  loads_half rd address extended = keeps_load rd (2 ^ 16) extended (load memory address 2) (word_read memory address 2 before.frames)

  -- the rows, at words
  keeps_row : (op : Op) (rd i a b : ℕ) → IsWord i → IsWord a → IsWord b → Keeps memory (effect_by op rd i a b regs memory)
  unfolding effect_by
  keeps_row Lui rd i a b hi ha hb = keeps_write rd _ hi
  keeps_row Auipc rd i a b hi ha hb = write_modulo rd _
  keeps_row Jal rd i a b hi ha hb = jump_modulo rd _
  keeps_row Jalr rd i a b hi ha hb = keeps_jump rd (2 * ((a + i) % 2 ^ 32 / 2)) (omega arith)
  keeps_row Beq rd i a b hi ha hb = branch_modulo (a == b) (regs.pc + i)
  keeps_row Bne rd i a b hi ha hb = branch_modulo (not (a == b)) (regs.pc + i)
  keeps_row Blt rd i a b hi ha hb = branch_modulo (int_lt (signed a) (signed b)) (regs.pc + i)
  keeps_row Bge rd i a b hi ha hb = branch_modulo (not (int_lt (signed a) (signed b))) (regs.pc + i)
  keeps_row Bltu rd i a b hi ha hb = branch_modulo (nat_lt a b) (regs.pc + i)
  keeps_row Bgeu rd i a b hi ha hb = branch_modulo (not (nat_lt a b)) (regs.pc + i)
  keeps_row Lb rd i a b hi ha hb = loads_byte rd _ (sign_extended 8) extended_byte
  keeps_row Lh rd i a b hi ha hb = loads_half rd _ (sign_extended 16) extended_half
  keeps_row Lw rd i a b hi ha hb = keeps_load rd (2 ^ 32) same _ (word_read memory _ 4 before.frames) (λ value is. is)
  keeps_row Lbu rd i a b hi ha hb = loads_byte rd _ same (λ value is. omega arith)
  keeps_row Lhu rd i a b hi ha hb = loads_half rd _ same (λ value is. omega arith)
  keeps_row Sb rd i a b hi ha hb = keeps_store _ (kept_by_store memory _ 1 b before) (store_keeps memory _ 1 b)
  keeps_row Sh rd i a b hi ha hb = keeps_store _ (kept_by_store memory _ 2 b before) (store_keeps memory _ 2 b)
  keeps_row Sw rd i a b hi ha hb = keeps_store _ (kept_by_store memory _ 4 b before) (store_keeps memory _ 4 b)
  keeps_row Addi rd i a b hi ha hb = write_modulo rd _
  keeps_row Slti rd i a b hi ha hb = keeps_write rd _ (flag_word _)
  keeps_row Sltiu rd i a b hi ha hb = keeps_write rd _ (flag_word _)
  keeps_row Xori rd i a b hi ha hb = keeps_write rd _ (xor_lt 32 a i ha hi)
  keeps_row Ori rd i a b hi ha hb = keeps_write rd _ (or_lt 32 a i ha hi)
  keeps_row Andi rd i a b hi ha hb = keeps_write rd (bit_and a i) (let less : bit_and a i ≤ a = and_le_l a i in omega arith)
  keeps_row Slli rd i a b hi ha hb = write_modulo rd _
  keeps_row Srli rd i a b hi ha hb = keeps_write rd (a / 2 ^ i) (let less : a / 2 ^ i ≤ a = div-le_self a (2 ^ i) in omega arith)
  keeps_row Srai rd i a b hi ha hb = keeps_write rd _ (shifted_word a i ha)
  keeps_row Add rd i a b hi ha hb = write_modulo rd _
  keeps_row Sub rd i a b hi ha hb = write_modulo rd _
  keeps_row Sll rd i a b hi ha hb = write_modulo rd _
  keeps_row Slt rd i a b hi ha hb = keeps_write rd _ (flag_word _)
  keeps_row Sltu rd i a b hi ha hb = keeps_write rd _ (flag_word _)
  keeps_row Xor rd i a b hi ha hb = keeps_write rd _ (xor_lt 32 a b ha hb)
  keeps_row Srl rd i a b hi ha hb = keeps_write rd (a / 2 ^ (b % 32)) (let less : a / 2 ^ (b % 32) ≤ a = div-le_self a (2 ^ (b % 32)) in omega arith)
  keeps_row Sra rd i a b hi ha hb = keeps_write rd _ (shifted_word a (b % 32) ha)
  keeps_row Or rd i a b hi ha hb = keeps_write rd _ (or_lt 32 a b ha hb)
  keeps_row And rd i a b hi ha hb = keeps_write rd (bit_and a b) (let less : bit_and a b ≤ a = and_le_l a b in omega arith)
  keeps_row Mul rd i a b hi ha hb = write_modulo rd _
  keeps_row Mulh rd i a b hi ha hb = keeps_write rd _ (product_high (signed a) (signed b) (signed_small a ha) (signed_small b hb))
  keeps_row Mulhsu rd i a b hi ha hb = keeps_write rd _ (product_high (signed a) (pos b) (signed_small a ha) hb)
  keeps_row Mulhu rd i a b hi ha hb = keeps_write rd _ (unsigned_high a b ha hb)
  keeps_row Div rd i a b hi ha hb = keeps_write rd _ (either_word (b == 0) (2 ^ 32 - 1) _ (omega arith) (quotient_word a b ha))
  keeps_row Divu rd i a b hi ha hb = keeps_write rd _ (either_word (b == 0) (2 ^ 32 - 1) (a / b) (omega arith) (let less : a / b ≤ a = div-le_self a b in omega arith))
  keeps_row Rem rd i a b hi ha hb = keeps_write rd _ (either_word (b == 0) _ _ ha (remainder_word a b ha))
  keeps_row Remu rd i a b hi ha hb = keeps_write rd _ (either_word (b == 0) a (a % b) ha (let less : a % b ≤ a = mod-le a b in omega arith))
  keeps_row Fence rd i a b hi ha hb = keeps_next
  keeps_row Ecall rd i a b hi ha hb = calls
  keeps_row Ebreak rd i a b hi ha hb = traps BREAKPOINT (omega arith)

  keeps_insn : (insn : Insn) → IsWord (word insn.imm) → Keeps memory (effect insn regs memory)
  unfolding effect
  keeps_insn insn small = keeps_row insn.op insn.rd _ _ _ small (reg_word regs insn.rs1 are) (reg_word regs insn.rs2 are)

-- an immediate is a word, whatever the word that it is read from
immediate_word : (format : Format) (w : ℕ) → IsWord (immediate format w)
unfolding immediate
immediate_word R w = omega arith
immediate_word I w = extended_word 12 (bits 20 12 w) (omega arith) (omega arith)
immediate_word S w = extended_word 12 (2 ^ 5 * bits 25 7 w + bits 7 5 w) (omega arith) (omega arith)
immediate_word B w = extended_word 13 (2 ^ 12 * bits 31 1 w + 2 ^ 11 * bits 7 1 w + 2 ^ 5 * bits 25 6 w + 2 * bits 8 4 w) (omega arith) (omega arith)
immediate_word U w = omega arith
immediate_word J w = extended_word 21 (2 ^ 20 * bits 31 1 w + 2 ^ 12 * bits 12 8 w + 2 ^ 11 * bits 20 1 w + 2 * bits 21 10 w) (omega arith) (omega arith)
immediate_word Shift w = omega arith
immediate_word Whole w = omega arith

insn_word : (op : Op) (format : Format) (w : ℕ) → IsWord (word (insn_of op format w).imm)
unfolding insn_of
insn_word op format w = signed_back (immediate format w) (immediate_word format w)

decoded_word : (w : ℕ) → Giving (decoded w) (λ insn. IsWord (word insn.imm))
unfolding decoded
decoded_word w = mapped {P = λ insn. IsWord (word insn.imm)} (λ op. insn_of op (encoding op).format w) (record { each = λ op is. insn_word op (encoding op).format w })

module _ (regs : Regs) (memory : Memory) (are : IsRegs regs) (before : IsMemory memory) where
  keeps_decoded : (found : Option Insn) → Giving found (λ insn. IsWord (word insn.imm)) → Keeps memory (effect_of_insn found regs memory)
  keeps_decoded None read = traps ILLEGAL (omega arith)
  keeps_decoded (Some insn) read = keeps_insn regs memory are before insn (read.each insn refl)

  keeps_fetched : (found : Option ℕ) → Keeps memory (effect_of_word found regs memory)
  keeps_fetched None = traps FAULT (omega arith)
  keeps_fetched (Some w) = keeps_decoded (decoded w) (decoded_word w)

  pub keeps_at : Keeps memory (effect_at regs memory)
  unfolding effect_at
  keeps_at = keeps_fetched (fetch memory regs.pc)
