-- What a row of the table does, from its operands; and registers whose place of x0 holds 0.
use Rattle.std.proofs.Common.{◌≡◌, ◌≢◌, ℕ, zero, suc, List, [], ◌∷◌, if◌then◌else◌, ◌==◌, Option, Some, None, IfSome, Bool, true, false, refl, sym, ap, arith}
use Rattle.std.specs.Prelude.{slice_index, slice_set, find}
use Rattle.std.proofs.lemmas.Bool.{ne_eqb}
use Rattle.std.specs.Option.{option_map}
use Rattle.std.specs.Int.{w32, cast_signed}
use Rattle.plain_process.specs.declared.instruction.Op.{Op}
use Rattle.plain_process.specs.declared.regs.Regs.{Regs}
use Rattle.plain_process.specs.declared.instruction.Op.TheVariants.{Lui}
use Rattle.plain_process.specs.Instructions.{Format, R, I, Shift, encoding, rows, insn_of, effect, immediate, bits, has_rd, has_rs1, has_rs2, word}
use Rattle.plain_process.specs.Memory.{Memory}
use Rattle.plain_process.specs.Registers.{reg}
use Rattle.plain_process.specs.Steps.{effect_of_insn}
use Rattle.rv_words.specs.Fields.{fits, row_at, with_operands}
use Rattle.rv_words.proofs.Rows.{found-passes}
use Rattle.rv_step.specs.Steps.{IsZeroHeld, effect_of_row}

pub row_effect : (row : Option Op) (format : Format) (w rd i a b : ℕ) (regs : Regs) (memory : Memory) → IfSome row (λ op. (encoding op).format ≡ format)
    → rd ≡ (if has_rd format then bits 7 5 w else 0) → i ≡ word (cast_signed w32 (immediate format w))
    → a ≡ reg regs (if has_rs1 format then bits 15 5 w else 0) → b ≡ reg regs (if has_rs2 format then bits 20 5 w else 0)
    → effect_of_insn (option_map (with_operands w) row) regs memory ≡ effect_of_row row rd i a b regs memory
unfolding effect insn_of
row_effect None format w rd i a b regs memory f er ei ea eb = refl
row_effect (Some op) format w rd i a b regs memory f er ei ea eb = rw (f, er, ei, ea, eb) refl

-- a row of OP-IMM, whose immediate is that of a shift or not
pub immediate_effect : (row : Option Op) (is_shift : Bool) (w rd i amount a : ℕ) (regs : Regs) (memory : Memory) → IfSome row (λ op. (encoding op).format ≡ (if is_shift then Shift else I))
    → rd ≡ bits 7 5 w → i ≡ word (cast_signed w32 (immediate I w)) → amount ≡ word (cast_signed w32 (immediate Shift w)) → a ≡ reg regs (bits 15 5 w)
    → effect_of_insn (option_map (with_operands w) row) regs memory ≡ effect_of_row row rd (if is_shift then amount else i) a 0 regs memory
immediate_effect row true w rd i amount a regs memory f er ei em ea = row_effect row Shift w rd amount a 0 regs memory f er em ea refl
immediate_effect row false w rd i amount a regs memory f er ei em ea = row_effect row I w rd i a 0 regs memory f er ei ea refl

-- each row of OP has the format R
in_registers : (f g w : ℕ) (op : Op) → fits 0x33 f g w op ≡ true → (encoding op).format ≡ R
unfolding encoding
in_registers f g w Lui t = cc
in_registers f g w _ t = cc

format_of : (f g w : ℕ) (row : Option Op) → find (fits 0x33 f g w) rows ≡ row → IfSome row (λ op. (encoding op).format ≡ R)
format_of f g w None found = tt
format_of f g w (Some op) found = in_registers f g w op (found-passes (fits 0x33 f g w) rows op found)

pub registers_format : (f g w : ℕ) → IfSome (row_at 0x33 f g w) (λ op. (encoding op).format ≡ R)
unfolding row_at
registers_format f g w = format_of f g w (find (fits 0x33 f g w) rows) refl

pub read_held : (x : List ℕ) (i : ℕ) → IsZeroHeld x → slice_index x i ≡ (if i == 0 then 0 else slice_index x i)
read_held x zero held = held
read_held x (suc i) held =
    let other : suc i ≢ 0 = omega arith in
    sym (ap (λ b. if b then 0 else slice_index x (suc i)) (ne_eqb (suc i) 0 other))

pub zero_kept : (x : List ℕ) (i value : ℕ) → i ≢ 0 → IsZeroHeld x → IsZeroHeld (slice_set x i value)
zero_kept x zero value other held = absurd (other refl)
zero_kept [] (suc i) value other held = held
zero_kept (y ∷ x) (suc i) value other held = held
