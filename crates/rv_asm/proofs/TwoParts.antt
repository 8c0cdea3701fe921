-- The two parts of a word always have words of their own.
use Rattle.std.proofs.Common.{◌≡◌, ℕ, ◌+◌, ◌-◌, ◌*◌, ◌/◌, ◌%◌, ◌^◌, ◌<◌, ◌≤◌, ◌⊎◌, inl, inr, true, false, nat_lt, Option, Some, ap, ◌∙◌, arith, eq-eqb, pos}
use Rattle.std.specs.Prelude.{option_map}
use Rattle.std.proofs.lemmas.Bool.{and_from, cases_lt}
use Rattle.std.proofs.lemmas.Bool.Decides.{nat_tests}
use Rattle.plain_process.specs.declared.instruction.Insn.{Insn}
use Rattle.plain_process.specs.declared.instruction.Op.{Op}
use Rattle.plain_process.specs.declared.instruction.Op.TheVariants.{Lui, Auipc, Addi}
use Rattle.plain_process.specs.Instructions.{encoding, decoded, row_of, insn_of, immediate, sign_extended, signed}
use Rattle.rv_words.specs.Fields.{fits}
use Rattle.rv_words.specs.Validity.{IsValid}
use Rattle.rv_words.proofs.Exclusive.{row_of-match}
use Rattle.rv_words.proofs.Fields.{same_test}
use Rattle.asm_lines.specs.Lines.{insn}
use Rattle.rv_asm.specs.Pieces.{with_immediate, upper, lower, PartsFit}
use Rattle.rv_asm.proofs.InsnWords.{valid_is}

row_is : (w : ℕ) (op : Op) → w < 2 ^ 32 → fits (w % 128) (w / 2 ^ 12 % 8) (w / 2 ^ 25) w op ≡ true → row_of w ≡ Some op
row_is w op small h = row_of-match w op (same_test w small op ∙ h)

decoded_by : (w : ℕ) (op : Op) → row_of w ≡ Some op → decoded w ≡ Some (insn_of op (encoding op).format w)
unfolding decoded
decoded_by w op is = ap (λ (o : Option Op). option_map (λ x. insn_of x (encoding x).format w) o) is

-- ---- lui and auipc

abbrev upper_word : ℕ → ℕ → ℕ → ℕ
upper_word o rd n = o + 2 ^ 7 * rd + upper n

upper_small : (o rd n : ℕ) → o < 128 → rd < 32 → upper_word o rd n < 2 ^ 32
upper_small o rd n h k = omega arith

upper_opcode : (o rd n : ℕ) → o < 128 → rd < 32 → upper_word o rd n % 128 ≡ o
upper_opcode o rd n h k = omega arith

upper_rd : (o rd n : ℕ) → o < 128 → rd < 32 → upper_word o rd n / 2 ^ 7 % 2 ^ 5 ≡ rd
upper_rd o rd n h k = omega arith

upper_imm : (o rd n : ℕ) → o < 128 → rd < 32 → 2 ^ 12 * (upper_word o rd n / 2 ^ 12 % 2 ^ 20) ≡ upper n
upper_imm o rd n h k = omega arith

lui_is : (rd n : ℕ) → rd < 32 → insn_of Lui (encoding Lui).format (upper_word 0x37 rd n) ≡ with_immediate (insn Lui rd 0 0 (pos 0)) (upper n)
unfolding insn_of immediate encoding with_immediate
lui_is rd n k = λ i. record { op = Lui; rd = upper_rd 0x37 rd n (omega arith) k i; rs1 = 0; rs2 = 0; imm = signed (upper_imm 0x37 rd n (omega arith) k i) }

auipc_is : (rd n : ℕ) → rd < 32 → insn_of Auipc (encoding Auipc).format (upper_word 0x17 rd n) ≡ with_immediate (insn Auipc rd 0 0 (pos 0)) (upper n)
unfolding insn_of immediate encoding with_immediate
auipc_is rd n k = λ i. record { op = Auipc; rd = upper_rd 0x17 rd n (omega arith) k i; rs1 = 0; rs2 = 0; imm = signed (upper_imm 0x17 rd n (omega arith) k i) }

lui_fits : (rd n : ℕ) → rd < 32 → fits (upper_word 0x37 rd n % 128) (upper_word 0x37 rd n / 2 ^ 12 % 8) (upper_word 0x37 rd n / 2 ^ 25) (upper_word 0x37 rd n) Lui ≡ true
unfolding encoding
lui_fits rd n k = eq-eqb _ _ (upper_opcode 0x37 rd n (omega arith) k)

auipc_fits : (rd n : ℕ) → rd < 32 → fits (upper_word 0x17 rd n % 128) (upper_word 0x17 rd n / 2 ^ 12 % 8) (upper_word 0x17 rd n / 2 ^ 25) (upper_word 0x17 rd n) Auipc ≡ true
unfolding encoding
auipc_fits rd n k = eq-eqb _ _ (upper_opcode 0x17 rd n (omega arith) k)

lui_valid : (rd n : ℕ) → rd < 32 → IsValid (with_immediate (insn Lui rd 0 0 (pos 0)) (upper n))
lui_valid rd n k =
    let small = upper_small 0x37 rd n (omega arith) k in
    record { word = upper_word 0x37 rd n; in_range = small; decodes = decoded_by _ Lui (row_is _ Lui small (lui_fits rd n k)) ∙ ap (λ (x : Insn). Some x) (lui_is rd n k) }

auipc_valid : (rd n : ℕ) → rd < 32 → IsValid (with_immediate (insn Auipc rd 0 0 (pos 0)) (upper n))
auipc_valid rd n k =
    let small = upper_small 0x17 rd n (omega arith) k in
    record { word = upper_word 0x17 rd n; in_range = small; decodes = decoded_by _ Auipc (row_is _ Auipc small (auipc_fits rd n k)) ∙ ap (λ (x : Insn). Some x) (auipc_is rd n k) }

-- ---- addi

abbrev lower_word : ℕ → ℕ → ℕ
lower_word rd l = 0x13 + 2 ^ 7 * rd + 2 ^ 15 * rd + 2 ^ 20 * (l % 2 ^ 12)

lower_small : (rd l : ℕ) → rd < 32 → lower_word rd l < 2 ^ 32
lower_small rd l k = omega arith

lower_opcode : (rd l : ℕ) → rd < 32 → lower_word rd l % 128 ≡ 0x13
lower_opcode rd l k = omega arith

lower_funct3 : (rd l : ℕ) → rd < 32 → lower_word rd l / 2 ^ 12 % 8 ≡ 0
lower_funct3 rd l k = omega arith

lower_rd : (rd l : ℕ) → rd < 32 → lower_word rd l / 2 ^ 7 % 2 ^ 5 ≡ rd
lower_rd rd l k = omega arith

lower_rs1 : (rd l : ℕ) → rd < 32 → lower_word rd l / 2 ^ 15 % 2 ^ 5 ≡ rd
lower_rs1 rd l k = omega arith

lower_bits : (rd l : ℕ) → rd < 32 → lower_word rd l / 2 ^ 20 % 2 ^ 12 ≡ l % 2 ^ 12
lower_bits rd l k = omega arith

near_zero : (n : ℕ) → n < 2 ^ 32 → (lower n < 2 ^ 11) ⊎ (2 ^ 32 - 2 ^ 11 ≤ lower n)
near_zero n h = near_by (cases_lt ((n + 2 ^ 11) % 2 ^ 32 % 2 ^ 12) (2 ^ 11))
  where
    near_by : ((n + 2 ^ 11) % 2 ^ 32 % 2 ^ 12 < 2 ^ 11) ⊎ (2 ^ 11 ≤ (n + 2 ^ 11) % 2 ^ 32 % 2 ^ 12) → (lower n < 2 ^ 11) ⊎ (2 ^ 32 - 2 ^ 11 ≤ lower n)
    near_by (inl low) = inr (omega arith)
    near_by (inr high) = inl (omega arith)

extended : (l : ℕ) → l < 2 ^ 32 → (l < 2 ^ 11) ⊎ (2 ^ 32 - 2 ^ 11 ≤ l) → sign_extended 12 (l % 2 ^ 12) ≡ l
extended l h (inl low) = let t : nat_lt (l % 2 ^ 12) (2 ^ 11) ≡ true = (let b : l % 2 ^ 12 < 2 ^ 11 = omega arith in grind (arith, nat_tests)) in rw t (omega arith)
extended l h (inr high) = let t : nat_lt (l % 2 ^ 12) (2 ^ 11) ≡ false = (let b : 2 ^ 11 ≤ l % 2 ^ 12 = omega arith in grind (arith, nat_tests)) in rw t (omega arith)

addi_is : (rd l : ℕ) → rd < 32 → sign_extended 12 (l % 2 ^ 12) ≡ l → insn_of Addi (encoding Addi).format (lower_word rd l) ≡ with_immediate (insn Addi rd rd 0 (pos 0)) l
unfolding insn_of immediate encoding with_immediate
addi_is rd l k e = λ i. record {
  op = Addi;
  rd = lower_rd rd l k i;
  rs1 = lower_rs1 rd l k i;
  rs2 = 0;
  imm = signed ((ap (sign_extended 12) (lower_bits rd l k) ∙ e) i);
}

addi_fits : (rd l : ℕ) → rd < 32 → fits (lower_word rd l % 128) (lower_word rd l / 2 ^ 12 % 8) (lower_word rd l / 2 ^ 25) (lower_word rd l) Addi ≡ true
unfolding encoding
addi_fits rd l k = and_from _ _ (eq-eqb _ _ (lower_opcode rd l k)) (eq-eqb _ _ (lower_funct3 rd l k))

addi_valid : (rd l : ℕ) → rd < 32 → sign_extended 12 (l % 2 ^ 12) ≡ l → IsValid (with_immediate (insn Addi rd rd 0 (pos 0)) l)
addi_valid rd l k e =
    let small = lower_small rd l k in
    record { word = lower_word rd l; in_range = small; decodes = decoded_by _ Addi (row_is _ Addi small (addi_fits rd l k)) ∙ ap (λ (x : Insn). Some x) (addi_is rd l k e) }

lower_range : (n : ℕ) → lower n < 2 ^ 32
lower_range n = omega arith

pub parts_fit : PartsFit
parts_fit rd n k h = (
  valid_is _ (lui_valid rd n k),
  valid_is _ (auipc_valid rd n k),
  valid_is _ (addi_valid rd (lower n) k (extended (lower n) (lower_range n) (near_zero n h))),
)
