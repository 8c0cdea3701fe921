-- A word is the one that its own instruction's operands fill in.
use Rattle.std.proofs.Common.{◌≡◌, ℕ, ◌+◌, ◌*◌, ◌/◌, ◌%◌, ◌^◌, ◌<◌, Bool, true, ◌&&◌, ◌==◌, Some, w32, sym, ◌∙◌, ap, arith, lit<}
use Rattle.std.proofs.lemmas.Bool.{and_parts, eqb-true}
use Rattle.std.proofs.lemmas.Bool.Decides.{nat_tests}
use Rattle.std.proofs.lemmas.Int.{of_z-to_z}
use Rattle.plain_process.specs.declared.instruction.Insn.{Insn}
use Rattle.plain_process.specs.declared.instruction.Op.{Op}
use Rattle.plain_process.specs.Instructions.{Format, R, I, S, B, U, J, Shift, Whole, Encoding, as_encoding, encoding, sign_extended, bits, immediate, insn_of, has_match, decoded}
use Rattle.rv_words.specs.Fields.{fits_format, with_operands}
use Rattle.rv_words.specs.Validity.{IsValid}
use Rattle.rv_words.specs.Words.{joined, filled, word_of}
use Rattle.rv_words.proofs.Fields.{same_test}
use Rattle.rv_words.proofs.Rows.{read-decoded, row_matches}

-- ---- fields

six_fields : (w : ℕ) → w < 2 ^ 32 → joined (w % 128) (bits 7 5 w) (bits 12 3 w) (bits 15 5 w) (bits 20 5 w) (w / 2 ^ 25) ≡ w
six_fields w h = omega arith

-- ---- what a sign leaves alone

low_12 : (v : ℕ) → v < 2 ^ 12 → sign_extended 12 v % 2 ^ 12 ≡ v
low_12 v h = grind (arith, nat_tests)

low_13 : (v : ℕ) → v < 2 ^ 13 → sign_extended 13 v % 2 ^ 13 ≡ v
low_13 v h = grind (arith, nat_tests)

low_21 : (v : ℕ) → v < 2 ^ 21 → sign_extended 21 v % 2 ^ 21 ≡ v
low_21 v h = grind (arith, nat_tests)

-- a number's fields from those of its remainder
i_low : (w i : ℕ) → i % 2 ^ 12 ≡ bits 20 12 w → bits 0 5 i ≡ bits 20 5 w
i_low w i e = omega arith

i_high : (w i : ℕ) → w < 2 ^ 32 → i % 2 ^ 12 ≡ bits 20 12 w → bits 5 7 i ≡ w / 2 ^ 25
i_high w i h e = omega arith

s_low : (w i : ℕ) → i % 2 ^ 12 ≡ 2 ^ 5 * bits 25 7 w + bits 7 5 w → bits 0 5 i ≡ bits 7 5 w
s_low w i e = omega arith

s_high : (w i : ℕ) → w < 2 ^ 32 → i % 2 ^ 12 ≡ 2 ^ 5 * bits 25 7 w + bits 7 5 w → bits 5 7 i ≡ w / 2 ^ 25
s_high w i h e = omega arith

abbrev branch_parts : ℕ → ℕ
branch_parts w = 2 ^ 12 * bits 31 1 w + 2 ^ 11 * bits 7 1 w + 2 ^ 5 * bits 25 6 w + 2 * bits 8 4 w

b_low : (w i : ℕ) → i % 2 ^ 13 ≡ branch_parts w → bits 11 1 i + 2 * bits 1 4 i ≡ bits 7 5 w
b_low w i e = omega arith

b_high : (w i : ℕ) → w < 2 ^ 32 → i % 2 ^ 13 ≡ branch_parts w → bits 5 6 i + 2 ^ 6 * bits 12 1 i ≡ w / 2 ^ 25
b_high w i h e = omega arith

u_funct3 : (w : ℕ) → bits 12 3 (2 ^ 12 * bits 12 20 w) ≡ bits 12 3 w
u_funct3 w = omega arith

u_rs1 : (w : ℕ) → bits 15 5 (2 ^ 12 * bits 12 20 w) ≡ bits 15 5 w
u_rs1 w = omega arith

u_rs2 : (w : ℕ) → bits 20 5 (2 ^ 12 * bits 12 20 w) ≡ bits 20 5 w
u_rs2 w = omega arith

u_funct7 : (w : ℕ) → w < 2 ^ 32 → bits 25 7 (2 ^ 12 * bits 12 20 w) ≡ w / 2 ^ 25
u_funct7 w h = omega arith

abbrev jump_parts : ℕ → ℕ
jump_parts w = 2 ^ 20 * bits 31 1 w + 2 ^ 12 * bits 12 8 w + 2 ^ 11 * bits 20 1 w + 2 * bits 21 10 w

j_funct3 : (w i : ℕ) → i % 2 ^ 21 ≡ jump_parts w → bits 12 3 i ≡ bits 12 3 w
j_funct3 w i e = omega arith

j_rs1 : (w i : ℕ) → i % 2 ^ 21 ≡ jump_parts w → bits 15 5 i ≡ bits 15 5 w
j_rs1 w i e = omega arith

j_rs2 : (w i : ℕ) → i % 2 ^ 21 ≡ jump_parts w → bits 11 1 i + 2 * bits 1 4 i ≡ bits 20 5 w
j_rs2 w i e = omega arith

j_funct7 : (w i : ℕ) → w < 2 ^ 32 → i % 2 ^ 21 ≡ jump_parts w → bits 5 6 i + 2 ^ 6 * bits 20 1 i ≡ w / 2 ^ 25
j_funct7 w i h e = omega arith

shift_amount : (w : ℕ) → bits 0 5 (bits 20 5 w) ≡ bits 20 5 w
shift_amount w = omega arith

-- ---- each format

fill : (w c d f a b g : ℕ) → w < 2 ^ 32 → c ≡ w % 128 → d ≡ bits 7 5 w → f ≡ bits 12 3 w → a ≡ bits 15 5 w → b ≡ bits 20 5 w → g ≡ w / 2 ^ 25 → joined c d f a b g ≡ w
fill w c d f a b g h p q r s t u = rw (p, q, r, s, t, u) (six_fields w h)

again : (n : ℕ) → n % 32 % 32 ≡ n % 32
again n = omega arith

abbrev fits_word : ℕ → Encoding → Bool
fits_word w row = fits_format row.format row (w % 128) (w / 2 ^ 12 % 8) (w / 2 ^ 25) w

filled-is : (w : ℕ) → w < 2 ^ 32 → (format : Format) (c f s : ℕ) (op : Op) (i : ℕ) → fits_word w (as_encoding format c f s) ≡ true → i ≡ immediate format w
    → filled format (as_encoding format c f s) (insn_of op format w) i ≡ w
unfolding insn_of immediate
filled-is w h U c f s op i t e =
    fill w _ _ _ _ _ _ h (sym (eqb-true _ _ t)) (again _) (ap (bits 12 3) e ∙ u_funct3 w) (ap (bits 15 5) e ∙ u_rs1 w) (ap (bits 20 5) e ∙ u_rs2 w) (ap (bits 25 7) e ∙ u_funct7 w h)
filled-is w h J c f s op i t e =
    let v : i % 2 ^ 21 ≡ jump_parts w = ap (λ n. n % 2 ^ 21) e ∙ low_21 (jump_parts w) (omega arith) in
    fill w _ _ _ _ _ _ h (sym (eqb-true _ _ t)) (again _) (j_funct3 w i v) (j_rs1 w i v) (j_rs2 w i v) (j_funct7 w i h v)
filled-is w h I c f s op i t e =
    let v : i % 2 ^ 12 ≡ bits 20 12 w = ap (λ n. n % 2 ^ 12) e ∙ low_12 (bits 20 12 w) (omega arith) in
    let p = and_parts (w % 128 == c) (w / 2 ^ 12 % 8 == f) t in
    fill w _ _ _ _ _ _ h (sym (eqb-true _ _ p.0)) (again _) (sym (eqb-true _ _ p.1)) (again _) (i_low w i v) (i_high w i h v)
filled-is w h S c f s op i t e =
    let v : i % 2 ^ 12 ≡ 2 ^ 5 * bits 25 7 w + bits 7 5 w = ap (λ n. n % 2 ^ 12) e ∙ low_12 (2 ^ 5 * bits 25 7 w + bits 7 5 w) (omega arith) in
    let p = and_parts (w % 128 == c) (w / 2 ^ 12 % 8 == f) t in
    fill w _ _ _ _ _ _ h (sym (eqb-true _ _ p.0)) (s_low w i v) (sym (eqb-true _ _ p.1)) (again _) (again _) (s_high w i h v)
filled-is w h B c f s op i t e =
    let v : i % 2 ^ 13 ≡ branch_parts w = ap (λ n. n % 2 ^ 13) e ∙ low_13 (branch_parts w) (omega arith) in
    let p = and_parts (w % 128 == c) (w / 2 ^ 12 % 8 == f) t in
    fill w _ _ _ _ _ _ h (sym (eqb-true _ _ p.0)) (b_low w i v) (sym (eqb-true _ _ p.1)) (again _) (again _) (b_high w i h v)
filled-is w h R c f s op i t e =
    let p = and_parts (w % 128 == c && w / 2 ^ 12 % 8 == f) (w / 2 ^ 25 == s) t in
    let q = and_parts (w % 128 == c) (w / 2 ^ 12 % 8 == f) p.0 in
    fill w _ _ _ _ _ _ h (sym (eqb-true _ _ q.0)) (again _) (sym (eqb-true _ _ q.1)) (again _) (again _) (sym (eqb-true _ _ p.1))
filled-is w h Shift c f s op i t e =
    let p = and_parts (w % 128 == c && w / 2 ^ 12 % 8 == f) (w / 2 ^ 25 == s) t in
    let q = and_parts (w % 128 == c) (w / 2 ^ 12 % 8 == f) p.0 in
    fill w _ _ _ _ _ _ h (sym (eqb-true _ _ q.0)) (again _) (sym (eqb-true _ _ q.1)) (again _) (ap (bits 0 5) e ∙ shift_amount w) (sym (eqb-true _ _ p.1))
filled-is w h Whole c f s op i t e = sym (eqb-true _ _ (and_parts (w % 128 == c % 128) (w == c) t).1)

-- ---- the immediate comes back

immediate-below : (format : Format) (w : ℕ) → w < 2 ^ 32 → immediate format w < 2 ^ 32
unfolding immediate
immediate-below R w h = lit< tt
immediate-below I w h = grind (arith, nat_tests)
immediate-below S w h = grind (arith, nat_tests)
immediate-below B w h = grind (arith, nat_tests)
immediate-below U w h = omega arith
immediate-below J w h = grind (arith, nat_tests)
immediate-below Shift w h = omega arith
immediate-below Whole w h = lit< tt

word_of-operands : (w : ℕ) → w < 2 ^ 32 → (op : Op) → has_match w op ≡ true → word_of (with_operands w op) ≡ w
unfolding word_of insn_of
word_of-operands w h op t =
    filled-is w h (encoding op).format _ _ _ op _ (sym (same_test w h op) ∙ t) (of_z-to_z w32 (immediate (encoding op).format w) (immediate-below (encoding op).format w h))

pub word_of-decoded : (w : ℕ) → w < 2 ^ 32 → (insn : Insn) → decoded w ≡ Some insn → word_of insn ≡ w
word_of-decoded w h insn e =
    let read = read-decoded w insn e in
    ap word_of read.operands ∙ word_of-operands w h read.op (row_matches w read.op read.row)

-- a valid instruction is the one of the word that it fills in
pub decoded-filled : (n : ℕ) (insn : Insn) → n ≡ word_of insn → IsValid insn → decoded n ≡ Some insn
decoded-filled n insn e valid = ap decoded (e ∙ word_of-decoded valid.word valid.in_range insn valid.decodes) ∙ valid.decodes
