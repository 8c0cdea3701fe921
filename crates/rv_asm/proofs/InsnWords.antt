-- An instruction is valid where `has_word` holds.
use Rattle.std.proofs.Common.{◌≡◌, ◌==◌, ℕ, ◌<◌, ◌^◌, Bool, true, false, ◌&&◌, ◌↔◌, nat_lt, find, List, [], ◌++◌, Option, Some, None, refl, sym, ap, ◌∙◌, arith, eqb-true, eq-eqb, append_assoc}
use Rattle.std.specs.Prelude.{is_some, unwrap_or}
use Rattle.std.proofs.lemmas.Bool.{and_parts, and_from, false≢true}
use Rattle.std.proofs.lemmas.Bool.Decides.{nat_tests, Decides-int_eq}
use Rattle.std.proofs.lemmas.Option.{same_Some}
use Rattle.std.specs.Ordering.{int_eq}
use Rattle.plain_process.specs.declared.instruction.Insn.{Insn}
use Rattle.plain_process.specs.declared.instruction.Op.{Op}
use Rattle.plain_process.specs.declared.instruction.Op.TheVariants.{Lui}
use Rattle.plain_process.specs.Instructions.{encoding, match_of, rows, decoded}
use Rattle.rv_words.specs.Validity.{IsValid}
use Rattle.rv_words.specs.Words.{word_of}
use Rattle.rv_words.proofs.WordLaws.{word_of-decoded}
use Rattle.rv_asm.specs.Labels.{Puts}
use Rattle.rv_asm.specs.Pieces.{same_insn, is_read_as, has_word, is_aligned, bytes_of, given, insn_at, pair_at}

-- a row is told by its fixed bits
row_by_match : (op : Op) → find (λ x. match_of x == match_of op) rows ≡ Some op
unfolding match_of encoding
row_by_match Lui = refl
row_by_match _ = refl

same_row : (a b : Op) → match_of a ≡ match_of b → a ≡ b
same_row a b e = same_Some _ _ (sym (row_by_match a) ∙ ap (λ m. find (λ x. match_of x == m) rows) e ∙ row_by_match b)

by_fields : (a b : Insn) → a.op ≡ b.op → a.rd ≡ b.rd → a.rs1 ≡ b.rs1 → a.rs2 ≡ b.rs2 → a.imm ≡ b.imm → a ≡ b
by_fields a b p q r s t = λ i. record { op = p i; rd = q i; rs1 = r i; rs2 = s i; imm = t i }

abbrev same_4 : Insn → Insn → Bool
same_4 a b = (match_of a.op == match_of b.op) && (a.rd == b.rd) && (a.rs1 == b.rs1) && (a.rs2 == b.rs2)

abbrev same_3 : Insn → Insn → Bool
same_3 a b = (match_of a.op == match_of b.op) && (a.rd == b.rd) && (a.rs1 == b.rs1)

abbrev same_2 : Insn → Insn → Bool
same_2 a b = (match_of a.op == match_of b.op) && (a.rd == b.rd)

from_same : (a b : Insn) → same_insn a b ≡ true → a ≡ b
from_same a b h =
    let p = and_parts (same_4 a b) (int_eq a.imm b.imm) h in
    let q = and_parts (same_3 a b) (a.rs2 == b.rs2) p.0 in
    let r = and_parts (same_2 a b) (a.rs1 == b.rs1) q.0 in
    let s = and_parts (match_of a.op == match_of b.op) (a.rd == b.rd) r.0 in
    by_fields a b (same_row a.op b.op (eqb-true _ _ s.0)) (eqb-true _ _ s.1) (eqb-true _ _ r.1) (eqb-true _ _ q.1) ((Decides-int_eq a.imm b.imm).0 p.1)

to_same : (a : Insn) → same_insn a a ≡ true
to_same a =
    and_from (same_4 a a) (int_eq a.imm a.imm)
    (and_from (same_3 a a) (a.rs2 == a.rs2)
    (and_from (same_2 a a) (a.rs1 == a.rs1)
    (and_from (match_of a.op == match_of a.op) (a.rd == a.rd) (eq-eqb _ _ refl) (eq-eqb _ _ refl))
    (eq-eqb _ _ refl)) (eq-eqb _ _ refl)) ((Decides-int_eq a.imm a.imm).1 refl)

below : (a b : ℕ) → nat_lt a b ≡ true → a < b
below a b h = grind (arith, nat_tests)

tested : (a b : ℕ) → a < b → nat_lt a b ≡ true
tested a b h = grind (arith, nat_tests)

valid_has : (i : Insn) → IsValid i → has_word i ≡ true
unfolding has_word
valid_has i v =
    let same : word_of i ≡ v.word = word_of-decoded v.word v.in_range i v.decodes in
    let small : word_of i < 2 ^ 32 = omega (arith, same, v.in_range) in
    and_from (nat_lt (word_of i) (2 ^ 32)) (is_read_as i (decoded (word_of i))) (tested (word_of i) (2 ^ 32) small)
    (ap (λ w. is_read_as i (decoded w)) same ∙ ap (is_read_as i) v.decodes ∙ to_same i)

read_from : (i : Insn) (o : Option Insn) → is_read_as i o ≡ true → o ≡ Some i
read_from i None h = absurd (false≢true h)
read_from i (Some found) h = ap (λ (x : Insn). Some x) (from_same found i h)

has_valid : (i : Insn) → has_word i ≡ true → IsValid i
unfolding has_word
has_valid i h =
    let parts = and_parts (nat_lt (word_of i) (2 ^ 32)) (is_read_as i (decoded (word_of i))) h in
    record { word = word_of i; in_range = below (word_of i) (2 ^ 32) parts.0; decodes = read_from i (decoded (word_of i)) parts.1 }

decide_by : (i : Insn) (b t : Bool) → has_word i ≡ t → (b ≡ true) ↔ IsValid i → b ≡ t
decide_by i true true is iff = refl
decide_by i false false is iff = refl
decide_by i true false is iff = absurd (false≢true (sym is ∙ valid_has i (iff.0 refl)))
decide_by i false true is iff = absurd (false≢true (iff.1 (has_valid i is)))

-- a test of validity is `has_word`
pub decided : (i : Insn) (b : Bool) → (b ≡ true) ↔ IsValid i → b ≡ has_word i
decided i b iff = decide_by i b (has_word i) refl iff

pub valid_is : (i : Insn) → IsValid i → has_word i ≡ true
valid_is i v = valid_has i v

pub has_is_valid : (i : Insn) → has_word i ≡ true → IsValid i
has_is_valid i h = has_valid i h

pub word_decodes : (i : Insn) → has_word i ≡ true → decoded (word_of i) ≡ Some i
unfolding has_word
word_decodes i h = read_from i (decoded (word_of i)) (and_parts (nat_lt (word_of i) (2 ^ 32)) (is_read_as i (decoded (word_of i))) h).1

-- the word of a valid instruction
pub word_is : (w : ℕ) (i : Insn) → w < 2 ^ 32 → decoded w ≡ Some i → w ≡ word_of i
word_is w i small is = sym (word_of-decoded w small i is)

-- ---- what is put

given_true : (b : Bool) (bs : List ℕ) → b ≡ true → given b bs ≡ Some bs
given_true true bs h = refl
given_true false bs h = absurd (false≢true h)

puts : (old new bs : List ℕ) (o : Option (List ℕ)) → o ≡ Some bs → new ≡ old ++ bs → Puts true old new o
puts old new bs o is put = record {
  told = sym (ap (λ (x : Option (List ℕ)). is_some x) is);
  put = put ∙ ap (λ (x : Option (List ℕ)). old ++ unwrap_or x []) (sym is);
}

pub put_one : (place : ℕ) (i : Insn) (old new : List ℕ) (w : ℕ) → is_aligned place ≡ true → has_word i ≡ true → w ≡ word_of i → new ≡ old ++ bytes_of w
    → Puts true old new (insn_at place i)
unfolding insn_at
put_one place i old new w four valid is put =
    puts old new (bytes_of (word_of i)) (given (is_aligned place && has_word i) (bytes_of (word_of i))) (given_true _ _ (and_from _ _ four valid))
    (put ∙ ap (λ n. old ++ bytes_of n) is)

pub put_two : (place : ℕ) (i j : Insn) (old mid new : List ℕ) (v w : ℕ) → is_aligned place ≡ true → has_word i ≡ true → has_word j ≡ true → v ≡ word_of i → w ≡ word_of j
    → mid ≡ old ++ bytes_of v → new ≡ mid ++ bytes_of w → Puts true old new (pair_at place i j)
unfolding pair_at
put_two place i j old mid new v w four first second is js put more =
    puts old new (bytes_of (word_of i) ++ bytes_of (word_of j)) (given (is_aligned place && has_word i && has_word j) (bytes_of (word_of i) ++ bytes_of (word_of j)))
    (given_true _ _ (and_from _ _ (and_from _ _ four first) second))
    (more ∙ ap (λ n. mid ++ bytes_of n) js ∙ ap (λ bs. bs ++ bytes_of (word_of j)) (put ∙ ap (λ n. old ++ bytes_of n) is)
    ∙ append_assoc old (bytes_of (word_of i)) (bytes_of (word_of j)))
