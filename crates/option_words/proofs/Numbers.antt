-- A word that is just as its number is written, and what is read of it.
use Rattle.std.proofs.Common.{◌≡◌, ◌≢◌, ℕ, zero, suc, ◌<◌, ◌≤◌, ◌^◌, List, length, get_or, Option, Some, None, Result, Ok, Err, Bool, true, false, is_ok, IfNone, IfSome, sym, ◌∙◌, ap, subst, arith}
use Rattle.std.specs.Str.{all_ascii_digits, bytes_eq}
use Rattle.std.proofs.lemmas.Slice.Eq.{bytes_eq-Decides}
use Rattle.std.specs.Str.Parse.{ParsesUnsigned, digits_value}
use Rattle.std.specs.Result.{OkIff, result_ok}
use Rattle.std.specs.Int.{IsInRange}
use Rattle.std.specs.Fmt.{decimal}
use Rattle.std.specs.Prelude.{codes, All}
use Rattle.std.proofs.lemmas.List.Elements.{All-from_get_or}
use Rattle.std.proofs.lemmas.Str.Parse.{IsNumeralModel, numerals_by_value, tells_all_ascii_digits, parse_plain, digit_at}
use Rattle.std.proofs.lemmas.Fmt.{decimal-digits_value, parse-decimal, first_decimal, decimal_digit, decimal_nonempty, digits_decimal, decimal_injective}

pub IfNone-of_any : {A : Type 0} (P : Type 0) (o : Option A) → P → IfNone o P
IfNone-of_any P None p = p
IfNone-of_any P (Some a) p = tt

-- the word is that of no number
abbrev pub NoNumber : List ℕ → Type 0
NoNumber word = (n : ℕ) → n < 2 ^ 32 → word ≡ decimal n → ⊥

digits : IsNumeralModel (λ ds. all_ascii_digits ds ≡ true) (digits_value 10)
digits = numerals_by_value _ tells_all_ascii_digits

pub text_is : (a b : List ℕ) (r : Bool) → r ≡ bytes_eq a b → r ≡ true → a ≡ b
text_is a b r tells is = (bytes_eq-Decides a b).0 (sym tells ∙ is)

pub text_is_not : (a b : List ℕ) (r : Bool) → r ≡ bytes_eq a b → r ≡ false → a ≢ b
text_is_not a b r tells other is = let same : r ≡ true = tells ∙ (bytes_eq-Decides a b).1 is in cc

pub other_number : (word : List ℕ) (m n : ℕ) → word ≡ decimal m → word ≡ decimal n → m < 2 ^ 64 → n < 2 ^ 64 → m ≡ n
other_number word m n first second small also = decimal_injective m n small also (sym first ∙ second)

pub zero_written : decimal 0 ≡ codes "0"
zero_written = decimal_digit 0 (omega arith)

pub empty_is_none : (bs : List ℕ) → length bs ≤ 0 → NoNumber bs
empty_is_none bs empty n small is = let some : 0 < length bs = subst (λ ds. 0 < length ds) (sym is) (decimal_nonempty n (omega arith)) in omega arith

pub small_first_is_none : (bs : List ℕ) → get_or bs 0 0 ≤ 48 → bs ≢ codes "0" → NoNumber bs
small_first_is_none bs low other zero small is = other (is ∙ zero_written)
small_first_is_none bs low other (suc n) small is =
    let first : 48 < get_or bs 0 0 = subst (λ ds. 48 < get_or ds 0 0) (sym is) (first_decimal (suc n) (omega arith) (omega arith)) in
    omega arith

pub refused_is_none : {E : Type 0} (bs : List ℕ) (r : Result ℕ E) → ParsesUnsigned 32 10 bs r → false ≡ is_ok r → NoNumber bs
refused_is_none bs r parses wrong n small is = let yes : r ≡ Ok n = parse-decimal 32 n bs r small (omega arith) is parses in cc

read_is_written : (E : Type 0) (bs : List ℕ) (n : ℕ) → ParsesUnsigned {E = E} 32 10 bs (Ok n) → 48 < get_or bs 0 0 → bs ≡ decimal n
read_is_written E bs n parses first =
    let is : OkIff {E = E} (Ok n) ((all_ascii_digits bs ≡ true) × (0 < length bs) × (digits_value 10 bs < 2 ^ 32)) (digits_value 10 bs) = parse_plain digits {E = E} 32 bs (Ok n) parses (λ plus. absurd (omega arith)) in
    sym (ap decimal is.1 ∙ decimal-digits_value digits bs is.0.0 is.0.1 (λ zero_first. absurd (omega arith)) (omega (arith, is.0.2)))

pub accepted_is_written : {E : Type 0} (bs : List ℕ) (r : Result ℕ E) (n : ℕ) → ParsesUnsigned 32 10 bs r → Some n ≡ result_ok r → 48 < get_or bs 0 0 → bs ≡ decimal n
accepted_is_written {E} bs (Ok m) n parses same first =
    let equal : m ≡ n = cc in
    read_is_written E bs n (subst (λ k. ParsesUnsigned {E = E} 32 10 bs (Ok k)) equal parses) first
accepted_is_written bs (Err e) n parses same first = absurd (cc)

-- each byte of a number is a digit
pub digit_in_decimal : (n i : ℕ) → n < 2 ^ 64 → i < length (decimal n) → IsInRange 48 57 (get_or (decimal n) i 0)
digit_in_decimal n i small inside = digit_at (decimal n) i (digits.to (decimal n) (digits_decimal digits n small)) inside

pub decimal_lacks : (byte n : ℕ) → n < 2 ^ 64 → 57 < byte → All (λ b. b ≢ byte) (decimal n)
decimal_lacks byte n small great = All-from_get_or (λ b. b ≢ byte) (decimal n) 0 (λ i inside is. let digit = digit_in_decimal n i small inside in omega (arith, digit))

pub first_digit : (n : ℕ) → n < 2 ^ 64 → IsInRange 48 57 (get_or (decimal n) 0 0)
first_digit n small = digit_in_decimal n 0 small (decimal_nonempty n small)

-- what is written is the number of its digits
pub written : (text : List ℕ) (n : ℕ) → all_ascii_digits text ≡ true → digits_value 10 text ≡ n → 0 < length text → (get_or text 0 0 ≡ 48 → length text ≡ 1) → n < 2 ^ 64 → decimal n ≡ text
written text n all value some one small =
    let below : digits_value 10 text < 2 ^ 64 = subst (λ (m : ℕ). m < 2 ^ 64) (sym value) small in
    subst (λ (m : ℕ). decimal m ≡ text) value (decimal-digits_value digits text all some one below)

pub decimal_reads : (text : List ℕ) (found : Option ℕ) (n : ℕ) → IfSome found (λ m. text ≡ decimal m) → IfSome found (λ m. m < 2 ^ 32) → IfNone found (NoNumber text) → n < 2 ^ 32 → text ≡ decimal n → found ≡ Some n
decimal_reads text None n some below none small is = absurd (none n small is)
decimal_reads text (Some m) n some below none small is = ap (λ (k : ℕ). Some k) (other_number text m n some is (omega (arith, below)) (omega (arith, small)))
