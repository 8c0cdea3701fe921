-- What std's readers of digits give, in the words of `specs/Numbers.antt`.
use Rattle.std.proofs.Common.{◌≡◌, ◌≢◌, ℕ, ◌<◌, ◌^◌, Bool, true, false, ◌&&◌, List, [], ◌∷◌, length, get_or, Some, None, Result, Ok, Err, nat_lt, refl, ap, subst, arith, ◌⊎◌, inl, inr}
use Rattle.std.specs.Char.{is_digit, digit_value}
use Rattle.std.specs.List.{list_all}
use Rattle.std.specs.Result.{result_ok, OkIff}
use Rattle.std.specs.Str.Parse.{AllDigits, IsNumeral, digits_value, ParsesUnsigned}
use Rattle.std.proofs.lemmas.Bool.{and_parts, and_from}
use Rattle.std.proofs.lemmas.Bool.Decides.{nat_tests}
use Rattle.std.proofs.lemmas.Str.Parse.{without_leading_plus_none}
use Rattle.asm_parts.specs.Numbers.{numeral}

below : (a b : ℕ) → nat_lt a b ≡ true → a < b
below a b h = grind (arith, nat_tests)

tested : (a b : ℕ) → a < b → nat_lt a b ≡ true
tested a b h = grind (arith, nat_tests)

digits_from : (base : ℕ) (ds : List ℕ) → list_all (λ b. is_digit b base) ds ≡ true → AllDigits base ds
digits_from base [] h = tt
digits_from base (c ∷ cs) h =
    let parts = and_parts (is_digit c base) (list_all (λ b. is_digit b base) cs) h in
    (below (digit_value c) base parts.0, digits_from base cs parts.1)

digits_to : (base : ℕ) (ds : List ℕ) → AllDigits base ds → list_all (λ b. is_digit b base) ds ≡ true
digits_to base [] h = refl
digits_to base (c ∷ cs) h = and_from (is_digit c base) (list_all (λ b. is_digit b base) cs) (tested (digit_value c) base h.0) (digits_to base cs h.1)

abbrev test : ℕ → List ℕ → Bool
test base ds = nat_lt 0 (length ds) && list_all (λ b. is_digit b base) ds && nat_lt (digits_value base ds) (2 ^ 32)

abbrev Fits : ℕ → List ℕ → Type 0
Fits base ds = IsNumeral base ds × (digits_value base ds < 2 ^ 32)

test_from : (base : ℕ) (ds : List ℕ) → test base ds ≡ true → Fits base ds
test_from base ds h =
    let outer = and_parts (nat_lt 0 (length ds) && list_all (λ b. is_digit b base) ds) (nat_lt (digits_value base ds) (2 ^ 32)) h in
    let inner = and_parts (nat_lt 0 (length ds)) (list_all (λ b. is_digit b base) ds) outer.0 in
    ((below 0 (length ds) inner.0, digits_from base ds inner.1), below (digits_value base ds) (2 ^ 32) outer.1)

test_to : (base : ℕ) (ds : List ℕ) → Fits base ds → test base ds ≡ true
test_to base ds h =
    and_from (nat_lt 0 (length ds) && list_all (λ b. is_digit b base) ds) (nat_lt (digits_value base ds) (2 ^ 32))
    (and_from (nat_lt 0 (length ds)) (list_all (λ b. is_digit b base) ds) (tested 0 (length ds) h.0.0) (digits_to base ds h.0.1))
    (tested (digits_value base ds) (2 ^ 32) h.1)

test_not : (base : ℕ) (ds : List ℕ) (t : Bool) → test base ds ≡ t → (Fits base ds → ⊥) → t ≡ false
test_not base ds true is h = absurd (h (test_from base ds is))
test_not base ds false is h = refl

numeral_by : {E : Type 0} (base : ℕ) (ds : List ℕ) (r : Result ℕ E) → OkIff r (Fits base ds) (digits_value base ds) → result_ok r ≡ numeral base ds
unfolding numeral
numeral_by base ds (Ok n) h = rw (test_to base ds h.0) (ap (λ (x : ℕ). Some x) h.1)
numeral_by base ds (Err e) h = rw (test_not base ds (test base ds) refl h) refl

pub numeral_is : {E : Type 0} (base : ℕ) (bs : List ℕ) (r : Result ℕ E) → ParsesUnsigned 32 base bs r → get_or bs 0 0 ≢ 43 → result_ok r ≡ numeral base bs
numeral_is base bs r h plus = numeral_by base bs r (subst (λ ds. OkIff r (Fits base ds) (digits_value base ds)) (without_leading_plus_none bs plus) h)

-- a plus is no digit
plus_test : (base : ℕ) (rest : List ℕ) → base < 17 → test base (43 ∷ rest) ≡ false
plus_test base rest small = test_not base (43 ∷ rest) (test base (43 ∷ rest)) refl (λ h. let big : 36 < base = h.0.1.0 in absurd (omega arith))

pub no_plus : (base : ℕ) (bs : List ℕ) → base < 17 → get_or bs 0 0 ≡ 43 → numeral base bs ≡ None
unfolding numeral
no_plus base [] small h = refl
no_plus base (b ∷ rest) small h = rw (h, plus_test base rest small) refl

pub small_base : (base : ℕ) → (base ≡ 10) ⊎ (base ≡ 16) → base < 17
small_base base (inl e) = omega arith
small_base base (inr e) = omega arith
