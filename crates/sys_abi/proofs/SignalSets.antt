-- The first number of a range that passes a test, and so the least signal of a set.
use Rattle.std.proofs.Common.{◌≡◌, ℕ, zero, suc, ◌+◌, ◌<◌, ◌≤◌, Bool, true, false, cond, refl, sym, ap, ◌∙◌, arith, ⊎_elim}
use Rattle.std.specs.Prelude.{find, Some, None}
use Rattle.std.specs.List.{range_with_len}
use Rattle.std.proofs.Math.Nat.{eq-or-lt_of_le}
use Rattle.sys_abi.specs.Signals.{has_signal, lowest_signal}

-- no number from a to below b passes
pub record NonePasses (test : ℕ → Bool) (a b : ℕ) : Type 0 where
  pub each : (k : ℕ) → a ≤ k → k < b → test k ≡ false

pub none_yet : (test : ℕ → Bool) (a : ℕ) → NonePasses test a a
none_yet test a = record { each = λ k above below. absurd (omega arith) }

pub none_below : (test : ℕ → Bool) (a b c : ℕ) → NonePasses test a b → c ≤ b → NonePasses test a c
none_below test a b c none less = record { each = λ k above below. none.each k above (omega arith) }

pub none_more : (test : ℕ → Bool) (a b : ℕ) → NonePasses test a b → test b ≡ false → NonePasses test a (b + 1)
none_more test a b before here = record {
  each = λ k above below. ⊎_elim (λ (same : k ≡ b). ap test same ∙ here) (λ (less : k < b). before.each k above less) (eq-or-lt_of_le (omega arith));
}

find-nowhere : (test : ℕ → Bool) (a n : ℕ) → NonePasses test a (a + n) → find test (range_with_len a n) ≡ None
find-nowhere test a zero none = refl
find-nowhere test a (suc n) none =
    ap (λ b. cond b (Some a) (find test (range_with_len (a + 1) n))) (none.each a (omega arith) (omega arith))
    ∙ find-nowhere test (a + 1) n (record { each = λ k above below. none.each k (omega arith) (omega arith) })

find-first : (test : ℕ → Bool) (a n i : ℕ) → a ≤ i → i < a + n → NonePasses test a i → test i ≡ true → find test (range_with_len a n) ≡ Some i
find-first test a zero i above below none here = absurd (omega arith)
find-first test a (suc n) i above below none here = ⊎_elim
    (λ (same : a ≡ i). ap (λ b. cond b (Some a) (find test (range_with_len (a + 1) n))) (ap test same ∙ here) ∙ ap (λ k. Some k) same)
    (λ (less : a < i).
    ap (λ b. cond b (Some a) (find test (range_with_len (a + 1) n))) (none.each a (omega arith) less)
    ∙ find-first test (a + 1) n i (omega arith) (omega arith) (record { each = λ k from to. none.each k (omega arith) to }) here)
    (eq-or-lt_of_le above)

pub lowest-none : (set : ℕ) → NonePasses (has_signal set) 1 32 → None ≡ lowest_signal set
unfolding lowest_signal
lowest-none set none = sym (find-nowhere (has_signal set) 1 31 none)

pub lowest-first : (set s : ℕ) → 1 ≤ s → s < 32 → NonePasses (has_signal set) 1 s → has_signal set s ≡ true → Some s ≡ lowest_signal set
unfolding lowest_signal
lowest-first set s above below none here = sym (find-first (has_signal set) 1 31 s above below none here)
