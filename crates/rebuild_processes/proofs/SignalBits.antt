-- A set of signals made one by one.
--     IsPart set n made      of the bits of a set those below n, and no others
--     part_none, part_with, part_without, part_all      from none to all of them
use Rattle.std.proofs.Common.{◌≡◌, ◌≢◌, ◌⊎◌, ℕ, zero, suc, ◌+◌, ◌-◌, ◌^◌, ◌<◌, ◌≤◌, Bool, true, false, cond, inl, inr, refl, sym, ap, ◌∙◌, subst, arith}
use Rattle.std.specs.Prelude.{bit_or, bit_and, not, ◌==◌, ◌&&◌, nat_le, max, min}
use Rattle.std.specs.Int.{bit_at}
use Rattle.std.proofs.lemmas.Nat.Bits.{bit_at-zero, bit_at-lt, bit_at-pow_same, bit_at-pow_other, bit_at_above, bit_at_or, bit_at_and, same_from_bits}
use Rattle.std.proofs.Math.Nat.{min-zero, zero-min, max-zero, zero-max}
use Rattle.std.proofs.lemmas.Bool.{eqb-true, le-leb}
use Rattle.std.proofs.Math.Nat.{eq-or-lt_of_le}
use Rattle.std.specs.Cmp.{nat_cmp_total}
use Rattle.std.specs.FinMap.{nat_cmp-IsAntisymmetric}
use Rattle.views.proofs.MapLaws.{true_false, same_or_other}
use Rattle.sys_abi.specs.Signals.{bit_of, has_signal, with_signal, is_signal}

pub record IsPart (set n made : ℕ) : Type 0 where
  pub below : (i : ℕ) → i < n → bit_at made i ≡ bit_at set i
  pub above : (i : ℕ) → n ≤ i → bit_at made i ≡ 0

pub nat_same_or_other : (i k : ℕ) → (i ≡ k) ⊎ (i ≢ k)
nat_same_or_other i k = same_or_other nat_cmp_total nat_cmp-IsAntisymmetric i k

smaller : (i k : ℕ) → i < suc k → i ≢ k → i < k
smaller i k less differ = elim (eq-or-lt_of_le (low i k less)) [
  | inl same ↦ absurd (differ same)
  | inr below ↦ below
]
  where
    low : (i k : ℕ) → i < suc k → i ≤ k
    low i k less = omega (arith, less)

not_self : (i k : ℕ) → suc k ≤ i → i ≡ k → ⊥
not_self i k more same = omega (arith, more, same)

pub part_none : (set : ℕ) → IsPart set 0 0
part_none set = record {
  below = λ i less. absurd (omega (arith, less));
  above = λ i more. bit_at-zero i;
}

pub part_all : (set n made : ℕ) → set < 2 ^ 31 → 31 ≤ n → IsPart set n made → made ≡ set
part_all set n made small full part = same_from_bits made set (λ i. elim (below_or i n) [
  | inl less ↦ part.below i less
  | inr more ↦ part.above i more ∙ sym (bit_at_above set 31 i small (over i more full))
])
  where
    over : (i : ℕ) → n ≤ i → 31 ≤ n → 31 ≤ i
    over i more full = omega (arith, more, full)

    below_or : (i n : ℕ) → (i < n) ⊎ (n ≤ i)
    below_or i zero = inr (omega arith)
    below_or zero (suc n) = inl (omega arith)
    below_or (suc i) (suc n) = elim (below_or i n) [
      | inl less ↦ inl (omega (arith, less))
      | inr more ↦ inr (omega (arith, more))
    ]

-- a signal of the set is its bit

flag_by : (b : ℕ) → b < 2 → (b ≡ 0) ⊎ (b ≡ 1)
flag_by zero less = inl refl
flag_by (suc zero) less = inr refl
flag_by (suc (suc b)) less = absurd (omega (arith, less))

module _ (set k : ℕ) where
  meets : (i : ℕ) → bit_at (bit_and set (2 ^ k)) i ≡ min (bit_at set i) (bit_at (2 ^ k) i)
  meets i = bit_at_and set (2 ^ k) i

  meets_none : bit_at set k ≡ 0 → bit_and set (2 ^ k) ≡ 0
  meets_none none = same_from_bits (bit_and set (2 ^ k)) 0 (λ i. elim (nat_same_or_other i k) [
    | inl same ↦ meets i ∙ ap (λ j. min (bit_at set j) (bit_at (2 ^ k) i)) same
        ∙ ap (λ b. min b (bit_at (2 ^ k) i)) none ∙ zero-min (bit_at (2 ^ k) i) ∙ sym (bit_at-zero i)
    | inr differ ↦ meets i ∙ ap (min (bit_at set i)) (bit_at-pow_other k i differ)
        ∙ min-zero (bit_at set i) ∙ sym (bit_at-zero i)
  ])

  meets_own : bit_at (bit_and set (2 ^ k)) k ≡ min (bit_at set k) 1
  meets_own = meets k ∙ ap (min (bit_at set k)) (bit_at-pow_same k)

  pub bit_there : not (bit_and set (2 ^ k) == 0) ≡ true → bit_at set k ≡ 1
  bit_there has = elim (flag_by (bit_at set k) (bit_at-lt set k)) [
    | inl none ↦ true_false (sym has ∙ ap (λ n. not (n == 0)) (meets_none none))
    | inr one ↦ one
  ]

  pub bit_missing : not (bit_and set (2 ^ k) == 0) ≡ false → bit_at set k ≡ 0
  bit_missing misses = elim (flag_by (bit_at set k) (bit_at-lt set k)) [
    | inl none ↦ none
    | inr one ↦
        let own : bit_at (bit_and set (2 ^ k)) k ≡ 1 = meets_own ∙ ap (λ b. min b 1) one in
        let none : bit_and set (2 ^ k) ≡ 0 = eqb-true (bit_and set (2 ^ k)) 0 (not_false _ misses) in
        let clash : 0 ≡ 1 = sym (bit_at-zero k) ∙ ap (λ n. bit_at n k) (sym none) ∙ own in
        absurd (omega (arith, clash))
  ]
    where
      not_false : (b : Bool) → not b ≡ false → b ≡ true
      not_false true e = refl
      not_false false e = true_false e

  -- one signal more, and one that the set has not

  module _ (made : ℕ) (part : IsPart set k made) where
    joined : (i : ℕ) → bit_at (bit_or made (2 ^ k)) i ≡ max (bit_at made i) (bit_at (2 ^ k) i)
    joined i = bit_at_or made (2 ^ k) i

    joined_other : (i : ℕ) → i ≢ k → bit_at (bit_or made (2 ^ k)) i ≡ bit_at made i
    joined_other i differ =
        joined i ∙ ap (max (bit_at made i)) (bit_at-pow_other k i differ) ∙ max-zero (bit_at made i)

    joined_own : bit_at (bit_or made (2 ^ k)) k ≡ 1
    joined_own =
        joined k ∙ ap (λ b. max b (bit_at (2 ^ k) k)) (part.above k (omega arith))
        ∙ zero-max (bit_at (2 ^ k) k) ∙ bit_at-pow_same k

    pub part_with : bit_at set k ≡ 1 → IsPart set (suc k) (bit_or made (2 ^ k))
    part_with one = record {
      below = λ i less. elim (nat_same_or_other i k) [
        | inl same ↦ ap (bit_at (bit_or made (2 ^ k))) same ∙ joined_own ∙ sym one
            ∙ ap (bit_at set) (sym same)
        | inr differ ↦ joined_other i differ ∙ part.below i (smaller i k less differ)
      ];
      above = λ i more. joined_other i (λ same. not_self i k more same) ∙ part.above i (omega (arith, more));
    }

    pub part_without : bit_at set k ≡ 0 → IsPart set (suc k) made
    part_without none = record {
      below = λ i less. elim (nat_same_or_other i k) [
        | inl same ↦ ap (bit_at made) same ∙ part.above k (omega arith) ∙ sym none
            ∙ ap (bit_at set) (sym same)
        | inr differ ↦ part.below i (smaller i k less differ)
      ];
      above = λ i more. part.above i (omega (arith, more));
    }

-- of a set by its signals

pub bit_is : (k : ℕ) → k < 31 → bit_of (suc k) ≡ 2 ^ k
bit_is k less =
    ap (λ b. cond b (2 ^ (suc k - 1)) 0) (in_range k less) ∙ ap (λ n. 2 ^ n) (one_less k)
  where
    one_less : (k : ℕ) → suc k - 1 ≡ k
    one_less k = omega arith

    in_range : (k : ℕ) → k < 31 → is_signal (suc k) ≡ true
    in_range k less =
        ap (λ b. b && nat_le (suc k) 31) (le-leb 1 (suc k) (omega arith))
        ∙ le-leb (suc k) 31 (omega (arith, less))

module _ (set k made : ℕ) (less : k < 31) (part : IsPart set k made) where
  pub signal_with : has_signal set (suc k) ≡ true → IsPart set (suc k) (with_signal made (suc k))
  signal_with has =
      subst (λ b. IsPart set (suc k) (bit_or made b)) (sym (bit_is k less))
      (part_with set k made part
      (bit_there set k (ap (λ b. not (bit_and set b == 0)) (sym (bit_is k less)) ∙ has)))

  pub signal_without : has_signal set (suc k) ≡ false → IsPart set (suc k) made
  signal_without misses =
      part_without set k made part
      (bit_missing set k (ap (λ b. not (bit_and set b == 0)) (sym (bit_is k less)) ∙ misses))

-- of a loop over the signals

module _ (set made : ℕ) where
  pub step_with : (s : ℕ) → 1 ≤ s → s < 32 → IsPart set (s - 1) made → has_signal set s ≡ true
      → IsPart set (s + 1 - 1) (with_signal made s)
  step_with zero positive less part has = absurd (omega (arith, positive))
  step_with (suc k) positive less part has =
      let before : suc k - 1 ≡ k = omega arith in
      let after : suc k + 1 - 1 ≡ suc k = omega arith in
      subst (λ n. IsPart set n (with_signal made (suc k))) (sym after)
      (signal_with set k made (omega (arith, less)) (subst (λ n. IsPart set n made) before part) has)

  pub step_without : (s : ℕ) → 1 ≤ s → s < 32 → IsPart set (s - 1) made → has_signal set s ≡ false
      → IsPart set (s + 1 - 1) made
  step_without zero positive less part misses = absurd (omega (arith, positive))
  step_without (suc k) positive less part misses =
      let before : suc k - 1 ≡ k = omega arith in
      let after : suc k + 1 - 1 ≡ suc k = omega arith in
      subst (λ n. IsPart set n made) (sym after)
      (signal_without set k made (omega (arith, less)) (subst (λ n. IsPart set n made) before part) misses)

  full : (s : ℕ) → 32 ≤ s → 31 ≤ s - 1
  full s more = omega (arith, more)

  pub made_all : (s : ℕ) → set < 2 ^ 31 → 32 ≤ s → IsPart set (s - 1) made → made ≡ set
  made_all s small more part = part_all set (s - 1) made small (full s more) part
