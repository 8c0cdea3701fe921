-- A signal that is raised and taken away again.
--     raised_again      a set that has it stays as it is
--     raised_taken      one that has not is as before
use Rattle.std.proofs.Common.{◌≡◌, ◌≢◌, ℕ, zero, suc, ◌+◌, ◌%◌, ◌^◌, ◌<◌, true, false, inl, inr, refl, sym, ap, ◌∙◌, arith}
use Rattle.std.specs.Prelude.{bit_or, bit_and, bit_xor, not, ◌==◌, max}
use Rattle.std.specs.Int.{bit_at}
use Rattle.std.proofs.Math.Nat.{max-zero}
use Rattle.std.proofs.lemmas.Nat.{and_or_self}
use Rattle.std.proofs.lemmas.Nat.Bits.{bit_at-lt, bit_at-pow_same, bit_at-pow_other, bit_at_or, bit_at_xor, same_from_bits}
use Rattle.sys_abi.specs.Signals.{has_signal, with_signal, without_signal}
use Rattle.rebuild_processes.proofs.SignalBits.{nat_same_or_other, bit_is, bit_there, bit_missing}

flag_left : (b : ℕ) → b < 2 → (b + 0) % 2 ≡ b
flag_left zero less = refl
flag_left (suc zero) less = refl
flag_left (suc (suc b)) less = absurd (omega (arith, less))

module _ (set k : ℕ) where
  beside : (i : ℕ) → i ≢ k → bit_at (bit_or set (2 ^ k)) i ≡ bit_at set i
  beside i differ =
      bit_at_or set (2 ^ k) i ∙ ap (max (bit_at set i)) (bit_at-pow_other k i differ)
      ∙ max-zero (bit_at set i)

  own : (b : ℕ) → bit_at set k ≡ b → bit_at (bit_or set (2 ^ k)) k ≡ max b 1
  own b is = bit_at_or set (2 ^ k) k ∙ ap (λ c. max c (bit_at (2 ^ k) k)) is ∙ ap (max b) (bit_at-pow_same k)

  with_again : bit_at set k ≡ 1 → bit_or set (2 ^ k) ≡ set
  with_again one = same_from_bits (bit_or set (2 ^ k)) set (λ i. elim (nat_same_or_other i k) [
    | inl same ↦ ap (bit_at (bit_or set (2 ^ k))) same ∙ own 1 one ∙ sym one ∙ ap (bit_at set) (sym same)
    | inr differ ↦ beside i differ
  ])

  abbrev without : ℕ → ℕ
  without n = bit_xor n (bit_and n (2 ^ k))

  with_taken : bit_at set k ≡ 0 → without (bit_or set (2 ^ k)) ≡ set
  with_taken none =
      ap (bit_xor (bit_or set (2 ^ k))) (and_or_self (2 ^ k) set)
      ∙ same_from_bits (bit_xor (bit_or set (2 ^ k)) (2 ^ k)) set (λ i. elim (nat_same_or_other i k) [
        | inl same ↦ ap (bit_at (bit_xor (bit_or set (2 ^ k)) (2 ^ k))) same
            ∙ bit_at_xor (bit_or set (2 ^ k)) (2 ^ k) k
            ∙ ap (λ b. (b + bit_at (2 ^ k) k) % 2) (own 0 none)
            ∙ ap (λ b. (1 + b) % 2) (bit_at-pow_same k) ∙ sym none ∙ ap (bit_at set) (sym same)
        | inr differ ↦
            bit_at_xor (bit_or set (2 ^ k)) (2 ^ k) i
            ∙ ap (λ b. (b + bit_at (2 ^ k) i) % 2) (beside i differ)
            ∙ ap (λ b. (bit_at set i + b) % 2) (bit_at-pow_other k i differ)
            ∙ flag_left (bit_at set i) (bit_at-lt set i)
      ])

module _ (set k : ℕ) (less : k < 31) where
  pub raised_again : has_signal set (suc k) ≡ true → with_signal set (suc k) ≡ set
  raised_again has =
      ap (bit_or set) (bit_is k less)
      ∙ with_again set k (bit_there set k (ap (λ b. not (bit_and set b == 0)) (sym (bit_is k less)) ∙ has))

  pub raised_taken : has_signal set (suc k) ≡ false → without_signal (with_signal set (suc k)) (suc k) ≡ set
  raised_taken misses =
      ap (λ b. bit_xor (bit_or set b) (bit_and (bit_or set b) b)) (bit_is k less)
      ∙ with_taken set k
      (bit_missing set k (ap (λ b. not (bit_and set b == 0)) (sym (bit_is k less)) ∙ misses))
