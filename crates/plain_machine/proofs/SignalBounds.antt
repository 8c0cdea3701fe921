-- What the changes of a set of signals are below.
use Rattle.std.proofs.Common.{◌≡◌, ℕ, ◌-◌, ◌^◌, ◌<◌, Bool, true, false, cond, refl, sym, ap, ◌∙◌, arith}
use Rattle.std.specs.Prelude.{◌==◌, not, bit_and, bit_xor}
use Rattle.std.proofs.lemmas.Nat.{or_lt, xor_lt, and_le_l, and_le_r, pow_below}
use Rattle.std.proofs.lemmas.Bool.Decides.{nat_tests}
use Rattle.plain_tables.specs.OfSysAbi.Signals.{is_signal, bit_of, has_signal, with_signal, without_signals, without_signal}
use Rattle.plain_tables.proofs.OfViews.MapLaws.{true_false}
use Rattle.plain_machine.specs.Valid.{IsSignalSet}

pub bit_small : (s : ℕ) → bit_of s < 2 ^ 31
bit_small s = chosen (is_signal s) refl
  where
    chosen : (b : Bool) → is_signal s ≡ b → cond b (2 ^ (s - 1)) 0 < 2 ^ 31
    chosen true signal = pow_below (s - 1) 31 (grind (arith, nat_tests, signal))
    chosen false other = omega arith

pub without_small : (k set others : ℕ) → set < 2 ^ k → without_signals set others < 2 ^ k
without_small k set others small =
    let less = and_le_l set others in xor_lt k set (bit_and set others) small (omega arith)

no_bits : (set : ℕ) → bit_and set 0 ≡ 0
no_bits set = let less = and_le_r set 0 in omega arith

pub set_without : (set s : ℕ) → IsSignalSet set → IsSignalSet (without_signal set s)
set_without set s small = without_small 31 set (bit_of s) small

pub set_with : (set s : ℕ) → IsSignalSet set → IsSignalSet (with_signal set s)
set_with set s small = or_lt 31 set (bit_of s) small (bit_small s)

-- a signal of a set is one
pub signal_small : (set s : ℕ) → has_signal set s ≡ true → s < 32
signal_small set s has = chosen (is_signal s) refl
  where
    chosen : (b : Bool) → is_signal s ≡ b → s < 32
    chosen true signal = grind (arith, nat_tests, signal)
    chosen false other =
        let none : bit_and set (cond (is_signal s) (2 ^ (s - 1)) 0) ≡ 0 = ap (λ b. bit_and set (cond b (2 ^ (s - 1)) 0)) other ∙ no_bits set in
        true_false (sym has ∙ ap (λ n. not (n == 0)) none)

pub none_without : (s : ℕ) → without_signal 0 s ≡ 0
none_without s = let none : bit_and 0 (bit_of s) ≡ 0 = let less = and_le_l 0 (bit_of s) in omega arith in ap (bit_xor 0) none
