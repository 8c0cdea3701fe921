-- A number is read from its bytes, the highest first.
--     IsTail bytes i number      it is what the last i bytes spell
use Rattle.std.proofs.Common.{◌≡◌, ℕ, suc, ◌+◌, ◌-◌, ◌*◌, ◌^◌, ◌<◌, ◌≤◌, List, ◌∷◌, length, drop, sym, ap, ◌∙◌, lit<, arith}
use Rattle.std.specs.Prelude.{slice_index}
use Rattle.std.proofs.lemmas.List.{drop_all}
use Rattle.std.proofs.Math.Seq.{drop-cons}
use Rattle.std.proofs.Math.Nat.{pow-suc, pow-le-pow_right}
use Rattle.plain_process.specs.Memory.{little_endian}

pub record IsTail (bytes : List ℕ) (i number : ℕ) : Type 0 where
  pub value : number ≡ little_endian (drop (length bytes - i) bytes)
  pub below : number < 256 ^ i

pub no_tail : (bytes : List ℕ) → IsTail bytes 0 0
no_tail bytes = record { value = ap little_endian (sym (drop_all (length bytes - 0) bytes (omega arith))); below = omega arith }

pub small_tail : (bytes : List ℕ) (i number : ℕ) → IsTail bytes i number → i ≤ 7 → number < 256 ^ 7
small_tail bytes i number is few =
    let below = is.below in
    let most : 256 ^ i ≤ 256 ^ 7 = pow-le-pow_right {n = 256} (lit< tt) few in
    omega (arith, below, most)

pub longer_tail : (bytes : List ℕ) (i number : ℕ) → IsTail bytes i number → i < length bytes → slice_index bytes (length bytes - 1 - i) < 256
    → IsTail bytes (i + 1) (number * 256 + slice_index bytes (length bytes - 1 - i))
longer_tail bytes i number is inside small =
    let at = length bytes - 1 - i in
    let next : suc at ≡ length bytes - i = omega arith in
    let begins : at ≡ length bytes - (i + 1) = omega arith in
    let split : drop at bytes ≡ slice_index bytes at ∷ drop (suc at) bytes = drop-cons bytes at 0 (omega arith) in
    let rest : little_endian (drop (suc at) bytes) ≡ number = ap (λ n. little_endian (drop n bytes)) next ∙ sym is.value in
    let all : little_endian (drop (length bytes - (i + 1)) bytes) ≡ slice_index bytes at + 256 * number =
    ap (λ n. little_endian (drop n bytes)) (sym begins) ∙ ap little_endian split ∙ ap (λ n. slice_index bytes at + 256 * n) rest in
    let unit : 256 ^ (i + 1) ≡ 256 ^ i * 256 = ap (λ n. 256 ^ n) (one_more i) ∙ pow-suc 256 i in
    let below = is.below in
    record { value = omega (arith, all); below = omega (arith, unit, below, small) }
  where
    one_more : (n : ℕ) → n + 1 ≡ suc n
    one_more n = omega arith

pub whole_tail : (bytes : List ℕ) (i number : ℕ) → IsTail bytes i number → i ≡ length bytes → number ≡ little_endian bytes
whole_tail bytes i number is all = is.value ∙ ap (λ n. little_endian (drop n bytes)) none
  where
    none : length bytes - i ≡ 0
    none = omega arith
