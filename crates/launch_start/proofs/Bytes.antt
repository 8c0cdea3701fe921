-- What is known of bytes that were looked at.
--     all_bytes, one_more
use Rattle.std.proofs.Common.{Fits, w8, get_or, ℕ, zero, suc, ◌<◌, List, arith}
use Rattle.std.specs.Prelude.{All}
use Rattle.std.proofs.lemmas.List.{get_or_default}
use Rattle.plain_process.specs.Valid.{IsByte}

pub all_bytes : (bytes : List ℕ) → ((k : ℕ) → Fits w8 (get_or bytes k 0)) → All IsByte bytes
all_bytes bytes fits k d inside = rw (get_or_default bytes k d 0 inside) (omega (arith, fits k))

pub one_more : (P : ℕ → Type 0) (n : ℕ) → ((k : ℕ) → k < n → P k) → P n → (k : ℕ) → k < suc n → P k
one_more P zero before here zero below = here
one_more P zero before here (suc k) below = absurd (omega arith)
one_more P (suc n) before here zero below = before zero (omega arith)
one_more P (suc n) before here (suc k) below = one_more (λ m. P (suc m)) n (λ m less. before (suc m) (omega arith)) here k (omega arith)
