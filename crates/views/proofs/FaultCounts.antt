-- Counts of faults, chained
use Rattle.std.proofs.Common.{ℕ, ◌^◌, ◌<◌, ◌≤◌, inl, inr, arith}
use Rattle.views.specs.Faults.{Rose}

-- a rise, and then no fall
pub Rose-then : (a b c : ℕ) → Rose a b → b ≤ c → c < 2 ^ 64 → Rose a c
Rose-then a b c (inl rose) later small = inl (omega arith)
Rose-then a b c (inr greatest) later small = inr (omega arith)

-- no fall, and then a rise
pub Rose-after : (a b c : ℕ) → a ≤ b → Rose b c → Rose a c
Rose-after a b c before (inl rose) = inl (omega arith)
Rose-after a b c before (inr greatest) = inr greatest

-- no fall, a rise, and then no fall
pub Rose-within : (a b c d : ℕ) → a ≤ b → Rose b c → c ≤ d → d < 2 ^ 64 → Rose a d
Rose-within a b c d before rose later small = Rose-after a b d before (Rose-then b c d rose later small)
