-- Counts of faults. A count of 64 bits only rises, and stays at its greatest value once it is there.
--     Rose old new      the count rose from old to new, or new is its greatest value, at which a fault may leave it as it was
--     IsFaultOf r e old new     if the result r is the error e, the count rose
use Rattle.std.specs.Prelude.{◌≡◌, ℕ, ◌-◌, ◌^◌, ◌<◌, ◌⊎◌, Result, Err}

abbrev pub Rose : ℕ → ℕ → Type 0
Rose old new = (old < new) ⊎ (new ≡ 2 ^ 64 - 1)

abbrev pub IsFaultOf : {A E : Type 0} → Result A E → E → ℕ → ℕ → Type 0
IsFaultOf r e old new = r ≡ Err e → Rose old new
