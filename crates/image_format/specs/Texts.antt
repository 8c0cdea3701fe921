-- What the values of a format's fields keep.
--     FitsField size ok n      the number has this size and passes the test
--     EachFrom P front items      P of each item, with those that stand before it
use Rattle.std.specs.Prelude.{ℕ, ◌<◌, Bool, IsTrue, List, [], ◌∷◌, ◌++◌}
use Rattle.image_format.specs.Format.{Size, number_limit}

abbrev pub FitsField : Size → (ℕ → Bool) → ℕ → Type 0
FitsField size ok n = (n < number_limit size) × IsTrue (ok n)

unfoldable pub EachFrom : {X : Type 0} → (List X → X → Type 0) → List X → List X → Type 0
EachFrom P front [] = Unit {0}
EachFrom P front (x ∷ items) = P front x × EachFrom P (front ++ x ∷ []) items
