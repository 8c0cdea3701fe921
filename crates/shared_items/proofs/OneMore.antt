-- The items of a list are read by reading one more, and the others behind it
use Rattle.std.proofs.Common.{◌≡◌, ℕ, ◌+◌, ◌-◌, ◌<◌, List, [], ◌∷◌, ◌++◌, Result, Ok, Err, refl, ◌∙◌}
use Rattle.image_format.specs.Format.{FormatOf, each}
use Rattle.image_format.specs.Reading.{read, read_next}
use Rattle.image_format.proofs.Loop.{one_item}

added_first : {X : Type 0} (front : List X) (item : Result (X × List ℕ) ℕ) (others : List X → List ℕ → Result (List X × List ℕ) ℕ) → read_next item (λ x rest. others (front ++ x ∷ []) rest) ≡ read_next (read_next item (λ x rest. Ok (front ++ x ∷ [], rest))) others
unfolding read_next
added_first front (Ok got) others = refl
added_first front (Err left) others = refl

pub one_more : {X : Type 0} (item : List X → FormatOf X) (n i : ℕ) (front : List X) (text : List ℕ) → i < n → read (each item (n - i) front) text ≡ read_next (read (each item 1 front) text) (λ more rest. read (each item (n - (i + 1)) more) rest)
unfolding read each
one_more item n i front text h = one_item item n i front text h ∙ added_first front (read (item front) text) (λ more rest. read (each item (n - (i + 1)) more) rest)
