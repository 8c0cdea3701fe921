-- A run of sets that are put one after another.
--     IsSmall set        a set of 1 to 129 files
--     IsOneOf before generation sets found      the set that counts is the one of before, or one of these,
--                                               whose generations follow one another from this one on
use Rattle.std.specs.Prelude.{◌≡◌, ◌⊎◌, ℕ, ◌+◌, ◌<◌, ◌≤◌, List, length, slice_get, Option, Some}
use Rattle.image_format.specs.declared.set_bytes.SetBytes.{SetBytes}
use Rattle.image_store.specs.FoundSets.{FoundSet, HasSet}

pub record IsSmall (set : SetBytes) : Type 0 where
  pub some : 0 < length set.files
  pub few : length set.files ≤ 129

abbrev pub IsOneOf : Option FoundSet → ℕ → List SetBytes → Option FoundSet → Type 0
IsOneOf before generation sets found =
    (found ≡ before) ⊎ ((i : ℕ) × (set : SetBytes) × (slice_get sets i ≡ Some set)
    × HasSet found (generation + i) set.files)
