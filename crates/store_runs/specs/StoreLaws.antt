-- Laws of the sets of folders.
--     info_in set        the slot and the generation of a set
--     IsOneSet, IsApart, IsOnePlace      a set is whole in one way, or damaged at one place, and not both
use Rattle.std.specs.Prelude.{◌≡◌, ℕ, List, Option}
use Rattle.image_format.specs.declared.damage.Damage.{Damage}
use Rattle.image_store.specs.FoundSets.{FoundSet, HasSet}
use Rattle.image_store.specs.SetDamages.{HasDamage}
use Rattle.image_store.specs.declared.set_info.SetInfo.{SetInfo}

abbrev pub info_in : FoundSet → SetInfo
info_in set = record { slot = set.slot; generation = set.generation }

abbrev pub IsOneSet : Option FoundSet → Type 0
IsOneSet found = (g h : ℕ) (bytes others : List (List ℕ)) → HasSet found g bytes → HasSet found h others
    → (g ≡ h) × (bytes ≡ others)

abbrev pub IsApart : Option FoundSet → Type 0
IsApart found = (g : ℕ) (bytes : List (List ℕ)) (damage : Damage) → HasSet found g bytes
    → HasDamage found damage → ⊥

abbrev pub IsOnePlace : Option FoundSet → Type 0
IsOnePlace found = (damage other : Damage) → HasDamage found damage → HasDamage found other → damage ≡ other
