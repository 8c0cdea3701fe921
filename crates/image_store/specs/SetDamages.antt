-- Where a set is damaged: first its manifest, and then the lengths of its files in order.
--     damage_at index n file                a file that is to have n bytes: one that is not there is damaged
--                                           at 0, a shorter one at its length, a longer one at n
--     damage_from index lengths files       the first such file
--     HasDamage found damage                there is such a set, and it is damaged there
--     IsFirstDamage found damage              the manifest is damaged there, or it is spelled and this is the first file whose length is another
use Rattle.std.specs.Prelude.{◌≡◌, ◌⊎◌, ℕ, suc, min, if◌then◌else◌, ◌==◌, List, [], ◌∷◌, length, Option, Some}
use Rattle.std.specs.Prelude.{None}
use Rattle.std.specs.Option.{option_or}
use Rattle.views.specs.Numbers.{Byte}
use Rattle.image_format.specs.declared.damage.Damage.{Damage}
use Rattle.image_format.specs.declared.manifest.Manifest.{Manifest}
use Rattle.image_format.specs.Manifests.{SpellsManifest, DamagedManifest}
use Rattle.image_store.specs.FoundSets.{FoundSet}

unfoldable pub damage_at : ℕ → ℕ → Option (List Byte) → Option Damage
damage_at index n None = Some (record { file = index; offset = 0 })
damage_at index n (Some bytes) =
    if length bytes == n then None else Some (record { file = index; offset = min (length bytes) n })

abbrev pub damage_from : ℕ → List ℕ → List (Option (List Byte)) → Option Damage
damage_from index [] files = None
damage_from index (n ∷ lengths) [] = None
damage_from index (n ∷ lengths) (file ∷ files) =
    option_or (damage_at index n file) (damage_from (suc index) lengths files)

abbrev pub IsFirstDamage : FoundSet → Damage → Type 0
IsFirstDamage found damage = ((damage.file ≡ 0) × DamagedManifest found.manifest damage.offset)
    ⊎ ((m : Manifest) × SpellsManifest found.manifest m × (damage_from 1 m.lengths found.files ≡ Some damage))

abbrev pub HasDamage : Option FoundSet → Damage → Type 0
HasDamage found damage = (set : FoundSet) × (found ≡ Some set) × IsFirstDamage set damage
