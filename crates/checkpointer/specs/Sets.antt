-- The sets of a folder and the plain states that they spell.
--     SpellsState images g              the files of a set, but for its manifest, spell this state
--     SpellsSet files generation g      the set that counts in the folder has this generation and spells this
--                                       state
--     SpoilsSet files slot damage       the set that counts lies in this slot and spells no state, first of
--                                       all for what is at this place
--     IsAtLeast generation files        a set counts that has this generation or a later one
--     opening_of files                  the generation of the set that counts, 0 where none does
use Rattle.std.specs.Prelude.{◌≡◌, ◌⊎◌, ℕ, ◌≤◌, List, Some}
use Rattle.std.specs.Option.{option_map_or}
use Rattle.views.specs.Numbers.{Byte}
use Rattle.disk_folder.specs.Files.{FolderFiles}
use Rattle.plain_machine.specs.declared.plain.Plain.{Plain}
use Rattle.image_format.specs.declared.damage.Damage.{Damage}
use Rattle.image_process.specs.declared.process_image.ProcImage.{ProcImage}
use Rattle.shared_items.specs.declared.shared.Shared.{Shared}
use Rattle.image_codec.specs.Sets.{SpellsFiles, DamagedFiles, IsStateOf}
use Rattle.image_store.specs.Slots.{last}
use Rattle.image_store.specs.FoundSets.{FoundSet, last_set, HasSet, IsSet}
use Rattle.image_store.specs.SetDamages.{IsFirstDamage}
use Rattle.image_store.specs.declared.set_info.SetInfo.{SetInfo}

pub record SpellsState (images : List (List Byte)) (g : Plain) : Type 0 where
  pub shared : Shared
  pub processes : List ProcImage
  pub spelled : SpellsFiles images shared processes
  pub stands : IsStateOf shared processes g

pub record SpellsSet (files : FolderFiles) (generation : ℕ) (g : Plain) : Type 0 where
  pub images : List (List Byte)
  pub counts : HasSet (last_set files) generation images
  pub state : SpellsState images g

-- the files spell no state, first of all for what is at this place
abbrev pub SpellNoState : FoundSet → Damage → Type 0
SpellNoState found damage =
    (images : List (List ℕ))
    × (IsSet found found.generation images × DamagedFiles images damage.file damage.offset)

-- its manifest is none, a file is missing or of another length than the manifest says; or the files spell no
-- state
pub record SpoilsSet (files : FolderFiles) (slot : ℕ) (damage : Damage) : Type 0 where
  pub found : FoundSet
  pub counts : last_set files ≡ Some found
  pub place : found.slot ≡ slot
  pub damaged : IsFirstDamage found damage ⊎ SpellNoState found damage

abbrev pub opening_of : FolderFiles → ℕ
opening_of files = option_map_or (λ (info : SetInfo). info.generation) (last files) 0

pub record IsAtLeast (generation : ℕ) (files : FolderFiles) : Type 0 where
  pub info : SetInfo
  pub counts : last files ≡ Some info
  pub late : generation ≤ info.generation
