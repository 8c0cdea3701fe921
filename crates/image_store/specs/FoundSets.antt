-- The set that counts in a folder, with the contents that are there.
--     FoundSet                        a slot's set: its generation, its manifest, and the files that the
--                                     manifest names, `None` where one is not there
--     last_set files                  the set that counts
--     IsSet found generation files    it is whole: its manifest spells this generation and the lengths of
--                                     these files, and these files are there
--     HasSet found generation files   there is one, and it is that
use Rattle.std.specs.Prelude.{◌≡◌, ℕ, zero, suc, List, [], ◌∷◌, length, map, Option, Some, option_map}
use Rattle.std.specs.FinMap as files_by_name
use Rattle.views.specs.Numbers.{Byte}
use Rattle.disk_folder.specs.Files.{FolderFiles}
use Rattle.image_format.specs.Manifests.{SpellsManifest}
use Rattle.image_store.specs.Slots.{manifest_of, file_count, last}
use Rattle.image_store.specs.declared.set_info.SetInfo.{SetInfo}

pub record FoundSet : Type 0 where
  pub slot : ℕ
  pub generation : ℕ
  pub manifest : List Byte
  pub files : List (Option (List Byte))

-- the file of a slot at an index, if it is there
abbrev pub file_at : FolderFiles → ℕ → ℕ → Option (List Byte)
file_at files slot index = files_by_name.get files (record { slot = slot; index = index })

-- so many files, from an index on
abbrev pub files_from : (ℕ → Option (List Byte)) → ℕ → ℕ → List (Option (List Byte))
files_from there index zero = []
files_from there index (suc n) = there index ∷ files_from there (suc index) n

-- the manifest names the files from 1 up to its count
unfoldable pub set_of : FolderFiles → SetInfo → FoundSet
set_of files info = record {
  slot = info.slot;
  generation = info.generation;
  manifest = manifest_of files info.slot;
  files = files_from (file_at files info.slot) 1 (file_count (manifest_of files info.slot));
}

unfoldable pub last_set : FolderFiles → Option FoundSet
last_set files = option_map (set_of files) (last files)

pub record IsSet (found : FoundSet) (g : ℕ) (bytes : List (List Byte)) : Type 0 where
  pub generation : found.generation ≡ g
  pub manifest : SpellsManifest found.manifest (record { generation = g; lengths = map length bytes })
  pub files : found.files ≡ map Some bytes

abbrev pub HasSet : Option FoundSet → ℕ → List (List Byte) → Type 0
HasSet found generation bytes = (set : FoundSet) × (found ≡ Some set) × IsSet set generation bytes
