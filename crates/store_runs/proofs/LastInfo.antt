-- The set that counts has the slot and the generation of `last`.
use Rattle.std.proofs.Common.{◌≡◌, refl}
use Rattle.std.specs.Prelude.{Option, Some, None, option_map}
use Rattle.disk_folder.specs.Files.{FolderFiles}
use Rattle.image_store.specs.Slots.{last}
use Rattle.image_store.specs.FoundSets.{set_of, last_set}
use Rattle.store_runs.specs.StoreLaws.{info_in}
use Rattle.image_store.specs.declared.set_info.SetInfo.{SetInfo}

pub last_info : (files : FolderFiles) → last files ≡ option_map info_in (last_set files)
unfolding last_set set_of
last_info files = at_found (last files)
  where
    at_found : (found : Option SetInfo) → found ≡ option_map info_in (option_map (set_of files) found)
    at_found None = refl
    at_found (Some info) = refl
