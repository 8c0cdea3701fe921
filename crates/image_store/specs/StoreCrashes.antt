-- What a crash leaves of a folder in which a store works.
--     OldOrNew before generation bytes image    the set that counts in the image is the one of before, or the
--                                               new one with this generation and these files
--     ChangesNothing old new                    a stretch of calls that only look or sync: reads give what
--                                               they gave, and a crash leaves what it could leave before
--     SameTold old new                          the folder goes on to tell its content, or to tell none
use Rattle.std.specs.Prelude.{◌≡◌, ◌⊎◌, ℕ, List, Option, is_some}
use Rattle.disk_folder.specs.Files.{FolderFiles}
use Rattle.disk_folder.specs.Crash.{Same}
use Rattle.disk_folder.specs.Moments.{Passes}
use Rattle.disk_folder.specs.SeenFolder.{SeenFolder}
use Rattle.image_store.specs.FoundSets.{FoundSet, last_set, HasSet}

abbrev pub OldOrNew : Option FoundSet → ℕ → List (List ℕ) → FolderFiles → Type 0
OldOrNew before generation bytes image = (last_set image ≡ before) ⊎ HasSet (last_set image) generation bytes

pub record ChangesNothing (old new : SeenFolder) : Type 0 where
  pub same : new.files ≡ old.files
  pub crash : Passes Same old new

abbrev pub SameTold : Option FolderFiles → Option FolderFiles → Type 0
SameTold old new = is_some new ≡ is_some old
