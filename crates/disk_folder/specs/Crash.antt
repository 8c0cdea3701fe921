-- What a crash may leave of a folder: an image is the files that are found afterwards.
--     Torn name at n          a torn write: what a crash may make of an image while n bytes are written, and
--                             until a sync has settled them
--     CutOrNot name len       the same of a cut
--     Same                    the same of a call that writes nothing
--     AfterStep step before   the images that come of those before by a step
--     Only files images       a crash leaves these files and nothing else
--     IsSettled folder        nothing is pending: all that reads give is durable, and a crash leaves just
--                             that. Of a folder that tells no content this says nothing
--     Takes step old new      what reads give has taken a step; a folder that tells no content goes on
--                             telling none
use Rattle.std.specs.Prelude.{◌≡◌, ◌≢◌, ◌⊎◌, ℕ, ◌+◌, ◌≤◌, min, max, List, length, take, drop, Option, Some, None, IsSome, IfSome}
use Rattle.std.specs.FinMap as map
use Rattle.disk_folder.specs.Files.{FolderFiles, contents, with_cut}
use Rattle.disk_folder.specs.SeenFolder.{SeenFolder}
use Rattle.disk_folder.specs.declared.file_name.FileName.{FileName}

-- Any bytes may stand in the written range and, where a write before it got less far, from the file's end on
-- up to the range. The bytes outside stay.
pub record TornBytes (at n : ℕ) (old new : List ℕ) : Type 0 where
  pub front : take (min at (length old)) new ≡ take at old
  pub behind : drop (at + n) new ≡ drop (at + n) old
  pub no_shorter : length old ≤ length new
  pub no_longer : length new ≤ max (length old) (at + n)

-- The file may not have been made yet. All other files stay.
pub record Torn (name : FileName) (at n : ℕ) (old new : FolderFiles) : Type 0 where
  pub others : (q : FileName) → q ≢ name → map.get new q ≡ map.get old q
  pub there : IsSome (map.get old name) → IsSome (map.get new name)
  pub bytes : TornBytes at n (contents old name) (contents new name)

abbrev pub CutOrNot : FileName → ℕ → FolderFiles → FolderFiles → Type 0
CutOrNot name len old new = (new ≡ old) ⊎ (new ≡ with_cut old name len)

abbrev pub Same : FolderFiles → FolderFiles → Type 0
Same old new = new ≡ old

abbrev pub AfterStep : (FolderFiles → FolderFiles → Type 0) → (FolderFiles → Type 0) → FolderFiles → Type 0
AfterStep step before image = (old : FolderFiles) × before old × step old image

abbrev pub Only : FolderFiles → (FolderFiles → Type 0) → Type 0
Only files images = (image : FolderFiles) → images image → image ≡ files

abbrev pub IsSettled : SeenFolder → Type 0
IsSettled folder = IfSome folder.files (λ files. Only files folder.may_leave)

abbrev pub Takes : (FolderFiles → FolderFiles → Type 0) → Option FolderFiles → Option FolderFiles → Type 0
Takes step None new = new ≡ None
Takes step (Some old) new = (files : FolderFiles) × (new ≡ Some files) × step old files
