-- What the steps of a `put_set` make of the files, and what a crash in them may leave.
--     with_closed slot gate files       the gate closed, where the manifest's first byte was this one
--     with_images slot index images files      these images as files of the slot, from an index on
--     with_manifest slot bytes files    the manifest's bytes behind the gate, which stays
--     closing_step slot gate            what a crash may make of an image while the gate is closed so
--     OnlyFile name                     a step that may change one file
--     KeepsManifest slot                a step that may change the files of one slot but its manifest
--     KeepsGate slot                    a step that may change the files of one slot, but not the first byte of a manifest that has one
use Rattle.std.specs.Prelude.{◌≡◌, ◌≢◌, ◌⊎◌, ℕ, suc, ◌<◌, if◌then◌else◌, ◌==◌, List, [], ◌∷◌, ◌++◌, length}
use Rattle.std.specs.Prelude.{take, drop, Option, Some, None}
use Rattle.std.specs.FinMap as files_by_name
use Rattle.disk_folder.specs.Files.{FolderFiles, with_write}
use Rattle.disk_folder.specs.Crash.{Torn}
use Rattle.disk_folder.specs.declared.file_name.FileName.{FileName}
use Rattle.image_store.specs.Slots.{manifest_name, manifest_of}

abbrev pub with_closed : ℕ → Option ℕ → FolderFiles → FolderFiles
with_closed slot None files = with_write files (manifest_name slot) 0 (0 ∷ [])
with_closed slot (Some gate) files = if gate == 1 then with_write files (manifest_name slot) 0 (0 ∷ [])
    else files

abbrev pub closing_step : ℕ → Option ℕ → FolderFiles → FolderFiles → Type 0
closing_step slot None old new = Torn (manifest_name slot) 0 1 old new
closing_step slot (Some gate) old new = (new ≡ old) ⊎ ((gate ≡ 1) × Torn (manifest_name slot) 0 1 old new)

abbrev pub with_images : ℕ → ℕ → List (List ℕ) → FolderFiles → FolderFiles
with_images slot index [] files = files
with_images slot index (image ∷ images) files =
    with_images slot (suc index) images
    (files_by_name.insert files (record { slot = slot; index = index }) image)

unfoldable pub with_manifest : ℕ → List ℕ → FolderFiles → FolderFiles
with_manifest slot bytes files =
    files_by_name.insert files (manifest_name slot) (take 1 (manifest_of files slot) ++ drop 1 bytes)

pub record OnlyFile (name : FileName) (old new : FolderFiles) : Type 0 where
  pub others : (q : FileName) → q ≢ name → files_by_name.get new q ≡ files_by_name.get old q

pub record KeepsManifest (slot : ℕ) (old new : FolderFiles) : Type 0 where
  pub others : (q : FileName) → (q.slot ≢ slot) ⊎ (q.index ≡ 0)
      → files_by_name.get new q ≡ files_by_name.get old q

pub record KeepsGate (slot : ℕ) (old new : FolderFiles) : Type 0 where
  pub others : (q : FileName) → q.slot ≢ slot → files_by_name.get new q ≡ files_by_name.get old q
  pub gate : 0 < length (manifest_of old slot) → take 1 (manifest_of new slot) ≡ take 1 (manifest_of old slot)
