-- What a folder has in the course of a `put_set` that began on these files.
--     KeepsOthers slot files image        the files of other slots are as they were
--     IsBeforePut slot files image        and the slot has no complete set, or the same as before
--     IsPut slot files manifest images image      and the slot has this manifest and these images
--     IsInPut                             one or the other
use Rattle.std.specs.Prelude.{◌≡◌, ◌≢◌, ◌⊎◌, ℕ, List, length, map, Some, None}
use Rattle.std.specs.FinMap as files_by_name
use Rattle.disk_folder.specs.Files.{FolderFiles}
use Rattle.disk_folder.specs.declared.file_name.FileName.{FileName}
use Rattle.image_store.specs.Slots.{manifest_of, info_of}
use Rattle.image_store.specs.FoundSets.{file_at, files_from}

pub record KeepsOthers (slot : ℕ) (files image : FolderFiles) : Type 0 where
  pub others : (q : FileName) → q.slot ≢ slot → files_by_name.get image q ≡ files_by_name.get files q

abbrev pub NoneOrKept : FolderFiles → FolderFiles → ℕ → Type 0
NoneOrKept files image slot = (info_of slot (manifest_of image slot) ≡ None)
    ⊎ (info_of slot (manifest_of image slot) ≡ info_of slot (manifest_of files slot))

pub record IsBeforePut (slot : ℕ) (files image : FolderFiles) : Type 0 where
  pub others : KeepsOthers slot files image
  pub info : NoneOrKept files image slot

pub record IsPut (slot : ℕ) (files : FolderFiles) (text : List ℕ) (images : List (List ℕ))
    (image : FolderFiles) : Type 0 where
  pub others : KeepsOthers slot files image
  pub manifest : manifest_of image slot ≡ text
  pub there : files_from (file_at image slot) 1 (length images) ≡ map Some images

abbrev pub IsInPut : ℕ → FolderFiles → List ℕ → List (List ℕ) → FolderFiles → Type 0
IsInPut slot files text images image = IsBeforePut slot files image ⊎ IsPut slot files text images image
