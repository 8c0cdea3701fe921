-- What the next sync of a folder of the host has to make durable, and the cut that its next call makes.
--     files_owed owed          the files, none where it is all that the folder holds
--     owes_folder owed         the folder itself is synced too, since it has a new entry (`man 2 fsync`)
--     with_file name           these files and that one, which stands among them once
--     MayOwe name old new      the files of before are owed, or these with that one
--     cut_to name len          a cut that is put off: of this file to so many bytes
--     is_at_cut cut name at    the cut that is put off, if one is, is of this file, to this length
--     MadeOrKept old new       the cut that was put off was made, or is put off still
use Rattle.std.specs.Prelude.{◌≡◌, ◌⊎◌, ℕ, Bool, true, false, ◌&&◌, if◌then◌else◌, ◌==◌, List, [], ◌∷◌, ◌++◌, Option, Some, None, option_map}
use Rattle.std.specs.List.{list_any}
use Rattle.disk_folder.specs.declared.file_name.FileName.{FileName}
use Rattle.set_disk.specs.declared.host_folder.PutOff.{PutOff}
use Rattle.set_disk.specs.declared.owed.Owed.{Owed}
use Rattle.set_disk.specs.declared.owed.Owed.TheVariants.{All, Changes}

abbrev pub files_owed : Owed → Option (List FileName)
files_owed All = None
files_owed (Changes files has_new_entry) = Some files.items

abbrev pub owes_folder : Owed → Bool
owes_folder All = true
owes_folder (Changes files has_new_entry) = has_new_entry

abbrev pub is_name : FileName → FileName → Bool
is_name name q = (q.slot == name.slot) && (q.index == name.index)

abbrev pub with_file : FileName → List FileName → List FileName
with_file name files = if list_any (is_name name) files then files else files ++ name ∷ []

abbrev pub cut_to : FileName → ℕ → PutOff
cut_to name len = record { name = name; len = len }

abbrev pub MayOwe : FileName → Owed → Owed → Type 0
MayOwe name old new = (files_owed new ≡ files_owed old)
    ⊎ (files_owed new ≡ option_map (with_file name) (files_owed old))

abbrev pub is_at_cut : Option PutOff → FileName → ℕ → Bool
is_at_cut None name at = false
is_at_cut (Some cut) name at = is_name name cut.name && (cut.len == at)

abbrev pub MadeOrKept : Option PutOff → Option PutOff → Type 0
MadeOrKept old new = (new ≡ None) ⊎ (new ≡ old)
