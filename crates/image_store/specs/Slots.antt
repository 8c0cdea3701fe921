-- Which set of a folder counts: "The slots" in docs/STORE.md. A set lies in slot 0 or 1. File 0 of a slot is
-- the manifest of its set: a gate byte, seven bytes, the generation in eight bytes, the count of further
-- files in four, and their lengths. Numbers have their low byte first.
--     manifest_of files slot      the manifest's bytes, none where it is not there
--     gate_of manifest            its first byte, if it has one
--     has_open_gate manifest        it has at least 16 bytes, and the gate is open (1)
--     info_of slot manifest       the slot and the generation, if it is complete
--     later a b                   the one with the greater generation, the first of them where both have the
--                                 same
--     last files                  the set that counts: the complete one with the greatest generation, in the
--                                 lower slot on a tie
--     slot_to_write last          the slot that is not that one's, and 0 where no set counts
use Rattle.std.specs.Prelude.{ℕ, Bool, ◌&&◌, if◌then◌else◌, ◌==◌, nat_lt, nat_le, List, length, take, drop}
use Rattle.std.specs.Prelude.{slice_get, slice_index, Option, Some, None}
use Rattle.std.specs.Int.{w32, w64, from_le_bytes}
use Rattle.views.specs.Numbers.{Byte}
use Rattle.disk_folder.specs.Files.{FolderFiles, contents}
use Rattle.disk_folder.specs.declared.file_name.FileName.{FileName}
use Rattle.image_store.specs.declared.set_info.SetInfo.{SetInfo}

abbrev pub manifest_name : ℕ → FileName
manifest_name slot = record { slot = slot; index = 0 }

abbrev pub manifest_of : FolderFiles → ℕ → List Byte
manifest_of files slot = contents files (manifest_name slot)

abbrev pub gate_of : List Byte → Option ℕ
gate_of manifest = slice_get manifest 0

unfoldable pub has_open_gate : List Byte → Bool
has_open_gate manifest = nat_le 16 (length manifest) && (slice_index manifest 0 == 1)

unfoldable pub generation_of : List Byte → ℕ
generation_of manifest = from_le_bytes w64 (take 8 (drop 8 manifest))

unfoldable pub file_count : List Byte → ℕ
file_count manifest = from_le_bytes w32 (take 4 (drop 16 manifest))

unfoldable pub info_of : ℕ → List Byte → Option SetInfo
info_of slot manifest =
    if has_open_gate manifest then
    Some (record { slot = slot; generation = generation_of manifest })
    else None

unfoldable pub later : Option SetInfo → Option SetInfo → Option SetInfo
later None b = b
later (Some a) None = Some a
later (Some a) (Some b) = if nat_lt a.generation b.generation then Some b else Some a

unfoldable pub last : FolderFiles → Option SetInfo
last files = later (info_of 0 (manifest_of files 0)) (info_of 1 (manifest_of files 1))

unfoldable pub slot_to_write : Option SetInfo → ℕ
slot_to_write None = 0
slot_to_write (Some info) = if info.slot == 0 then 1 else 0
