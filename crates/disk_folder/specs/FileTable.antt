-- The table of a folder's files in memory.
--     LendsFile s name r      the table behind s has under the name the last bytes written through r, and is
--                             unchanged if r is `None`
use Rattle.std.specs.Prelude.{◌≡◌, ℕ, List, Option, OnSome}
use Rattle.std.specs.Borrow.{Fml, MutBor, LendsSo}
use Rattle.std.specs.FinMap as map
use Rattle.disk_folder.specs.Files.{FolderFiles}
use Rattle.disk_folder.specs.declared.file_name.FileName.{FileName}
use Rattle.disk_folder.specs.contracts.files.Files as table
use Rattle.disk_folder.specs.contracts.file_bytes.FileBytes as bytes

abbrev pub LendsFile : MutBor FolderFiles → FileName → Option (MutBor (List ℕ)) → Fml
LendsFile s name r = LendsSo table.the_row bytes.the_row s r (λ n w. OnSome r (n ≡ map.insert s.now name w))
    (λ n. n ≡ s.now)
