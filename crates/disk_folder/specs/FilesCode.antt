-- The code of a folder's files, by which they may stand in a model's value.
use Rattle.std.specs.Coded.{Coded, coded_ℕ, coded_list}
use Rattle.std.specs.FinMap as map
use Rattle.disk_folder.specs.Files.{FolderFiles}
use Rattle.disk_folder.specs.contracts.file_name.FileName as name

abbrev pub coded_files : Coded FolderFiles
coded_files = map.code name.the_row.coded (coded_list coded_ℕ)
