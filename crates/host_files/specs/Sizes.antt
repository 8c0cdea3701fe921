-- How many bytes a file has.
use Rattle.std.specs.Prelude.{ℕ, length}
use Rattle.std.specs.Option.{option_map_or}
use Rattle.std.specs.FinMap as map
use Rattle.vfs_files.specs.FileTable.{Contents}

abbrev pub size_in : Contents → ℕ → ℕ
size_in files number = option_map_or length (map.get files number) 0
