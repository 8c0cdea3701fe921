-- The names of the files that a reader has read, as it keeps them.
use Rattle.std.specs.Prelude.{List}
use Rattle.std.specs.List.{list_any}
use Rattle.std.specs.FinMap as map
use Rattle.sys_abi.specs.Names.{name_cmp}
use Rattle.shared_items.specs.declared.shared.FileImage.{FileImage}
use Rattle.shared_items.specs.SharedTests.{file_has_name}
use Rattle.shared_items.specs.Keys.{HasKeys}

abbrev pub KnowsNames : {X : Type 0} → map.FinMap name_cmp X → List FileImage → Type 0
KnowsNames names files = HasKeys names (λ name. list_any (file_has_name name) files)
