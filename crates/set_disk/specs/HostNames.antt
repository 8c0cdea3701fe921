-- The name of a folder's file on the host.
--     host_name name           its name in the folder: s, the slot, _, the index, .img
--     host_path folder name    its path, where the folder stands at this one
--     IsHostName text          the text is the name of a file of a folder
use Rattle.std.specs.Prelude.{◌≡◌, ℕ, ◌<◌, ◌^◌, List, ◌++◌, codes}
use Rattle.std.specs.Fmt.{decimal}
use Rattle.disk_folder.specs.declared.file_name.FileName.{FileName}

abbrev pub host_name : FileName → List ℕ
host_name name = codes "s" ++ (decimal name.slot ++ (codes "_" ++ (decimal name.index ++ codes ".img")))

abbrev pub host_path : List ℕ → FileName → List ℕ
host_path folder name = folder ++ (codes "/" ++ host_name name)

-- both numbers have 32 bits
pub record IsSmall (name : FileName) : Type 0 where
  pub slot : name.slot < 2 ^ 32
  pub index : name.index < 2 ^ 32

pub record IsHostName (text : List ℕ) : Type 0 where
  pub name : FileName
  pub small : IsSmall name
  pub is : text ≡ host_name name
