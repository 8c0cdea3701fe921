-- What a run reads: files by their names.
use Rattle.std.specs.Prelude.{ℕ, List, Option}
use Rattle.std.specs.Ordering.{nat_cmp}
use Rattle.std.specs.Cmp.Lexicographic.{slice_cmp}
use Rattle.std.specs.FinMap.{FinMap}

-- from the bytes of each name to the bytes of its file
abbrev pub NamedFiles : Type 0
NamedFiles = FinMap (slice_cmp nat_cmp) (List ℕ)

-- what is seen of inputs at a moment
pub record SeenInputs : Type 0 where
  -- the files, where the inputs tell them
  pub files : Option NamedFiles
  -- how many reads have failed
  pub faults : ℕ
