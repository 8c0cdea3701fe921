-- The names that a reader keeps go on to be those of the files that it has read
use Rattle.std.proofs.Common.{◌≡◌, ◌||◌, ℕ, List, [], ◌∷◌, ◌++◌, ap, ◌∙◌}
use Rattle.std.specs.Prelude.{is_some}
use Rattle.std.specs.Ordering.{eq_by_cmp}
use Rattle.std.specs.Str.{bytes_eq}
use Rattle.std.specs.Cmp.Lexicographic.{nat_list_eq_equiv}
use Rattle.std.proofs.lemmas.Map.Text.{is_eq-slice_cmp}
use Rattle.std.specs.FinMap as map
use Rattle.std.specs.FinMap.{get-empty}
use Rattle.sys_abi.specs.Names.{name_cmp}
use Rattle.sys_abi.proofs.OrderLaws.{name_total}
use Rattle.shared_items.specs.declared.shared.FileImage.{FileImage}
use Rattle.shared_items.specs.SharedTests.{file_has_name}
use Rattle.shared_items.specs.KnownNames.{KnowsNames}
use Rattle.shared_items.proofs.Keys.{inserted, pushed}

same_name : (a b : List ℕ) → eq_by_cmp name_cmp a b ≡ bytes_eq b a
same_name a b = is_eq-slice_cmp a b ∙ nat_list_eq_equiv.symm a b

pub no_name : (m : map.FinMap name_cmp (Unit {0})) → m ≡ map.empty → KnowsNames m []
no_name m is name = ap (λ x. is_some (map.get x name)) is ∙ ap is_some (get-empty name_cmp name)

pub name_pushed : (m new : map.FinMap name_cmp (Unit {0})) (front : List FileImage) (file : FileImage) (name : List ℕ) → name ≡ file.name → new ≡ map.insert m name tt
    → KnowsNames m front → KnowsNames new (front ++ file ∷ [])
name_pushed m new front file name is same before =
    pushed file_has_name m new front file (λ q. inserted name_total m new name tt same q ∙ ap (λ b. is_some (map.get m q) || b) (same_name q name ∙ ap (λ bytes. bytes_eq bytes q) is)) before
