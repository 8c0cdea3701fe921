-- Names as lists of bytes, in the order of their bytes.
--     name_cmp          byte by byte, a name before those that it begins
--     by_name es        entries under the bytes of their names
use Rattle.std.specs.Prelude.{ℕ, List, map, Vec}
use Rattle.std.specs.declared.cmp.Ordering.{Ordering}
use Rattle.std.specs.Ordering.{nat_cmp}
use Rattle.std.specs.Cmp.Lexicographic.{slice_cmp}

abbrev pub name_cmp : List ℕ → List ℕ → Ordering
name_cmp = slice_cmp nat_cmp

abbrev pub by_name : {X A : Type 0} → List (Vec ℕ A × X) → List (List ℕ × X)
by_name es = map (λ e. (e.0.items, e.1)) es
