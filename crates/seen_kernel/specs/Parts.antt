-- A finite map that has a part of another's entries.
--     IsPart all part      each of its entries is one of the other's
use Rattle.std.specs.Prelude.{◌≡◌, Some}
use Rattle.std.specs.declared.cmp.Ordering.{Ordering}
use Rattle.std.specs.FinMap as map
use Rattle.std.specs.FinMap.{FinMap}

abbrev pub IsPart : {K X : Type 0} {R : K → K → Ordering} → FinMap R X → FinMap R X → Type 0
IsPart {K} {X} all part = (k : K) (v : X) → map.get part k ≡ Some v → map.get all k ≡ Some v
