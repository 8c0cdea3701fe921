-- A change of one entry of a finite map.
--     at_key m k f      f of the value at the key, if there is one
use Rattle.std.specs.Option.{option_map_or}
use Rattle.std.specs.declared.cmp.Ordering.{Ordering}
use Rattle.std.specs.FinMap as map

abbrev pub at_key : {K X : Type 0} {R : K → K → Ordering} → map.FinMap R X → K → (X → X) → map.FinMap R X
at_key m k f = option_map_or (λ value. map.insert m k (f value)) (map.get m k) m
