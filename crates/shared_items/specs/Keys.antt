-- What a map that a reader keeps tells of what it has read: its keys are those that pass a test.
use Rattle.std.specs.Prelude.{◌≡◌, Bool, is_some}
use Rattle.std.specs.declared.cmp.Ordering.{Ordering}
use Rattle.std.specs.FinMap as map

abbrev pub HasKeys : {K X : Type 0} {R : K → K → Ordering} → map.FinMap R X → (K → Bool) → Type 0
HasKeys {K} m test = (key : K) → is_some (map.get m key) ≡ test key
