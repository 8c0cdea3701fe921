-- Finite maps made of others, entry by entry.
--     map_values f m      f of each value, at the same keys
--     retain p m          the entries that pass the test, which is given the key and the value
--     option_filter p o   the value if it passes, as Rust's `Option::filter`
use Rattle.std.specs.Prelude.{Bool, map, filter, cond, Option, Some, None}
use Rattle.std.specs.declared.cmp.Ordering.{Ordering}
use Rattle.std.specs.FinMap.{FinMap, entries, from_sorted}

abbrev pub option_filter : {X : Type 0} → (X → Bool) → Option X → Option X
option_filter p None = None
option_filter p (Some x) = cond (p x) (Some x) None

module _ {K : Type 0} {R : K → K → Ordering} where
  unfoldable pub map_values : {X Y : Type 0} → (X → Y) → FinMap R X → FinMap R Y
  map_values f m = from_sorted (map (λ e. (e.0, f e.1)) (entries m))

  unfoldable pub retain : {X : Type 0} → (K → X → Bool) → FinMap R X → FinMap R X
  retain p m = from_sorted (filter (λ e. p e.0 e.1) (entries m))
