-- Maps that were copied whole, and with a function of each entry.
use Rattle.std.proofs.Common.{◌≡◌, Ordering, refl, ◌∙◌}
use Rattle.std.specs.Prelude.{Option, Some, None, option_map, option_and_then}
use Rattle.std.specs.Cmp.{IsTotalOrder}
use Rattle.std.specs.FinMap as map
use Rattle.std.specs.FinMap.{FinMap, IsAntisymmetric}

pub always : {X Y : Type 0} (f : X → Y) (found : Option X)
    → option_and_then (λ x. Some (f x)) found ≡ option_map f found
always f None = refl
always f (Some x) = refl

itself : {X : Type 0} (found : Option X) → option_and_then Some found ≡ found
itself None = refl
itself (Some x) = refl

pub whole : {K X : Type 0} {R : K → K → Ordering} → IsTotalOrder R → IsAntisymmetric R → (m t : FinMap R X)
    → ((q : K) → map.get t q ≡ option_and_then Some (map.get m q)) → t ≡ m
whole o exact m t is = map.same_map o exact t m (λ q. is q ∙ itself (map.get m q))
