-- What a borrow of one entry of a map leaves.
use Rattle.std.proofs.Common.{◌≡◌, Ordering, ap}
use Rattle.std.specs.Prelude.{Some}
use Rattle.std.specs.Option.{option_map_or}
use Rattle.std.specs.FinMap as map
use Rattle.std.specs.FinMap.{FinMap}
use Rattle.virt_ids.specs.Changes.{at_key}

pub changed-found : {K X : Type 0} {R : K → K → Ordering} (m : FinMap R X) (k : K) (f : X → X) (v : X) → Some v ≡ map.get m k → map.insert m k (f v) ≡ at_key m k f
changed-found m k f v is = ap (λ found. option_map_or (λ x. map.insert m k (f x)) found m) is
