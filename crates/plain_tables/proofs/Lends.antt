-- What a borrow of one entry of a map leaves.
use Rattle.std.proofs.Common.{◌≡◌, Ordering, ap}
use Rattle.std.specs.Prelude.{Some}
use Rattle.std.specs.FinMap as map
use Rattle.plain_tables.specs.Tables.{changed_by, changed_at}

pub changed-found : {K X : Type 0} {R : K → K → Ordering} (m : map.FinMap R X) (k : K) (change : X → X) (v : X) → Some v ≡ map.get m k
    → map.insert m k (change v) ≡ changed_at m k change
changed-found m k change v is = ap (changed_by m k change) is
