-- A map that is filled on a walk over another one, where a way leads from the other's keys to its own.
--     IsFilled from other left whole part      the part has nothing that the whole hasn't, and as much as the
--                                              whole has at each key of the other map that isn't left
use Rattle.std.specs.Prelude.{◌≡◌, Bool, false, Option, Some}
use Rattle.std.specs.declared.cmp.Ordering.{Ordering}
use Rattle.std.specs.FinMap as map
use Rattle.std.specs.FinMap.{FinMap}

pub record IsFilled {K L X Y : Type 0} {R : K → K → Ordering} {S : L → L → Ordering} (from : L → Option K)
    (other : FinMap S Y) (left : L → Bool) (whole part : FinMap R X) : Type 0 where
  pub right : (k : K) (x : X) → map.get part k ≡ Some x → map.get whole k ≡ Some x
  pub passed : (l : L) (k : K) (y : Y) → map.get other l ≡ Some y → from l ≡ Some k → left l ≡ false
      → map.get part k ≡ map.get whole k
