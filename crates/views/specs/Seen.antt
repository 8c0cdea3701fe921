-- Two maps under different keys that stand for each other, where a way leads from the keys of the one to
-- those of the other and one leads back.
-- A key of the first side is virtual and one of the second real, as the numbers of processes are.
--     Agree Is o q             neither is there, or both are and Is holds of them
--     LeadBack to from         each of two ways leads back to where the other came from
--     SeenBy to from Is a b    at keys that lead to each other the maps agree, and neither has anything at a
--                              key that leads nowhere
use Rattle.std.specs.Prelude.{◌≡◌, Option, Some, None}
use Rattle.std.specs.declared.cmp.Ordering.{Ordering}
use Rattle.std.specs.FinMap as map
use Rattle.std.specs.FinMap.{FinMap}

abbrev pub Agree : {X Y : Type 0} → (X → Y → Type 0) → Option X → Option Y → Type 0
Agree Is None None = Unit {0}
Agree Is None (Some y) = ⊥
Agree Is (Some x) None = ⊥
Agree Is (Some x) (Some y) = Is x y

pub record LeadBack {K L : Type 0} (to : K → Option L) (from : L → Option K) : Type 0 where
  pub back : (k : K) (l : L) → to k ≡ Some l → from l ≡ Some k
  pub there : (k : K) (l : L) → from l ≡ Some k → to k ≡ Some l

pub record SeenBy {K L X Y : Type 0} {R : K → K → Ordering} {S : L → L → Ordering}
    (to : K → Option L) (from : L → Option K) (Is : K → L → X → Y → Type 0)
    (a : FinMap R X) (b : FinMap S Y) : Type 0 where
  pub at : (k : K) (l : L) → to k ≡ Some l → Agree (Is k l) (map.get a k) (map.get b l)
  pub virt_alone : (k : K) → to k ≡ None → map.get a k ≡ None
  pub real_alone : (l : L) → from l ≡ None → map.get b l ≡ None
