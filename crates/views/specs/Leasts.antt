-- The least entry of a map that gives something, among those that are asked for, said of each entry.
--     least_of among gives es           a walk over entries in their order: none is asked for, none of those
--                                       gives
--                                       anything yet, or the first one that does, with what it gives
--     IsAmong among m                   some entry is asked for
--     IsLeast among gives m k z         the entry at k is asked for and gives z, and no lesser one gives
--                                       anything
--     FindsLeast among gives m found    what is found is that
use Rattle.std.specs.Prelude.{◌≡◌, Bool, false, cond, List, [], ◌∷◌, Option, Some, None, IsSome, IsTrue}
use Rattle.std.specs.declared.cmp.Ordering.{Ordering}
use Rattle.std.specs.Ordering.{is_le}
use Rattle.std.specs.FinMap as map
use Rattle.std.specs.FinMap.{FinMap}

abbrev pub this_first : {K Z : Type 0} → K → Option Z → Option (Option (K × Z)) → Option (Option (K × Z))
this_first k (Some z) later = Some (Some (k, z))
this_first k None None = Some None
this_first k None (Some found) = Some found

module _ {K X Z : Type 0} (among : X → Bool) (gives : X → Option Z) where
  abbrev pub least_of : List (K × X) → Option (Option (K × Z))
  least_of [] = None
  least_of (e ∷ es) = cond (among e.1) (this_first e.0 (gives e.1) (least_of es)) (least_of es)

pub record IsAmong {K X : Type 0} {R : K → K → Ordering} (among : X → Bool) (m : FinMap R X) : Type 0 where
  pub key : K
  pub value : X
  pub there : map.get m key ≡ Some value
  pub asked : IsTrue (among value)

pub record IsLeast {K X Z : Type 0} {R : K → K → Ordering} (among : X → Bool) (gives : X → Option Z)
    (m : FinMap R X) (k : K) (z : Z) : Type 0 where
  pub value : X
  pub there : map.get m k ≡ Some value
  pub asked : IsTrue (among value)
  pub given : gives value ≡ Some z
  pub least : (q : K) (x : X) → map.get m q ≡ Some x → IsTrue (among x) → IsSome (gives x)
      → IsTrue (is_le (R k q))

module _ {K X Z : Type 0} {R : K → K → Ordering}
    (among : X → Bool) (gives : X → Option Z) (m : FinMap R X) where
  abbrev pub FindsLeast : Option (Option (K × Z)) → Type 0
  FindsLeast None = (k : K) (x : X) → map.get m k ≡ Some x → among x ≡ false
  FindsLeast (Some None) =
      IsAmong among m × ((k : K) (x : X) → map.get m k ≡ Some x → IsTrue (among x) → gives x ≡ None)
  FindsLeast (Some (Some e)) = IsLeast among gives m e.0 e.1
