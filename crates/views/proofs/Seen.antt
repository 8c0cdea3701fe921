-- Maps under different keys that stand for each other: what a change at one pair of keys keeps, what more or
-- fewer pairs keep, and what can be told.
--     agree_by, agree_same, agree_found, agree_real, agree_none       of two optional values
--     SeenBy-empty                            two empty maps
--     changed, SeenBy-insert, SeenBy-remove   a change at one pair of keys
--     re_paired, grown, shrunk                other pairs: more at which neither map has anything, or fewer
--                                             by such
--     real_of, virt_of                        what stands for a value that is there
--     any_seen                                a test over all values
use Rattle.std.proofs.Common.{◌≡◌, ◌≢◌, ◌⊎◌, Bool, true, false, Option, Some, None, inl, inr, refl, sym, ap}
use Rattle.std.proofs.Common.{◌∙◌, subst}
use Rattle.std.specs.List.{list_any}
use Rattle.std.proofs.lemmas.Option.{same_Some, none-some}
use Rattle.std.proofs.lemmas.Bool.{false_from_ne_true}
use Rattle.std.specs.declared.cmp.Ordering.{Ordering}
use Rattle.std.specs.Cmp.{IsTotalOrder}
use Rattle.std.specs.FinMap as map
use Rattle.std.specs.FinMap.{FinMap, IsAntisymmetric}
use Rattle.views.proofs.MapLaws.{true_false, same_or_other, get_insert_same, get_insert_other}
use Rattle.views.proofs.MapLaws.{get_remove_same, get_remove_other}
use Rattle.views.proofs.MapValues.{none_among-values, some_among-values}
use Rattle.views.specs.Seen.{Agree, LeadBack, SeenBy}

pub agree_by : {X Y : Type 0} (Is : X → Y → Type 0) (o o' : Option X) (q q' : Option Y) → o' ≡ o → q' ≡ q
    → Agree Is o q → Agree Is o' q'
agree_by Is o o' q q' e f h = subst (λ x. Agree Is x q') (sym e) (subst (λ y. Agree Is o y) (sym f) h)

pub agree_same : {X : Type 0} (o q : Option X) → Agree (λ x y. x ≡ y) o q → o ≡ q
agree_same None None h = refl
agree_same None (Some y) h = absurd h
agree_same (Some x) None h = absurd h
agree_same (Some x) (Some y) h = ap Some h

-- what stands for a value that is there
pub agree_found : {X Y : Type 0} (Is : X → Y → Type 0) (o : Option X) (q : Option Y) (x : X) → Agree Is o q
    → o ≡ Some x → (y : Y) × ((q ≡ Some y) × Is x y)
agree_found Is None q x h e = absurd (none-some x e)
agree_found Is (Some z) None x h e = absurd h
agree_found Is (Some z) (Some y) x h e = (y, (refl, subst (λ w. Is w y) (same_Some z x e) h))

pub agree_real : {X Y : Type 0} (Is : X → Y → Type 0) (o : Option X) (q : Option Y) (y : Y) → Agree Is o q
    → q ≡ Some y → (x : X) × ((o ≡ Some x) × Is x y)
agree_real Is o None y h e = absurd (none-some y e)
agree_real Is None (Some z) y h e = absurd h
agree_real Is (Some x) (Some z) y h e = (x, (refl, subst (λ w. Is x w) (same_Some z y e) h))

pub agree_none : {X Y : Type 0} (Is : X → Y → Type 0) (o : Option X) (q : Option Y) → Agree Is o q → q ≡ None
    → o ≡ None
agree_none Is None q h e = refl
agree_none Is (Some x) None h e = absurd h
agree_none Is (Some x) (Some y) h e = absurd (none-some y (sym e))

pub SeenBy-empty : {K L X Y : Type 0} (R : K → K → Ordering) (S : L → L → Ordering)
    (to : K → Option L) (from : L → Option K) (Is : K → L → X → Y → Type 0)
    → SeenBy {R = R} {S = S} to from Is map.empty map.empty
SeenBy-empty {K} {L} {X} {Y} R S to from Is = record {
  at = λ k l at. agree_by (Is k l) None _ None _ (map.get-empty {X = X} R k) (map.get-empty {X = Y} S l) tt;
  virt_alone = λ k none. map.get-empty {X = X} R k;
  real_alone = λ l none. map.get-empty {X = Y} S l;
}

module _ {K L X Y : Type 0} {R : K → K → Ordering} {S : L → L → Ordering}
    (ro : IsTotalOrder R) (rs : IsAntisymmetric R) (so : IsTotalOrder S) (ss : IsAntisymmetric S)
    (to : K → Option L) (from : L → Option K) (lead : LeadBack to from) (Is : K → L → X → Y → Type 0) where
  module _ (a : FinMap R X) (b : FinMap S Y) (seen : SeenBy to from Is a b)
      (k : K) (l : L) (leads : to k ≡ Some l) where
    -- keys apart lead to keys apart
    other_real : (q : K) (m : L) → to q ≡ Some m → q ≢ k → m ≢ l
    other_real q m at differ same =
        differ (same_Some q k (sym (lead.back q m at) ∙ ap from same ∙ lead.back k l leads))

    pub changed : (a' : FinMap R X) (b' : FinMap S Y) → Agree (Is k l) (map.get a' k) (map.get b' l)
        → ((q : K) → q ≢ k → map.get a' q ≡ map.get a q) → ((m : L) → m ≢ l → map.get b' m ≡ map.get b m)
        → SeenBy to from Is a' b'
    changed a' b' here beside_a beside_b = record {
      at = λ q m at. elim (same_or_other ro rs q k) [
        | inl same ↦
            let real_same : m ≡ l = same_Some m l (sym at ∙ ap to same ∙ leads) in
            subst (λ x. Agree (Is x m) (map.get a' x) (map.get b' m)) (sym same)
            (subst (λ y. Agree (Is k y) (map.get a' k) (map.get b' y)) (sym real_same) here)
        | inr differ ↦
            agree_by (Is q m) (map.get a q) (map.get a' q) (map.get b m) (map.get b' m)
            (beside_a q differ) (beside_b m (other_real q m at differ)) (seen.at q m at)
      ];
      virt_alone = λ q none. beside_a q (λ same. none-some l (sym none ∙ ap to same ∙ leads))
          ∙ seen.virt_alone q none;
      real_alone = λ m none. beside_b m (λ same. none-some k (sym none ∙ ap from same ∙ lead.back k l leads))
          ∙ seen.real_alone m none;
    }

    pub SeenBy-insert : (x : X) (y : Y) → Is k l x y → SeenBy to from Is (map.insert a k x) (map.insert b l y)
    SeenBy-insert x y is =
        changed (map.insert a k x) (map.insert b l y)
        (agree_by (Is k l) (Some x) _ (Some y) _
        (get_insert_same ro rs a k x) (get_insert_same so ss b l y) is)
        (λ q differ. get_insert_other ro rs a k x q differ)
        (λ m differ. get_insert_other so ss b l y m differ)

    pub SeenBy-remove : SeenBy to from Is (map.remove a k) (map.remove b l)
    SeenBy-remove =
        changed (map.remove a k) (map.remove b l)
        (agree_by (Is k l) None _ None _ (get_remove_same ro rs a k) (get_remove_same so ss b l) tt)
        (λ q differ. get_remove_other ro rs a k q differ) (λ m differ. get_remove_other so ss b l m differ)

  -- other pairs, where what is new leads to nothing, and what leads nowhere has nothing
  pub re_paired : (to' : K → Option L) (from' : L → Option K) (Is' : K → L → X → Y → Type 0)
      (a : FinMap R X) (b : FinMap S Y)
      → SeenBy to from Is a b
      → ((k : K) (l : L) → to' k ≡ Some l → (to k ≡ Some l) ⊎ ((map.get a k ≡ None) × (map.get b l ≡ None)))
      → ((k : K) (l : L) (x : X) (y : Y) → to k ≡ Some l → map.get a k ≡ Some x → map.get b l ≡ Some y
      → Is k l x y → Is' k l x y)
      → ((k : K) → to' k ≡ None → map.get a k ≡ None) → ((l : L) → from' l ≡ None → map.get b l ≡ None)
      → SeenBy to' from' Is' a b
  re_paired to' from' Is' a b seen new keeps none none' = record {
    at = λ k l at. elim (new k l at) [
      | inl before ↦ carried k l before (map.get a k) (map.get b l) refl refl (seen.at k l before)
      | inr nothing ↦ agree_by (Is' k l) None _ None _ nothing.0 nothing.1 tt
    ];
    virt_alone = none;
    real_alone = none';
  }
    where
      carried : (k : K) (l : L) → to k ≡ Some l → (o : Option X) (q : Option Y) → map.get a k ≡ o
          → map.get b l ≡ q → Agree (Is k l) o q → Agree (Is' k l) o q
      carried k l at None None e f h = tt
      carried k l at None (Some y) e f h = h
      carried k l at (Some x) None e f h = h
      carried k l at (Some x) (Some y) e f h = keeps k l x y at e f h

  -- more pairs, at which neither map has anything
  pub grown : (to' : K → Option L) (from' : L → Option K) (Is' : K → L → X → Y → Type 0)
      (a : FinMap R X) (b : FinMap S Y)
      → SeenBy to from Is a b
      → ((k : K) (l : L) → to' k ≡ Some l → (to k ≡ Some l) ⊎ ((map.get a k ≡ None) × (map.get b l ≡ None)))
      → ((k : K) (l : L) (x : X) (y : Y) → to k ≡ Some l → map.get a k ≡ Some x → map.get b l ≡ Some y
      → Is k l x y → Is' k l x y)
      → ((k : K) → to' k ≡ None → to k ≡ None) → ((l : L) → from' l ≡ None → from l ≡ None)
      → SeenBy to' from' Is' a b
  grown to' from' Is' a b seen new keeps none none' =
      re_paired to' from' Is' a b seen new keeps
      (λ k is. seen.virt_alone k (none k is)) (λ l is. seen.real_alone l (none' l is))

  -- fewer pairs, where neither map has anything at what went
  pub shrunk : (to' : K → Option L) (from' : L → Option K) (Is' : K → L → X → Y → Type 0)
      (a : FinMap R X) (b : FinMap S Y)
      → SeenBy to from Is a b
      → ((k : K) (l : L) → to' k ≡ Some l → to k ≡ Some l)
      → ((k : K) (l : L) (x : X) (y : Y) → to k ≡ Some l → map.get a k ≡ Some x → map.get b l ≡ Some y
      → Is k l x y → Is' k l x y)
      → ((k : K) → to' k ≡ None → (to k ≡ None) ⊎ (map.get a k ≡ None))
      → ((l : L) → from' l ≡ None → (from l ≡ None) ⊎ (map.get b l ≡ None)) → SeenBy to' from' Is' a b
  shrunk to' from' Is' a b seen before keeps gone gone' =
      re_paired to' from' Is' a b seen (λ k l at. inl (before k l at)) keeps
      (λ k is. elim (gone k is) [ inl none ↦ seen.virt_alone k none | inr nothing ↦ nothing ])
      (λ l is. elim (gone' l is) [ inl none ↦ seen.real_alone l none | inr nothing ↦ nothing ])

-- a test that agrees on values that stand for each other
same_bool : (b c : Bool) → (b ≡ false → c ≡ false) → (c ≡ false → b ≡ false) → b ≡ c
same_bool true true h i = refl
same_bool false false h i = refl
same_bool true false h i = i refl
same_bool false true h i = sym (h refl)

module _ {K L X Y : Type 0} {R : K → K → Ordering} {S : L → L → Ordering}
    (ro : IsTotalOrder R) (rs : IsAntisymmetric R) (so : IsTotalOrder S) (ss : IsAntisymmetric S)
    (to : K → Option L) (from : L → Option K) (lead : LeadBack to from) (Is : K → L → X → Y → Type 0)
    (a : FinMap R X) (b : FinMap S Y) (seen : SeenBy to from Is a b) where
  -- a value that is there is seen
  pub real_of : (k : K) (x : X) → map.get a k ≡ Some x
      → (l : L) × ((to k ≡ Some l) × ((y : Y) × ((map.get b l ≡ Some y) × Is k l x y)))
  real_of k x is = go (to k) refl
    where
      go : (o : Option L) → to k ≡ o
          → (l : L) × ((to k ≡ Some l) × ((y : Y) × ((map.get b l ≡ Some y) × Is k l x y)))
      go None e = absurd (none-some x (sym (seen.virt_alone k e) ∙ is))
      go (Some l) e = (l, (e, agree_found (Is k l) (map.get a k) (map.get b l) x (seen.at k l e) is))

  pub virt_of : (l : L) (y : Y) → map.get b l ≡ Some y
      → (k : K) × ((to k ≡ Some l) × ((x : X) × ((map.get a k ≡ Some x) × Is k l x y)))
  virt_of l y is = go (from l) refl
    where
      go : (o : Option K) → from l ≡ o
          → (k : K) × ((to k ≡ Some l) × ((x : X) × ((map.get a k ≡ Some x) × Is k l x y)))
      go None e = absurd (none-some y (sym (seen.real_alone l e) ∙ is))
      go (Some k) e =
          let leads = lead.there k l e in
          (k, (leads, agree_real (Is k l) (map.get a k) (map.get b l) y (seen.at k l leads) is))

  module _ (p : X → Bool) (q : Y → Bool)
      (alike : (k : K) (l : L) (x : X) (y : Y) → Is k l x y → p x ≡ q y) where
    virt_none : list_any q (map.values b) ≡ false → list_any p (map.values a) ≡ false
    virt_none none = none_among-values ro rs p a (λ k x is.
        let r = real_of k x is in
        false_from_ne_true (p x) (λ passes.
        let there = sym (alike k r.0 x r.1.1.0 r.1.1.1.1) ∙ passes in
        true_false (sym (some_among-values so ss q b r.0 r.1.1.0 r.1.1.1.0 there) ∙ none)))

    real_none : list_any p (map.values a) ≡ false → list_any q (map.values b) ≡ false
    real_none none = none_among-values so ss q b (λ l y is.
        let r = virt_of l y is in
        false_from_ne_true (q y) (λ passes.
        let there = alike r.0 l r.1.1.0 y r.1.1.1.1 ∙ passes in
        true_false (sym (some_among-values ro rs p a r.0 r.1.1.0 r.1.1.1.0 there) ∙ none)))

    pub any_seen : list_any p (map.values a) ≡ list_any q (map.values b)
    any_seen = same_bool _ _ real_none virt_none
