-- A walk over a map in the order of its keys finds the least entry that gives something. Two maps that stand
-- for
-- each other, where the keys of what is asked for keep their order, have the same least one.
--     finds-least_of      the walk finds it
--     SameLeast           the same finding, where a key leads to the other side's
--     same_least          what is found on either side
use Rattle.std.proofs.Common.{◌≡◌, Ordering, Less, Equal, Greater, Bool, true, false, cond, T, List, [], ◌∷◌}
use Rattle.std.proofs.Common.{refl, sym, ap, subst, ◌∙◌}
use Rattle.std.specs.Prelude.{Option, Some, None, is_some, IsTrue}
use Rattle.std.specs.Ordering.{is_eq, is_le, is_lt, ordering_reverse}
use Rattle.std.specs.Cmp.{IsTotalOrder}
use Rattle.std.specs.FinMap as map
use Rattle.std.specs.FinMap.{FinMap, IsAntisymmetric, is_sorted}
use Rattle.std.specs.FinMap.Entries.{below_all}
use Rattle.std.proofs.lemmas.Option.{same_Some, none-some}
use Rattle.views.specs.Seen.{LeadBack, SeenBy}
use Rattle.views.specs.Leasts.{this_first, least_of, IsAmong, IsLeast, FindsLeast}
use Rattle.views.proofs.MapLaws.{true_false, key_tied}
use Rattle.views.proofs.MapValues.{EachEntry, each_entry, at_entry}
use Rattle.views.proofs.Passes.{first, second, less}
use Rattle.views.proofs.Seen.{real_of, virt_of}

le_where_eq : (r : Ordering) → is_eq r ≡ true → is_le r ≡ true
le_where_eq Less is = refl
le_where_eq Equal is = refl
le_where_eq Greater is = true_false (sym is)

module _ {K X Z : Type 0} {R : K → K → Ordering} (o : IsTotalOrder R) (exact : IsAntisymmetric R)
    (among : X → Bool) (gives : X → Option Z) (m : FinMap R X) where
  abbrev GivesNothing : K → X → Type 0
  GivesNothing k x = IsTrue (among x) → gives x ≡ None

  abbrev NoneBefore : K → K → X → Type 0
  NoneBefore k q x = IsTrue (among x) → is_some (gives x) ≡ true → is_le (R k q) ≡ true

  record IsFirst (es : List (K × X)) (k : K) (z : Z) : Type 0 where
    value : X
    there : map.get m k ≡ Some value
    asked : IsTrue (among value)
    given : gives value ≡ Some z
    before : EachEntry (NoneBefore k) es

  abbrev FindsIn : List (K × X) → Option (Option (K × Z)) → Type 0
  FindsIn es None = EachEntry (λ k x. among x ≡ false) es
  FindsIn es (Some None) = IsAmong among m × EachEntry GivesNothing es
  FindsIn es (Some (Some e)) = IsFirst es e.0 e.1

  none_give : (es : List (K × X)) → EachEntry (λ k x. among x ≡ false) es → EachEntry GivesNothing es
  none_give [] each = tt
  none_give (e ∷ es) each = ((λ asked. true_false (sym asked ∙ each.0)), none_give es each.1)

  all_above : (k : K) (es : List (K × X)) → T (below_all R k es) → EachEntry (NoneBefore k) es
  all_above k [] below = tt
  all_above k (e ∷ es) below =
      ((λ _ _. ap is_le (less _ (first _ _ below))), all_above k es (second _ _ below))

  with_before : (k : K) (z : Z) (e : K × X) (es : List (K × X)) → NoneBefore k e.0 e.1 → IsFirst es k z
      → IsFirst (e ∷ es) k z
  with_before k z e es this rest =
      record {
        value = rest.value;
        there = rest.there;
        asked = rest.asked;
        given = rest.given;
        before = (this, rest.before);
      }

  other_first : (e : K × X) (es : List (K × X)) (found : Option (Option (K × Z))) → among e.1 ≡ false
      → FindsIn es found → FindsIn (e ∷ es) found
  other_first e es None other rest = (other, rest)
  other_first e es (Some None) other rest = (rest.0, ((λ asked. true_false (sym asked ∙ other)), rest.1))
  other_first e es (Some (Some f)) other rest =
      with_before f.0 f.1 e es (λ asked. true_false (sym asked ∙ other)) rest

  nothing_first : (e : K × X) (es : List (K × X)) (found : Option (Option (K × Z))) → map.get m e.0 ≡ Some e.1
      → IsTrue (among e.1) → gives e.1 ≡ None → FindsIn es found
      → FindsIn (e ∷ es) (this_first e.0 None found)
  nothing_first e es None there asked none rest =
      (record { key = e.0; value = e.1; there = there; asked = asked }, ((λ _. none), none_give es rest))
  nothing_first e es (Some None) there asked none rest = (rest.0, ((λ _. none), rest.1))
  nothing_first e es (Some (Some f)) there asked none rest =
      with_before f.0 f.1 e es (λ _ some. true_false (sym some ∙ ap is_some none)) rest

  asked_first : (e : K × X) (es : List (K × X)) (found : Option (Option (K × Z))) (given : Option Z)
      → T (below_all R e.0 es) → map.get m e.0 ≡ Some e.1 → IsTrue (among e.1) → gives e.1 ≡ given
      → FindsIn es found → FindsIn (e ∷ es) (this_first e.0 given found)
  asked_first e es found None below there asked none rest = nothing_first e es found there asked none rest
  asked_first e es found (Some z) below there asked given rest = record {
    value = e.1;
    there = there;
    asked = asked;
    given = given;
    before = ((λ _ _. le_where_eq (R e.0 e.0) (key_tied o exact e.0)), all_above e.0 es below);
  }

  one_first : (e : K × X) (es : List (K × X)) (found : Option (Option (K × Z))) (asked : Bool)
      → T (below_all R e.0 es) → map.get m e.0 ≡ Some e.1 → among e.1 ≡ asked
      → FindsIn es found → FindsIn (e ∷ es) (cond asked (this_first e.0 (gives e.1) found) found)
  one_first e es found true below there is rest = asked_first e es found (gives e.1) below there is refl rest
  one_first e es found false below there is rest = other_first e es found is rest

  finds_in : (es : List (K × X)) → T (is_sorted R es) → EachEntry (λ k x. map.get m k ≡ Some x) es
      → FindsIn es (least_of among gives es)
  finds_in [] sorted there = tt
  finds_in (e ∷ es) sorted there =
      one_first e es (least_of among gives es) (among e.1) (first _ _ sorted) there.0 refl
      (finds_in es (second _ _ sorted) there.1)

  finds_all : (found : Option (Option (K × Z))) → FindsIn (map.entries m) found
      → FindsLeast among gives m found
  finds_all None told = λ k x is. at_entry o exact (λ k x. among x ≡ false) m k x told is
  finds_all (Some None) told = (told.0, λ k x is. at_entry o exact GivesNothing m k x told.1 is)
  finds_all (Some (Some e)) told = record {
    value = told.value;
    there = told.there;
    asked = told.asked;
    given = told.given;
    least = λ q x is. at_entry o exact (NoneBefore e.0) m q x told.before is;
  }

  pub finds-least_of : FindsLeast among gives m (least_of among gives (map.entries m))
  finds-least_of =
      finds_all (least_of among gives (map.entries m))
      (finds_in (map.entries m) (map.entries_sorted m)
      (each_entry o exact (λ k x. map.get m k ≡ Some x) m (λ k x is. is)))

abbrev pub SameLeast : {K L Z : Type 0} → (K → Option L) → Option (Option (K × Z)) → Option (Option (L × Z))
    → Type 0
SameLeast to None None = Unit {0}
SameLeast to (Some None) (Some None) = Unit {0}
SameLeast to (Some (Some e)) (Some (Some f)) = (to e.0 ≡ Some f.0) × (e.1 ≡ f.1)
SameLeast to _ _ = ⊥

-- what is less is not above
not_both : (r s : Ordering) → r ≡ ordering_reverse s → r ≡ Less → is_le s ≡ true → ⊥
not_both r Less turned is told = subst (λ x. T (is_le x)) (sym is ∙ turned) tt
not_both r Equal turned is told = subst (λ x. T (is_lt x)) (sym is ∙ turned) tt
not_both r Greater turned is told = true_false (sym told)

-- where each has a lesser one than the other, they are the same
by_order : {P : Type 0} (r : Ordering) → is_le r ≡ true → (r ≡ Less → P) → (r ≡ Equal → P) → P
by_order Less told less same = less refl
by_order Equal told less same = same refl
by_order Greater told less same = true_false (sym told)

module _ {K L X Y Z : Type 0} {R : K → K → Ordering} {S : L → L → Ordering}
    (ro : IsTotalOrder R) (rs : IsAntisymmetric R) (so : IsTotalOrder S) (ss : IsAntisymmetric S)
    (to : K → Option L) (from : L → Option K) (lead : LeadBack to from) (Is : K → L → X → Y → Type 0)
    (a : FinMap R X) (b : FinMap S Y) (seen : SeenBy to from Is a b)
    (among : X → Bool) (gives : X → Option Z) (among' : Y → Bool) (gives' : Y → Option Z)
    (same_among : (k : K) (l : L) (x : X) (y : Y) → Is k l x y → among x ≡ among' y)
    (same_gives : (k : K) (l : L) (x : X) (y : Y) → Is k l x y → gives x ≡ gives' y)
    (order : (k q : K) (l m : L) (x y : X) → map.get a k ≡ Some x → map.get a q ≡ Some y
    → IsTrue (among x) → IsTrue (among y) → to k ≡ Some l → to q ≡ Some m → R k q ≡ Less
    → S l m ≡ Less) where
  asked_real : (k : K) (x : X) → map.get a k ≡ Some x → IsTrue (among x)
      → (l : L) × ((to k ≡ Some l)
      × ((y : Y) × ((map.get b l ≡ Some y) × ((among' y ≡ true) × (gives x ≡ gives' y)))))
  asked_real k x there asked =
      let r = real_of ro rs so ss to from lead Is a b seen k x there in
      let y = r.1.1.0 in let is = r.1.1.1.1 in
      (r.0, (r.1.0, (y, (r.1.1.1.0, (sym (same_among k r.0 x y is) ∙ asked, same_gives k r.0 x y is)))))

  asked_virt : (l : L) (y : Y) → map.get b l ≡ Some y → IsTrue (among' y)
      → (k : K) × ((to k ≡ Some l)
      × ((x : X) × ((map.get a k ≡ Some x) × ((among x ≡ true) × (gives x ≡ gives' y)))))
  asked_virt l y there asked =
      let v = virt_of ro rs so ss to from lead Is a b seen l y there in
      let x = v.1.1.0 in let is = v.1.1.1.1 in
      (v.0, (v.1.0, (x, (v.1.1.1.0, (same_among v.0 l x y is ∙ asked, same_gives v.0 l x y is)))))

  one_least : (k : K) (z : Z) (l : L) (w : Z) → IsLeast among gives a k z → IsLeast among' gives' b l w
      → (to k ≡ Some l) × (z ≡ w)
  one_least k z l w virt real =
      let r = asked_real k virt.value virt.there virt.asked in
      let v = asked_virt l real.value real.there real.asked in
      let v_gives : gives v.1.1.0 ≡ Some w = v.1.1.1.1.1 ∙ real.given in
      let r_gives : gives' r.1.1.0 ≡ Some z = sym r.1.1.1.1.1 ∙ virt.given in
      let v_above = virt.least v.0 v.1.1.0 v.1.1.1.0 v.1.1.1.1.0 (ap is_some v_gives) in
      let r_above = real.least r.0 r.1.1.0 r.1.1.1.0 r.1.1.1.1.0 (ap is_some r_gives) in
      by_order (R k v.0) v_above
      (λ less.
      let beyond =
      order k v.0 r.0 l virt.value v.1.1.0 virt.there v.1.1.1.0 virt.asked v.1.1.1.1.0 r.1.0 v.1.0 less in
      absurd (not_both (S r.0 l) (S l r.0) (so.antisymm r.0 l) beyond r_above))
      (λ tied.
      let same : k ≡ v.0 = rs k v.0 tied in
      let value : virt.value ≡ v.1.1.0 = same_Some _ _ (sym virt.there ∙ ap (map.get a) same ∙ v.1.1.1.0) in
      (ap to same ∙ v.1.0, same_Some _ _ (sym virt.given ∙ ap gives value ∙ v_gives)))

  -- one that is asked for is there on both sides or on none
  not_none_real : ((k : K) (x : X) → map.get a k ≡ Some x → among x ≡ false) → IsAmong among' b → ⊥
  not_none_real none one =
      let v = asked_virt one.key one.value one.there one.asked in
      true_false (sym v.1.1.1.1.0 ∙ none v.0 v.1.1.0 v.1.1.1.0)

  not_none_virt : IsAmong among a → ((l : L) (y : Y) → map.get b l ≡ Some y → among' y ≡ false) → ⊥
  not_none_virt one none =
      let r = asked_real one.key one.value one.there one.asked in
      true_false (sym r.1.1.1.1.0 ∙ none r.0 r.1.1.0 r.1.1.1.0)

  virt_among : (k : K) (z : Z) → IsLeast among gives a k z → IsAmong among a
  virt_among k z one = record { key = k; value = one.value; there = one.there; asked = one.asked }

  real_among : (l : L) (z : Z) → IsLeast among' gives' b l z → IsAmong among' b
  real_among l z one = record { key = l; value = one.value; there = one.there; asked = one.asked }

  not_yet_real : ((k : K) (x : X) → map.get a k ≡ Some x → IsTrue (among x) → gives x ≡ None)
      → (l : L) (z : Z) → IsLeast among' gives' b l z → ⊥
  not_yet_real none l z one =
      let v = asked_virt l one.value one.there one.asked in
      none-some z (sym (none v.0 v.1.1.0 v.1.1.1.0 v.1.1.1.1.0) ∙ v.1.1.1.1.1 ∙ one.given)

  not_yet_virt : (k : K) (z : Z) → IsLeast among gives a k z
      → ((l : L) (y : Y) → map.get b l ≡ Some y → IsTrue (among' y) → gives' y ≡ None) → ⊥
  not_yet_virt k z one none =
      let r = asked_real k one.value one.there one.asked in
      none-some z (sym (none r.0 r.1.1.0 r.1.1.1.0 r.1.1.1.1.0) ∙ sym r.1.1.1.1.1 ∙ one.given)

  pub same_least : (found : Option (Option (K × Z))) (found' : Option (Option (L × Z)))
      → FindsLeast among gives a found → FindsLeast among' gives' b found' → SameLeast to found found'
  same_least None None virt real = tt
  same_least None (Some None) virt real = not_none_real virt real.0
  same_least None (Some (Some f)) virt real = not_none_real virt (real_among f.0 f.1 real)
  same_least (Some None) None virt real = not_none_virt virt.0 real
  same_least (Some None) (Some None) virt real = tt
  same_least (Some None) (Some (Some f)) virt real = not_yet_real virt.1 f.0 f.1 real
  same_least (Some (Some e)) None virt real = not_none_virt (virt_among e.0 e.1 virt) real
  same_least (Some (Some e)) (Some None) virt real = not_yet_virt e.0 e.1 virt real.1
  same_least (Some (Some e)) (Some (Some f)) virt real = one_least e.0 e.1 f.0 f.1 virt real
