-- Two maps that lead to each other stay so where a pair is added whose sides are in none, and where a pair is taken out.
use Rattle.std.proofs.Common.{◌≡◌, Ordering, inl, inr, refl, sym, ap, subst, ◌∙◌}
use Rattle.std.specs.Prelude.{Bool, true, false, Option, Some, None, is_some}
use Rattle.std.specs.Option.{unwrap_or}
use Rattle.std.specs.Cmp.{IsTotalOrder}
use Rattle.std.specs.FinMap as map
use Rattle.std.specs.FinMap.{FinMap, IsAntisymmetric}
use Rattle.id_maps.proofs.OfViews.MapLaws.{true_false, remove_insert_new, remove_absent, same_or_other, get_insert_same, get_insert_other, get_remove_same, get_remove_other}
use Rattle.virt_ids.specs.Pairs.{AreInverse}

abbrev is_there : {A : Type 0} → Option A → Type 0
is_there None = ⊥
is_there (Some x) = Unit {0}

some_none : {A B : Type 0} (x : A) → Some x ≡ None → B
some_none x e = absurd (subst is_there e tt)

the_value : {A : Type 0} (x y : A) → Some x ≡ Some y → x ≡ y
the_value x y e = ap (λ o. unwrap_or o x) e

none_there : {A : Type 0} (found : Option A) (known : Bool) → known ≡ is_some found → known ≡ false → found ≡ None
none_there None known is absent = refl
none_there (Some x) known is absent = true_false (sym is ∙ absent)

module _ {V R : Type 0} {C : V → V → Ordering} {D : R → R → Ordering} where
  pub AreInverse-empty : AreInverse {V = V} {R = R} {C = C} {D = D} map.empty map.empty
  AreInverse-empty = record {
    leads_back = λ v r is. some_none r (sym is ∙ map.get-empty {X = R} C v);
    leads_there = λ v r is. some_none v (sym is ∙ map.get-empty {X = V} D r);
  }

  -- of two new maps
  pub new_pairs : (there : FinMap C R) (back : FinMap D V) → there ≡ map.empty → back ≡ map.empty → AreInverse there back
  new_pairs there back there_is back_is =
      subst (λ (m : FinMap D V). AreInverse there m) (sym back_is) (subst (λ (m : FinMap C R). AreInverse {D = D} m map.empty) (sym there_is) AreInverse-empty)

module _ {V R : Type 0} {C : V → V → Ordering} {D : R → R → Ordering} (c_total : IsTotalOrder C) (c_exact : IsAntisymmetric C) (d_total : IsTotalOrder D) (d_exact : IsAntisymmetric D) where
  pub AreInverse-insert : (there : FinMap C R) (back : FinMap D V) (v : V) (r : R) → AreInverse there back → map.get there v ≡ None → map.get back r ≡ None
      → AreInverse (map.insert there v r) (map.insert back r v)
  AreInverse-insert there back v r pairs new_v new_r = record {
    leads_back = λ w s is. elim (same_or_other c_total c_exact w v) [
      | inl same ↦
          let s_is : r ≡ s = the_value r s (sym (get_insert_same c_total c_exact there v r) ∙ ap (map.get (map.insert there v r)) (sym same) ∙ is) in
          ap (map.get (map.insert back r v)) (sym s_is) ∙ get_insert_same d_total d_exact back r v ∙ ap Some (sym same)
      | inr other ↦
          let before = sym (get_insert_other c_total c_exact there v r w other) ∙ is in
          let back_to = pairs.leads_back w s before in
          get_insert_other d_total d_exact back r v s (λ same. some_none w (sym back_to ∙ ap (map.get back) same ∙ new_r)) ∙ back_to
    ];
    leads_there = λ w s is. elim (same_or_other d_total d_exact s r) [
      | inl same ↦
          let w_is : v ≡ w = the_value v w (sym (get_insert_same d_total d_exact back r v) ∙ ap (map.get (map.insert back r v)) (sym same) ∙ is) in
          ap (map.get (map.insert there v r)) (sym w_is) ∙ get_insert_same c_total c_exact there v r ∙ ap Some (sym same)
      | inr other ↦
          let before = sym (get_insert_other d_total d_exact back r v s other) ∙ is in
          let leads = pairs.leads_there w s before in
          get_insert_other c_total c_exact there v r w (λ same. some_none s (sym leads ∙ ap (map.get there) same ∙ new_v)) ∙ leads
    ];
  }

  pub AreInverse-remove : (there : FinMap C R) (back : FinMap D V) (v : V) (r : R) → AreInverse there back → map.get there v ≡ Some r
      → AreInverse (map.remove there v) (map.remove back r)
  AreInverse-remove there back v r pairs at_v = record {
    leads_back = λ w s is. elim (same_or_other c_total c_exact w v) [
      | inl same ↦ some_none s (sym is ∙ ap (map.get (map.remove there v)) same ∙ get_remove_same c_total c_exact there v)
      | inr other ↦
          let before = sym (get_remove_other c_total c_exact there v w other) ∙ is in
          get_remove_other d_total d_exact back r s (λ same.
          other (the_value w v (sym (pairs.leads_back w s before) ∙ ap (map.get back) same ∙ pairs.leads_back v r at_v))) ∙ pairs.leads_back w s before
    ];
    leads_there = λ w s is. elim (same_or_other d_total d_exact s r) [
      | inl same ↦ some_none w (sym is ∙ ap (map.get (map.remove back r)) same ∙ get_remove_same d_total d_exact back r)
      | inr other ↦
          let before = sym (get_remove_other d_total d_exact back r s other) ∙ is in
          get_remove_other c_total c_exact there v w (λ same.
          other (the_value s r (sym (pairs.leads_there w s before) ∙ ap (map.get there) same ∙ at_v))) ∙ pairs.leads_there w s before
    ];
  }

  -- two maps after their inserts, where a test told that neither key was there
  pub paired : (there there' : FinMap C R) (back back' : FinMap D V) (v : V) (r : R) (known_v known_r : Bool) → AreInverse there back
      → known_v ≡ is_some (map.get there v) → known_v ≡ false → known_r ≡ is_some (map.get back r) → known_r ≡ false
      → there' ≡ map.insert there v r → back' ≡ map.insert back r v → AreInverse there' back'
  paired there there' back back' v r known_v known_r pairs is_v absent_v is_r absent_r there_is back_is =
      subst (λ (m : FinMap D V). AreInverse there' m) (sym back_is)
      (subst (λ (m : FinMap C R). AreInverse m (map.insert back r v)) (sym there_is)
      (AreInverse-insert there back v r pairs (none_there _ known_v is_v absent_v) (none_there _ known_r is_r absent_r)))

  -- the first map after its insert was undone
  pub undone : (there inserted removed : FinMap C R) (v : V) (r : R) (known : Bool) → known ≡ is_some (map.get there v) → known ≡ false
      → inserted ≡ map.insert there v r → removed ≡ map.remove inserted v → removed ≡ there
  undone there inserted removed v r known is absent insert_is remove_is =
      remove_is ∙ ap (λ (m : FinMap C R). map.remove m v) insert_is ∙ remove_insert_new c_total c_exact there v r (none_there _ known is absent)

  pub unpaired : (there there' : FinMap C R) (back back' : FinMap D V) (v : V) (r : R) (taken : Option R) → AreInverse there back
      → taken ≡ map.get there v → taken ≡ Some r → there' ≡ map.remove there v → back' ≡ map.remove back r → AreInverse there' back'
  unpaired there there' back back' v r taken pairs found is there_is back_is =
      subst (λ (m : FinMap D V). AreInverse there' m) (sym back_is)
      (subst (λ (m : FinMap C R). AreInverse m (map.remove back r)) (sym there_is)
      (AreInverse-remove there back v r pairs (sym found ∙ is)))

  -- what is not there need not be taken out
  pub unpaired_none : (there there' : FinMap C R) (back : FinMap D V) (v : V) (taken : Option R) → AreInverse there back
      → taken ≡ map.get there v → taken ≡ None → there' ≡ map.remove there v → AreInverse there' back
  unpaired_none there there' back v taken pairs found is there_is =
      subst (λ (m : FinMap C R). AreInverse m back) (sym (there_is ∙ remove_absent c_total c_exact there v (sym found ∙ is))) pairs
