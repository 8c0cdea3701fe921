-- A map with a change of what stands at one key.
--     each_changed      what holds of each entry afterwards      changed_test      what a test tells of each      changed_other      the others are as they were
--     changed_here      the entry changed                        changed_len       there are as many
use Rattle.std.proofs.Common.{◌≡◌, ◌≢◌, ◌+◌, cond, refl, sym, ap, subst, ◌∙◌, ⊎_elim}
use Rattle.std.specs.Prelude.{Option, Some, None, is_some}
use Rattle.std.specs.declared.cmp.Ordering.{Ordering}
use Rattle.std.specs.Cmp.{IsTotalOrder}
use Rattle.std.specs.FinMap as map
use Rattle.plain_process.proofs.OfViews.MapLaws.{get_insert_same, get_insert_other, same_or_other}
use Rattle.plain_process.specs.Valid.{Each}
use Rattle.plain_tables.specs.Tables.{changed_by, changed_at}
use Rattle.plain_tables.proofs.Entries.{each_with}

module _ {K X : Type 0} {R : K → K → Ordering} (o : IsTotalOrder R) (exact : map.IsAntisymmetric R) (m : map.FinMap R X) (p : K) (change : X → X) where
  each_by : (P : K → X → Type 0) (found : Option X) → map.get m p ≡ found → ((v : X) → map.get m p ≡ Some v → P p (change v)) → Each m P → Each (changed_by m p change found) P
  each_by P None there new old = old
  each_by P (Some v) there new old = each_with o exact P m p (change v) (new v there) (λ q w other found. old q w found)

  pub each_changed : (P : K → X → Type 0) → ((v : X) → map.get m p ≡ Some v → P p (change v)) → Each m P → Each (changed_at m p change) P
  each_changed P new old = each_by P (map.get m p) refl new old

  test_by : {A : Type 0} (test : Option X → A) (found : Option X) → map.get m p ≡ found → ((v : X) → map.get m p ≡ Some v → test (Some (change v)) ≡ test (Some v))
      → (q : K) → test (map.get (changed_by m p change found) q) ≡ test (map.get m q)
  test_by test None there same q = refl
  test_by test (Some v) there same q = ⊎_elim
      (λ here. subst (λ r. test (map.get (map.insert m p (change v)) r) ≡ test (map.get m r)) (sym here)
      (ap test (get_insert_same o exact m p (change v)) ∙ same v there ∙ sym (ap test there)))
      (λ other. ap test (get_insert_other o exact m p (change v) q other))
      (same_or_other o exact q p)

  pub changed_test : {A : Type 0} (test : Option X → A) → ((v : X) → map.get m p ≡ Some v → test (Some (change v)) ≡ test (Some v)) → (q : K) → test (map.get (changed_at m p change) q) ≡ test (map.get m q)
  changed_test test same q = test_by test (map.get m p) refl same q

  len_by : (found : Option X) → map.get m p ≡ found → map.len (changed_by m p change found) ≡ map.len m
  len_by None there = refl
  len_by (Some v) there = map.len-insert o m p (change v) ∙ ap (λ found. cond (is_some found) (map.len m) (map.len m + 1)) there

  pub changed_len : map.len (changed_at m p change) ≡ map.len m
  changed_len = len_by (map.get m p) refl

  other_by : (found : Option X) (q : K) → q ≢ p → map.get (changed_by m p change found) q ≡ map.get m q
  other_by None q other = refl
  other_by (Some v) q other = get_insert_other o exact m p (change v) q other

  pub changed_other : (q : K) → q ≢ p → map.get (changed_at m p change) q ≡ map.get m q
  changed_other q other = other_by (map.get m p) q other

  pub changed_here : (v : X) → map.get m p ≡ Some v → map.get (changed_at m p change) p ≡ Some (change v)
  changed_here v there = ap (λ found. map.get (changed_by m p change found) p) there ∙ get_insert_same o exact m p (change v)

  from_by : (found : Option X) (w : X) → map.get m p ≡ found → map.get (changed_by m p change found) p ≡ Some w → (v : X) × (map.get m p ≡ Some v) × (w ≡ change v)
  from_by None w there is = let none : map.get m p ≡ None = there in cc
  from_by (Some v) w there is = (v, there, let put = get_insert_same o exact m p (change v) in cc)

  -- what stands there afterwards was changed
  pub changed_from : (w : X) → map.get (changed_at m p change) p ≡ Some w → (v : X) × (map.get m p ≡ Some v) × (w ≡ change v)
  changed_from w is = from_by (map.get m p) w refl is
