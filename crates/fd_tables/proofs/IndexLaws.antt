-- What a change in the slab and in its index does to the descriptions that stand in it.
use Rattle.std.proofs.Common.{◌≡◌, ◌≢◌, ℕ, true, refl, sym, ap, ◌∙◌, inl, inr}
use Rattle.std.specs.Prelude.{Option, Some, None, is_some, unwrap_or}
use Rattle.std.specs.Option.{option_map}
use Rattle.std.specs.FinMap as map
use Rattle.std.specs.FinMap.{FinMap}
use Rattle.slab.specs.Slab.{Slab, get, ContainsKey, Updates}
use Rattle.sys_abi.proofs.OfViews.MapLaws.{true_false, same_or_other, get_insert_same, get_insert_other, get_remove_same, get_remove_other}
use Rattle.sys_abi.proofs.OfViews.MapValues.{get-map_values}
use Rattle.sys_abi.specs.declared.identity.DescId.{DescId}
use Rattle.sys_abi.specs.Orders.{desc_cmp}
use Rattle.sys_abi.proofs.OrderLaws.{desc_total, desc_exact}
use Rattle.fd_tables.specs.declared.open.Open.{Open}
use Rattle.fd_tables.specs.Descriptions.{kept_at, nothing_kept, descriptions_of, IsIndex}

pub get-descriptions_of : (index : FinMap desc_cmp ℕ) (slab : Slab Open) (id : DescId) → map.get (descriptions_of index slab) id ≡ option_map (kept_at slab) (map.get index id)
unfolding descriptions_of
get-descriptions_of index slab id = get-map_values (kept_at slab) index id

-- a key that has a description
has_value : (slab : Slab Open) (key : ℕ) (found : Option Open) → get slab key ≡ found → is_some found ≡ true → Some (kept_at slab key) ≡ get slab key
has_value slab key None is there = true_false (sym there)
has_value slab key (Some o) is there = ap (λ f. Some (unwrap_or f nothing_kept)) is ∙ sym is

pub found_there : (index : FinMap desc_cmp ℕ) (slab : Slab Open) (now : FinMap desc_cmp Open) (id : DescId) (key : ℕ) → IsIndex index slab → map.get index id ≡ Some key
    → descriptions_of index slab ≡ now → map.get now id ≡ get slab key
found_there index slab now id key good at seen =
    ap (λ w. map.get w id) (sym seen) ∙ get-descriptions_of index slab id ∙ ap (option_map (kept_at slab)) at ∙ has_value slab key (get slab key) refl (good.there id key at)

pub found_none : (index : FinMap desc_cmp ℕ) (slab : Slab Open) (now : FinMap desc_cmp Open) (id : DescId) → map.get index id ≡ None → descriptions_of index slab ≡ now → map.get now id ≡ None
found_none index slab now id at seen = ap (λ w. map.get w id) (sym seen) ∙ get-descriptions_of index slab id ∙ ap (option_map (kept_at slab)) at

-- what is not described has no key
pub not_indexed : (index : FinMap desc_cmp ℕ) (slab : Slab Open) (now : FinMap desc_cmp Open) (id : DescId) (found : Option ℕ) → map.get index id ≡ found
    → descriptions_of index slab ≡ now → map.get now id ≡ None → map.get index id ≡ None
not_indexed index slab now id None at seen none = at
not_indexed index slab now id (Some key) at seen none =
    true_false (sym (ap is_some (sym none ∙ ap (λ w. map.get w id) (sym seen) ∙ get-descriptions_of index slab id ∙ ap (option_map (kept_at slab)) at)))

-- two maps of descriptions that agree beside one name
alike : (index next : FinMap desc_cmp ℕ) (slab after : Slab Open) (id : DescId) → ((j : DescId) → j ≢ id → map.get next j ≡ map.get index j)
    → ((j : DescId) (key : ℕ) → j ≢ id → map.get index j ≡ Some key → get after key ≡ get slab key)
    → (j : DescId) → j ≢ id → map.get (descriptions_of next after) j ≡ map.get (descriptions_of index slab) j
alike index next slab after id same_keys same_values j differ =
    get-descriptions_of next after j ∙ ap (option_map (kept_at after)) (same_keys j differ)
    ∙ by_key (map.get index j) refl ∙ sym (get-descriptions_of index slab j)
  where
    by_key : (found : Option ℕ) → map.get index j ≡ found → option_map (kept_at after) found ≡ option_map (kept_at slab) found
    by_key None at = refl
    by_key (Some key) at = ap (λ f. Some (unwrap_or f nothing_kept)) (same_values j key differ at)

pub add_seen : (index : FinMap desc_cmp ℕ) (slab after : Slab Open) (id : DescId) (key : ℕ) (o : Open) → IsIndex index slab → map.get index id ≡ None → get slab key ≡ None
    → Updates slab after key (Some o) → descriptions_of (map.insert index id key) after ≡ map.insert (descriptions_of index slab) id o
add_seen index slab after id key o good new vacant updates = map.same_map desc_total desc_exact _ _ (λ j. elim (same_or_other desc_total desc_exact j id) [
  | inl same ↦
      ap (map.get (descriptions_of (map.insert index id key) after)) same
      ∙ get-descriptions_of (map.insert index id key) after id ∙ ap (option_map (kept_at after)) (get_insert_same desc_total desc_exact index id key)
      ∙ ap (λ f. Some (unwrap_or f nothing_kept)) updates.changed
      ∙ sym (get_insert_same desc_total desc_exact (descriptions_of index slab) id o) ∙ ap (map.get (map.insert (descriptions_of index slab) id o)) (sym same)
  | inr differ ↦
      alike index (map.insert index id key) slab after id (λ i apart. get_insert_other desc_total desc_exact index id key i apart)
      (λ i k apart at. updates.others k (λ same. true_false (sym (good.there i k at) ∙ ap is_some (ap (get slab) same ∙ vacant)))) j differ
      ∙ sym (get_insert_other desc_total desc_exact (descriptions_of index slab) id o j differ)
])

the_key : (k j : ℕ) → Some k ≡ Some j → k ≡ j
the_key k j e = ap (λ o. unwrap_or o k) e

pub add_good : (index : FinMap desc_cmp ℕ) (slab after : Slab Open) (id : DescId) (key : ℕ) (o : Open) → IsIndex index slab → map.get index id ≡ None → get slab key ≡ None
    → Updates slab after key (Some o) → IsIndex (map.insert index id key) after
add_good index slab after id key o good new vacant updates = record { there = there; apart = apart }
  where
    key_of_new : (i : DescId) (k : ℕ) → i ≡ id → map.get (map.insert index id key) i ≡ Some k → k ≡ key
    key_of_new i k same at = the_key k key (sym at ∙ ap (map.get (map.insert index id key)) same ∙ get_insert_same desc_total desc_exact index id key)

    key_of_old : (i : DescId) (k : ℕ) → i ≢ id → map.get (map.insert index id key) i ≡ Some k → map.get index i ≡ Some k
    key_of_old i k differ at = sym (get_insert_other desc_total desc_exact index id key i differ) ∙ at

    old_is_other : (i : DescId) (k : ℕ) → map.get index i ≡ Some k → k ≢ key
    old_is_other i k at same = true_false (sym (good.there i k at) ∙ ap is_some (ap (get slab) same ∙ vacant))

    there : (i : DescId) (k : ℕ) → map.get (map.insert index id key) i ≡ Some k → ContainsKey after k
    there i k at = elim (same_or_other desc_total desc_exact i id) [
      | inl same ↦ ap is_some (ap (get after) (key_of_new i k same at) ∙ updates.changed)
      | inr differ ↦ let before = key_of_old i k differ at in ap is_some (updates.others k (old_is_other i k before)) ∙ good.there i k before
    ]

    apart : (i j : DescId) (k : ℕ) → map.get (map.insert index id key) i ≡ Some k → map.get (map.insert index id key) j ≡ Some k → i ≡ j
    apart i j k at_i at_j = elim (same_or_other desc_total desc_exact i id) [
      | inl same_i ↦ elim (same_or_other desc_total desc_exact j id) [
        | inl same_j ↦ same_i ∙ sym same_j
        | inr differ_j ↦ absurd (old_is_other j k (key_of_old j k differ_j at_j) (key_of_new i k same_i at_i))
      ]
      | inr differ_i ↦ elim (same_or_other desc_total desc_exact j id) [
        | inl same_j ↦ absurd (old_is_other i k (key_of_old i k differ_i at_i) (key_of_new j k same_j at_j))
        | inr differ_j ↦ good.apart i j k (key_of_old i k differ_i at_i) (key_of_old j k differ_j at_j)
      ]
    ]

-- another name has another key
other_than : (index : FinMap desc_cmp ℕ) (slab : Slab Open) (id i : DescId) (key k : ℕ) → IsIndex index slab → map.get index id ≡ Some key → map.get index i ≡ Some k → i ≢ id → k ≢ key
other_than index slab id i key k good at at_i differ same = differ (good.apart i id key (at_i ∙ ap Some same) at)

pub set_seen : (index : FinMap desc_cmp ℕ) (slab after : Slab Open) (id : DescId) (key : ℕ) (o : Open) → IsIndex index slab → map.get index id ≡ Some key
    → Updates slab after key (Some o) → descriptions_of index after ≡ map.insert (descriptions_of index slab) id o
set_seen index slab after id key o good at updates = map.same_map desc_total desc_exact _ _ (λ j. elim (same_or_other desc_total desc_exact j id) [
  | inl same ↦
      ap (map.get (descriptions_of index after)) same ∙ get-descriptions_of index after id ∙ ap (option_map (kept_at after)) at
      ∙ ap (λ f. Some (unwrap_or f nothing_kept)) updates.changed
      ∙ sym (get_insert_same desc_total desc_exact (descriptions_of index slab) id o) ∙ ap (map.get (map.insert (descriptions_of index slab) id o)) (sym same)
  | inr differ ↦
      alike index index slab after id (λ i apart. refl) (λ i k apart at_i. updates.others k (other_than index slab id i key k good at at_i apart)) j differ
      ∙ sym (get_insert_other desc_total desc_exact (descriptions_of index slab) id o j differ)
])

pub set_good : (index : FinMap desc_cmp ℕ) (slab after : Slab Open) (id : DescId) (key : ℕ) (o : Open) → IsIndex index slab → map.get index id ≡ Some key
    → Updates slab after key (Some o) → IsIndex index after
set_good index slab after id key o good at updates = record {
  there = λ i k at_i. elim (same_or_other desc_total desc_exact i id) [
    | inl same ↦
        let k_is : k ≡ key = the_key k key (sym at_i ∙ ap (map.get index) same ∙ at) in
        ap is_some (ap (get after) k_is ∙ updates.changed)
    | inr differ ↦ ap is_some (updates.others k (other_than index slab id i key k good at at_i differ)) ∙ good.there i k at_i
  ];
  apart = good.apart;
}

pub take_seen : (index : FinMap desc_cmp ℕ) (slab after : Slab Open) (id : DescId) (key : ℕ) → IsIndex index slab → map.get index id ≡ Some key
    → Updates slab after key None → descriptions_of (map.remove index id) after ≡ map.remove (descriptions_of index slab) id
take_seen index slab after id key good at updates = map.same_map desc_total desc_exact _ _ (λ j. elim (same_or_other desc_total desc_exact j id) [
  | inl same ↦
      ap (map.get (descriptions_of (map.remove index id) after)) same
      ∙ get-descriptions_of (map.remove index id) after id ∙ ap (option_map (kept_at after)) (get_remove_same desc_total desc_exact index id)
      ∙ sym (get_remove_same desc_total desc_exact (descriptions_of index slab) id) ∙ ap (map.get (map.remove (descriptions_of index slab) id)) (sym same)
  | inr differ ↦
      alike index (map.remove index id) slab after id (λ i apart. get_remove_other desc_total desc_exact index id i apart)
      (λ i k apart at_i. updates.others k (other_than index slab id i key k good at at_i apart)) j differ
      ∙ sym (get_remove_other desc_total desc_exact (descriptions_of index slab) id j differ)
])

pub take_good : (index : FinMap desc_cmp ℕ) (slab after : Slab Open) (id : DescId) (key : ℕ) → IsIndex index slab → map.get index id ≡ Some key
    → Updates slab after key None → IsIndex (map.remove index id) after
take_good index slab after id key good at updates = record { there = there; apart = λ i j k at_i at_j. good.apart i j k (was i k at_i) (was j k at_j) }
  where
    not_it : (i : DescId) (k : ℕ) → map.get (map.remove index id) i ≡ Some k → i ≢ id
    not_it i k at_i same = true_false (ap is_some (sym at_i ∙ ap (map.get (map.remove index id)) same ∙ get_remove_same desc_total desc_exact index id))

    was : (i : DescId) (k : ℕ) → map.get (map.remove index id) i ≡ Some k → map.get index i ≡ Some k
    was i k at_i = sym (get_remove_other desc_total desc_exact index id i (not_it i k at_i)) ∙ at_i

    there : (i : DescId) (k : ℕ) → map.get (map.remove index id) i ≡ Some k → ContainsKey after k
    there i k at_i =
        ap is_some (updates.others k (other_than index slab id i key k good at (was i k at_i) (not_it i k at_i))) ∙ good.there i k (was i k at_i)
