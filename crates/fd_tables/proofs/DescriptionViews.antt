-- The tree of the index and the slab, seen as the descriptions by their names.
use Rattle.std.proofs.Common.{◌≡◌, ℕ, Bool, true, false, cond, ◌&&◌, List, [], ◌∷◌, refl, sym, ap, subst, ◌∙◌}
use Rattle.std.specs.Prelude.{Option, Some, None, is_some, IsSome, Result, Ok, Err, OnErr, find, filter}
use Rattle.std.specs.Option.{option_map}
use Rattle.std.specs.Ordering.{is_lt}
use Rattle.std.specs.Borrow.{Bor}
use Rattle.std.specs.declared.ops.Bound.{Bound}
use Rattle.std.specs.declared.ops.Bound.TheVariants.{Unbounded}
use Rattle.std.specs.FinMap as map
use Rattle.std.specs.FinMap.{FinMap}
use Rattle.std.specs.BTreeMap as tree
use Rattle.std.specs.BTreeMap.{BTreeMap}
use Rattle.std.specs.BTreeMap.Range.{range_contains, entries_between}
use Rattle.std.specs.Map.{keys_of}
use Rattle.std.specs.Map.Iter.{TakesFirst, deref_pair}
use Rattle.slab.specs.Slab.{Slab, get, Updates, ContainsKey}
use Rattle.sys_abi.proofs.OfViews.TreeMaps.{view, get-view, keys-view}
use Rattle.sys_abi.proofs.OfViews.MapLaws.{true_false, remove_absent}
use Rattle.sys_abi.proofs.OfViews.MapValues.{keys-map_values}
use Rattle.sys_abi.specs.declared.identity.DescId.{DescId}
use Rattle.sys_abi.specs.Orders.{desc_cmp}
use Rattle.sys_abi.proofs.OrderLaws.{desc_total, desc_exact}
use Rattle.fd_tables.specs.declared.open.Open.{Open}
use Rattle.fd_tables.specs.Parts.{is_after, bound_above}
use Rattle.fd_tables.specs.Descriptions.{kept_at, descriptions_of, IsIndex}
use Rattle.fd_tables.proofs.IndexLaws.{get-descriptions_of, found_none, not_indexed, add_seen, add_good, set_seen, take_seen, take_good}
use Rattle.fd_tables.proofs.TableViews.{nothing_there}
use Rattle.sys_abi.proofs.OfViews.NextKeys.{next-by}

abbrev pub Index : Type 0
Index = BTreeMap DescId ℕ

abbrev pub described : Index → Slab Open → FinMap desc_cmp Open
described m slab = descriptions_of (view desc_cmp m) slab

pub on_err : {A E : Type 0} {P : Type 0} (r : Result A E) → P → OnErr r P
on_err (Ok v) p = tt
on_err (Err e) p = p

-- more room in the slab changes nothing
pub same_slots : (index : FinMap desc_cmp ℕ) (slab after : Slab Open) → after.slots ≡ slab.slots → descriptions_of index after ≡ descriptions_of index slab
same_slots index slab after same = map.same_map desc_total desc_exact _ _ (λ j.
    get-descriptions_of index after j ∙ (λ i. option_map (kept_at (record { slots = same i; vacant_key = 0; capacity = 0 })) (map.get index j)) ∙ sym (get-descriptions_of index slab j))

same_slots_good : (index : FinMap desc_cmp ℕ) (slab after : Slab Open) → after.slots ≡ slab.slots → IsIndex index slab → IsIndex index after
same_slots_good index slab after same good = record {
  there = λ id key at. subst (λ slots. ContainsKey (record { slots = slots; vacant_key = 0; capacity = 0 }) key) (sym same) (good.there id key at);
  apart = good.apart;
}

pub roomier_same : (m : Index) (slab after : Slab Open) (now : FinMap desc_cmp Open) → after ≡ record slab { capacity = after.capacity } → described m slab ≡ now → described m after ≡ now
roomier_same m slab after now kept seen = same_slots (view desc_cmp m) slab after (ap (λ s. s.slots) kept) ∙ seen

pub entries_same : (m n : Index) (slab : Slab Open) (now : FinMap desc_cmp Open) → n.entries ≡ m.entries → described m slab ≡ now → described n slab ≡ now
entries_same m n slab now same seen = ap (λ es. descriptions_of (map.from_entries es) slab) same ∙ seen

module _ (m n : Index) (slab roomy after : Slab Open) (now : FinMap desc_cmp Open) (id : DescId) (key used : ℕ) (o : Open)
    (good : IsIndex (view desc_cmp m) slab) (seen : described m slab ≡ now) (absent : map.get now id ≡ None) (kept : roomy ≡ record slab { capacity = roomy.capacity })
    (vacant : get roomy key ≡ None) (same_key : used ≡ key) (updates : Updates roomy after used (Some o)) (indexed : view desc_cmp n ≡ map.insert (view desc_cmp m) id key) where
  put : Updates roomy after key (Some o)
  put = subst (λ (k : ℕ). Updates roomy after k (Some o)) same_key updates

  new_key : map.get (view desc_cmp m) id ≡ None
  new_key = not_indexed (view desc_cmp m) slab now id (map.get (view desc_cmp m) id) refl seen absent

  roomy_good : IsIndex (view desc_cmp m) roomy
  roomy_good = same_slots_good (view desc_cmp m) slab roomy (ap (λ s. s.slots) kept) good

  pub added_good : IsIndex (view desc_cmp n) after
  added_good = subst (λ (i : FinMap desc_cmp ℕ). IsIndex i after) (sym indexed) (add_good (view desc_cmp m) roomy after id key o roomy_good new_key vacant put)

  pub added_seen : described n after ≡ map.insert now id o
  added_seen =
      ap (λ (i : FinMap desc_cmp ℕ). descriptions_of i after) indexed ∙ add_seen (view desc_cmp m) roomy after id key o roomy_good new_key vacant put
      ∙ ap (λ (w : FinMap desc_cmp Open). map.insert w id o) (roomier_same m slab roomy now kept seen)

pub new_good : (m : Index) (slab : Slab Open) → m.entries ≡ [] → IsIndex (view desc_cmp m) slab
new_good m slab none = record { there = λ id key at. nothing id key at; apart = λ i j key at_i at_j. nothing i key at_i }
  where
    nothing : {A : Type 0} (id : DescId) (key : ℕ) → map.get (view desc_cmp m) id ≡ Some key → A
    nothing id key at = true_false (ap is_some (sym at ∙ ap (λ es. map.get (map.from_entries {R = desc_cmp} es) id) none ∙ map.get-empty {X = ℕ} desc_cmp id))

pub new_seen : (m : Index) (slab : Slab Open) → m.entries ≡ [] → described m slab ≡ map.empty
new_seen m slab none = map.same_map desc_total desc_exact _ _ (λ id.
    get-descriptions_of (view desc_cmp m) slab id
    ∙ ap (option_map (kept_at slab)) (ap (λ es. map.get (map.from_entries {R = desc_cmp} es) id) none ∙ map.get-empty {X = ℕ} desc_cmp id)
    ∙ sym (map.get-empty {X = Open} desc_cmp id))

-- a description that is there has a key
pub set_none : {A : Type 0} (m : Index) (slab : Slab Open) (now : FinMap desc_cmp Open) (id : DescId) → None ≡ tree.get desc_cmp m id → described m slab ≡ now → IsSome (map.get now id) → A
set_none m slab now id none seen there = absurd (nothing_there (map.get now id) (found_none (view desc_cmp m) slab now id (get-view desc_total m id ∙ sym none) seen) there)

pub key_at : (m : Index) (id : DescId) (key : ℕ) → Some key ≡ tree.get desc_cmp m id → map.get (view desc_cmp m) id ≡ Some key
key_at m id key at = get-view desc_total m id ∙ sym at

pub set_described : (m : Index) (slab after : Slab Open) (now : FinMap desc_cmp Open) (id : DescId) (key : ℕ) (o : Open) → IsIndex (view desc_cmp m) slab → Some key ≡ tree.get desc_cmp m id
    → described m slab ≡ now → Updates slab after key (Some o) → described m after ≡ map.insert now id o
set_described m slab after now id key o good at seen updates =
    set_seen (view desc_cmp m) slab after id key o good (key_at m id key at) updates ∙ ap (λ (w : FinMap desc_cmp Open). map.insert w id o) seen

pub take_described : (m n : Index) (slab after : Slab Open) (now : FinMap desc_cmp Open) (id : DescId) (key : ℕ) → IsIndex (view desc_cmp m) slab → Some key ≡ tree.get desc_cmp m id
    → view desc_cmp n ≡ map.remove (view desc_cmp m) id → described m slab ≡ now → Updates slab after key None → described n after ≡ map.remove now id
take_described m n slab after now id key good at removed seen updates =
    ap (λ (i : FinMap desc_cmp ℕ). descriptions_of i after) removed ∙ take_seen (view desc_cmp m) slab after id key good (key_at m id key at) updates
    ∙ ap (λ (w : FinMap desc_cmp Open). map.remove w id) seen

pub taken_good : (m n : Index) (slab after : Slab Open) (id : DescId) (key : ℕ) → IsIndex (view desc_cmp m) slab → Some key ≡ tree.get desc_cmp m id
    → view desc_cmp n ≡ map.remove (view desc_cmp m) id → Updates slab after key None → IsIndex (view desc_cmp n) after
taken_good m n slab after id key good at removed updates =
    subst (λ (i : FinMap desc_cmp ℕ). IsIndex i after) (sym removed) (take_good (view desc_cmp m) slab after id key good (key_at m id key at) updates)

pub take_none : (m n : Index) (slab : Slab Open) (now : FinMap desc_cmp Open) (id : DescId) → None ≡ tree.get desc_cmp m id
    → view desc_cmp n ≡ map.remove (view desc_cmp m) id → described m slab ≡ now → described n slab ≡ map.remove now id
take_none m n slab now id none removed seen =
    let no_key = get-view desc_total m id ∙ sym none in
    ap (λ (i : FinMap desc_cmp ℕ). descriptions_of i slab) (removed ∙ remove_absent desc_total desc_exact (view desc_cmp m) id no_key) ∙ seen
    ∙ sym (remove_absent desc_total desc_exact now id (found_none (view desc_cmp m) slab now id no_key seen))

in_range-above : (above : Option DescId) (q : DescId) → range_contains desc_cmp (bound_above above) Unbounded q ≡ is_after above q
in_range-above None q = refl
in_range-above (Some a) q = elim (is_lt (desc_cmp a q)) as (λ b. (b && true) ≡ b) [ true ↦ refl | false ↦ refl ]

keys_described : (m : Index) (slab : Slab Open) → map.keys (described m slab) ≡ map.keys (view desc_cmp m)
unfolding descriptions_of
keys_described m slab = keys-map_values (kept_at slab) (view desc_cmp m)

pub next_described : (above : Option DescId) (start : Bound DescId) (m : Index) (slab : Slab Open) (now : FinMap desc_cmp Open) (inside rest : List (DescId × ℕ)) (r : Option (Bor DescId × Bor ℕ))
    → start ≡ bound_above above → inside ≡ entries_between desc_cmp start Unbounded m.entries → TakesFirst deref_pair inside r rest → tree.IsOrdered desc_cmp m → described m slab ≡ now
    → option_map (λ p. p.0.now) r ≡ find (is_after above) (map.keys now)
next_described above start m slab now inside rest r begins is taken ordered seen =
    next-by desc_cmp desc_total (is_after above) (bound_above above) m (view desc_cmp m) inside rest r (in_range-above above)
    (is ∙ ap (λ b. entries_between desc_cmp b Unbounded m.entries) begins) taken ordered refl
    ∙ ap (find (is_after above)) (sym (keys_described m slab) ∙ ap map.keys seen)
