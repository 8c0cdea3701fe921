-- Whether a description passes a test, and all descriptions changed at once, by the slab in which they stand.
use Rattle.std.proofs.Common.{◌≡◌, Ordering, ℕ, ◌+◌, zero, suc, Bool, true, ◌||◌, List, [], ◌∷◌, map as mapped, refl, sym, ap, subst, ◌∙◌}
use Rattle.std.specs.Prelude.{Option, Some, None, is_some, slice_index_or, if◌then◌else◌}
use Rattle.std.specs.Option.{option_map, unwrap_or}
use Rattle.std.specs.List.{list_any}
use Rattle.std.specs.FinMap as map
use Rattle.std.specs.FinMap.{FinMap}
use Rattle.std.specs.Borrow.{MutBor}
use Rattle.slab.specs.Slab.{Slab, get, CalledAt, RetainsFrom}
use Rattle.sys_abi.specs.OfViews.Maps.{map_values}
use Rattle.sys_abi.proofs.OfViews.MapValues.{get-map_values, entries-map_values}
use Rattle.sys_abi.specs.declared.identity.RealPid.{RealPid}
use Rattle.sys_abi.specs.Orders.{desc_cmp}
use Rattle.sys_abi.proofs.OrderLaws.{desc_total, desc_exact}
use Rattle.fd_tables.specs.declared.open.Open.{Open}
use Rattle.fd_tables.specs.Counts.{disowned_open}
use Rattle.fd_tables.specs.Descriptions.{kept_at, nothing_kept, descriptions_of, IsIndex}
use Rattle.fd_tables.proofs.IndexLaws.{get-descriptions_of}

any_mapped : {K X Y : Type 0} (test : Y → Bool) (f : X → Y) (es : List (K × X)) → list_any test (mapped (λ (e : K × Y). e.1) (mapped (λ (e : K × X). (e.0, f e.1)) es)) ≡ list_any (λ x. test (f x)) (mapped (λ (e : K × X). e.1) es)
any_mapped test f [] = refl
any_mapped test f (e ∷ es) = ap (λ b. test (f e.1) || b) (any_mapped test f es)

-- a test of all values after a function of each
pub any-map_values : {K X Y : Type 0} {R : K → K → Ordering} (test : Y → Bool) (f : X → Y) (m : FinMap R X) → list_any test (map.values (map_values f m)) ≡ list_any (λ x. test (f x)) (map.values m)
any-map_values {K} {X} {Y} test f m = ap (λ (es : List (K × Y)). list_any test (mapped (λ e. e.1) es)) (entries-map_values f m) ∙ any_mapped test f (map.entries m)

pub any-described : (test : Open → Bool) (index : FinMap desc_cmp ℕ) (slab : Slab Open) (now : FinMap desc_cmp Open) → descriptions_of index slab ≡ now
    → list_any (λ key. test (kept_at slab key)) (map.values index) ≡ list_any test (map.values now)
unfolding descriptions_of
any-described test index slab now seen = sym (any-map_values test (kept_at slab) index) ∙ ap (λ m. list_any test (map.values m)) seen

-- a pass of `retain` whose closure always answers true and leaves g of each value
module _ {F X : Type 0} (step : F → ℕ → MutBor X → Bool → MutBor X → F → Type 0) (g : X → X) (f : F)
    (h : (key : ℕ) (v : X) (b : Bool) (w : X) (next : F) → CalledAt step f key v b w next → (b ≡ true) × (w ≡ g v) × (next ≡ f)) where
  pub retained_slots : (key : ℕ) (slots kept : List (Option X)) → RetainsFrom step f key slots kept → kept ≡ mapped (option_map g) slots
  retained_slots key [] kept r = r
  retained_slots key (None ∷ slots) kept r = r.1 ∙ ap (λ later. None ∷ later) (retained_slots (key + 1) slots r.0 r.2)
  retained_slots key (Some v ∷ slots) kept r =
      let a = h key v r.0 r.1 r.2 r.3 in
      let rest = retained_slots (key + 1) slots r.4 (subst (λ u. RetainsFrom step u (key + 1) slots r.4) a.2 r.6) in
      r.5 ∙ ap (λ b. (if b then Some r.1 else None) ∷ r.4) a.0 ∙ (λ i. Some (a.1 i) ∷ rest i)

get_mapped : (g : Open → Open) (slots : List (Option Open)) (key : ℕ) → slice_index_or (mapped (option_map g) slots) key None ≡ option_map g (slice_index_or slots key None)
get_mapped g [] key = refl
get_mapped g (o ∷ slots) zero = refl
get_mapped g (o ∷ slots) (suc key) = get_mapped g slots key

module _ (p : RealPid) (index : FinMap desc_cmp ℕ) (slab after : Slab Open) (changed : after.slots ≡ mapped (option_map (disowned_open p)) slab.slots) where
  found : (key : ℕ) → get after key ≡ option_map (disowned_open p) (get slab key)
  found key = ap (λ slots. slice_index_or slots key None) changed ∙ get_mapped (disowned_open p) slab.slots key

  kept : (key : ℕ) (before : Option Open) → get slab key ≡ before → kept_at after key ≡ disowned_open p (kept_at slab key)
  unfolding disowned_open
  kept key None is = ap (λ (o : Option Open). unwrap_or o nothing_kept) (found key ∙ ap (option_map (disowned_open p)) is) ∙ ap (λ (o : Option Open). disowned_open p (unwrap_or o nothing_kept)) (sym is)
  kept key (Some o) is = ap (λ (o : Option Open). unwrap_or o nothing_kept) (found key ∙ ap (option_map (disowned_open p)) is) ∙ ap (λ (o : Option Open). disowned_open p (unwrap_or o nothing_kept)) (sym is)

  at_key : (key : Option ℕ) → option_map (kept_at after) key ≡ option_map (disowned_open p) (option_map (kept_at slab) key)
  at_key None = refl
  at_key (Some key) = ap Some (kept key (get slab key) refl)

  pub disowned_seen : (now : FinMap desc_cmp Open) → descriptions_of index slab ≡ now → descriptions_of index after ≡ map_values (disowned_open p) now
  disowned_seen now seen =
      map.same_map desc_total desc_exact _ _ (λ id.
      get-descriptions_of index after id ∙ at_key (map.get index id)
      ∙ ap (option_map (disowned_open p)) (sym (get-descriptions_of index slab id)) ∙ sym (get-map_values (disowned_open p) (descriptions_of index slab) id))
      ∙ ap (map_values (disowned_open p)) seen

  still : (before : Option Open) → is_some (option_map (disowned_open p) before) ≡ is_some before
  still None = refl
  still (Some o) = refl

  pub disowned_good : IsIndex index slab → IsIndex index after
  disowned_good good = record {
    there = λ id key at. ap is_some (found key) ∙ still (get slab key) ∙ good.there id key at;
    apart = good.apart;
  }
