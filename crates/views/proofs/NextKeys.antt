-- The least key above another, read off the range of the tree that begins there.
use Rattle.std.proofs.Common.{◌≡◌, ℕ, Less, Equal, Greater, Bool, true, false, cond, ◌&&◌, List, [], ◌∷◌, refl, sym, ap, ◌∙◌}
use Rattle.std.specs.Prelude.{Option, Some, None, find, filter, nat_lt, ◌==◌, option_map}
use Rattle.std.specs.declared.cmp.Ordering.{Ordering}
use Rattle.std.specs.Ordering.{nat_cmp, is_lt}
use Rattle.std.specs.Cmp.{IsTotalOrder, nat_cmp_total}
use Rattle.std.specs.Borrow.{Bor}
use Rattle.std.specs.declared.ops.Bound.{Bound}
use Rattle.std.specs.declared.ops.Bound.TheVariants.{Unbounded}
use Rattle.std.specs.FinMap as map
use Rattle.std.specs.BTreeMap as tree
use Rattle.std.specs.BTreeMap.{BTreeMap}
use Rattle.std.specs.BTreeMap.Range.{range_contains, entries_between}
use Rattle.std.specs.Map.{keys_of}
use Rattle.std.specs.Map.Iter.{TakesFirst, deref_pair}
use Rattle.views.specs.NumberMap.{is_above, bound_above}
use Rattle.views.proofs.TreeMaps.{view, keys-view}

unfoldable pub first : {A : Type 0} → List A → Option A
first [] = None
first (x ∷ xs) = Some x

find-filter : {K X : Type 0} (p : K → Bool) (es : List (K × X)) → option_map (λ e. e.0) (first (filter (λ e. p e.0) es)) ≡ find p (keys_of es)
unfolding first
find-filter p [] = refl
find-filter p (e ∷ es) =
    elim (p e.0) as (λ b. option_map (λ e. e.0) (first (cond b (e ∷ filter (λ e. p e.0) es) (filter (λ e. p e.0) es))) ≡ cond b (Some e.0) (find p (keys_of es))) [
      | true ↦ refl
      | false ↦ find-filter p es
    ]

first_taken : {K X : Type 0} (es rest : List (K × X)) (r : Option (Bor K × Bor X)) → TakesFirst deref_pair es r rest → option_map (λ p. p.0.now) r ≡ option_map (λ e. e.0) (first es)
unfolding first
first_taken es rest None taken = ap (λ l. option_map (λ e. e.0) (first l)) (sym taken.0)
first_taken es rest (Some x) taken = ap (λ l. option_map (λ e. e.0) (first l)) (sym taken)

-- the first key at which the test answers true, where these are the keys of the range
pub next-by : {K X : Type 0} (cmp : K → K → Ordering) → IsTotalOrder cmp → (test : K → Bool) (start : Bound K) (m : BTreeMap K X) (now : map.FinMap cmp X) (inside rest : List (K × X)) (r : Option (Bor K × Bor X))
    → ((q : K) → range_contains cmp start Unbounded q ≡ test q) → inside ≡ entries_between cmp start Unbounded m.entries → TakesFirst deref_pair inside r rest → tree.IsOrdered cmp m → view cmp m ≡ now
    → option_map (λ p. p.0.now) r ≡ find test (map.keys now)
next-by {K = K} cmp total test start m now inside rest r in_range is taken ordered seen =
    first_taken inside rest r taken
    ∙ ap (λ es. option_map (λ e. e.0) (first es)) (is ∙ ap (λ (p : K → Bool). filter (λ e. p e.0) m.entries) (λ i q. in_range q i))
    ∙ find-filter test m.entries
    ∙ ap (find test) (sym (keys-view total m ordered) ∙ ap map.keys seen)

in_range-above : (key : Option ℕ) (q : ℕ) → range_contains nat_cmp (bound_above key) Unbounded q ≡ is_above key q
in_range-above None q = refl
in_range-above (Some key) q =
    elim (nat_lt key q) as (λ b. (is_lt (cond b Less (cond (key == q) Equal Greater)) && true) ≡ b) [
      | true ↦ refl
      | false ↦ elim (key == q) as (λ b. (is_lt (cond b Equal Greater) && true) ≡ false) [ true ↦ refl | false ↦ refl ]
    ]

pub next-above : {X : Type 0} (key : Option ℕ) (start : Bound ℕ) (m : BTreeMap ℕ X) (now : map.FinMap nat_cmp X) (inside rest : List (ℕ × X)) (r : Option (Bor ℕ × Bor X))
    → start ≡ bound_above key → inside ≡ entries_between nat_cmp start Unbounded m.entries → TakesFirst deref_pair inside r rest → tree.IsOrdered nat_cmp m → view nat_cmp m ≡ now
    → option_map (λ p. p.0.now) r ≡ find (is_above key) (map.keys now)
next-above key start m now inside rest r begins is =
    next-by nat_cmp nat_cmp_total (is_above key) (bound_above key) m now inside rest r (in_range-above key) (is ∙ ap (λ b. entries_between nat_cmp b Unbounded m.entries) begins)
