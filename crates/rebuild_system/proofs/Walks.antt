-- A walk over the entries of a map in order, by what it has not come to.
--     IsWalk m rest          what is left are entries of the map, each key once
--     IsWalk-all, IsWalk-next, next_there, next_left      at the beginning, and one entry further
--     IsWalk-begin, AreSeen-begin      where a list is all entries
--     left_all               at the beginning all keys are left
--     AreSeen P m rest       P of each entry that the walk has come to
--     AreSeen-all, AreSeen-next
--     some_left, any_all     whether a test finds a value that is left
use Rattle.std.proofs.Common.{◌≡◌, ◌||◌, Ordering, Bool, true, false, cond, T, List, [], ◌∷◌, map as mapped, refl, sym, ap, subst, ◌∙◌}
use Rattle.std.specs.Prelude.{Some, is_some}
use Rattle.std.specs.List.{list_any}
use Rattle.std.specs.Ordering.{is_eq, eq_by_cmp}
use Rattle.std.specs.Cmp.{IsTotalOrder}
use Rattle.std.specs.FinMap as map
use Rattle.std.specs.FinMap.{FinMap, IsAntisymmetric, is_sorted, find}
use Rattle.std.specs.FinMap.Entries.{below_all}
use Rattle.std.proofs.lemmas.Option.{same_Some}
use Rattle.views.proofs.MapLaws.{same_key, key_tied, true_false}
use Rattle.views.proofs.MapValues.{EachEntry, each_entry}
use Rattle.views.proofs.Passes.{first, second, less}
use Rattle.rebuild_system.specs.Making.{is_left}

pub record IsWalk {K X : Type 0} {R : K → K → Ordering} (m : FinMap R X) (rest : List (K × X)) : Type 0 where
  pub entries : EachEntry (λ k x. map.get m k ≡ Some x) rest
  pub sorted : T (is_sorted R rest)

abbrev pub AreSeen : {K X : Type 0} {R : K → K → Ordering} → (K → X → Type 0) → FinMap R X → List (K × X)
    → Type 0
AreSeen {K} {X} {R} P m rest = (k : K) (x : X) → map.get m k ≡ Some x → is_left R rest k ≡ false → P k x

-- of a test that no later entry can turn
pub either : (a b : Bool) → (a || b) ≡ false → (a ≡ false) × (b ≡ false)
either true b e = absurd (true_false e)
either false b e = (refl, e)

module _ {K X : Type 0} (R : K → K → Ordering) where
  not_below : (k : K) (es : List (K × X)) → T (below_all R k es) → is_left R es k ≡ false
  not_below k [] below = refl
  not_below k (e ∷ es) below =
      ap (λ r. is_eq r || is_left R es k) (less _ (first _ _ below)) ∙ not_below k es (second _ _ below)

  find_left : (q : K) (es : List (K × X)) → is_left R es q ≡ is_some (find R q es)
  find_left q [] = refl
  find_left q (e ∷ es) =
      elim (eq_by_cmp R q e.0) as (λ b. (b || is_left R es q) ≡ is_some (cond b (Some e.1) (find R q es))) [
        | true ↦ refl
        | false ↦ find_left q es
      ]

  pub left_all : (m : FinMap R X) (q : K) → is_left R (map.entries m) q ≡ is_some (map.get m q)
  left_all m q = find_left q (map.entries m) ∙ ap is_some (sym (map.get-entries m q))

module _ {K X : Type 0} {R : K → K → Ordering} (o : IsTotalOrder R) (exact : IsAntisymmetric R)
    (m : FinMap R X) where
  pub IsWalk-all : IsWalk m (map.entries m)
  IsWalk-all = record {
    entries = each_entry o exact (λ k x. map.get m k ≡ Some x) m (λ k x is. is);
    sorted = map.entries_sorted m;
  }

  pub AreSeen-all : (P : K → X → Type 0) → AreSeen P m (map.entries m)
  AreSeen-all P k x is seen = absurd (true_false (sym (left_all R m k ∙ ap is_some is) ∙ seen))

  pub IsWalk-begin : (es : List (K × X)) → es ≡ map.entries m → IsWalk m es
  IsWalk-begin es begins = subst (λ (fs : List (K × X)). IsWalk m fs) (sym begins) IsWalk-all

  pub AreSeen-begin : (P : K → X → Type 0) (es : List (K × X)) → es ≡ map.entries m → AreSeen P m es
  AreSeen-begin P es begins = subst (λ (fs : List (K × X)). AreSeen P m fs) (sym begins) (AreSeen-all P)

  module _ (e : K × X) (es : List (K × X)) (walk : IsWalk m (e ∷ es)) where
    pub IsWalk-next : IsWalk m es
    IsWalk-next = record { entries = walk.entries.1; sorted = second _ _ walk.sorted }

    pub next_there : map.get m e.0 ≡ Some e.1
    next_there = walk.entries.0

    -- its key does not come again
    pub next_left : is_left R es e.0 ≡ false
    next_left = not_below R e.0 es (first _ _ walk.sorted)

    pub AreSeen-next : (P : K → X → Type 0) → AreSeen P m (e ∷ es) → P e.0 e.1 → AreSeen P m es
    AreSeen-next P seen now k x is left =
        elim (eq_by_cmp R k e.0) as (λ b. eq_by_cmp R k e.0 ≡ b → P k x) [
          | true ↦ λ tied.
              let same : k ≡ e.0 = same_key o exact k e.0 tied in
              let value : x ≡ e.1 = same_Some x e.1 (sym is ∙ ap (map.get m) same ∙ walk.entries.0) in
              subst (λ q. P q x) (sym same) (subst (P e.0) (sym value) now)
          | false ↦ λ apart. seen k x is (ap (λ b. b || is_left R es k) apart ∙ left)
        ] refl

module _ {K X : Type 0} {R : K → K → Ordering} (p : X → Bool) (m : FinMap R X) where
  pub record IsLeftOne (es : List (K × X)) : Type 0 where
    pub key : K
    pub value : X
    pub there : map.get m key ≡ Some value
    pub passes : p value ≡ true
    pub left : is_left R es key ≡ true

  pub some_left : IsTotalOrder R → IsAntisymmetric R → (es : List (K × X))
      → EachEntry (λ k x. map.get m k ≡ Some x) es → list_any (λ e. p e.1) es ≡ true → IsLeftOne es
  some_left o exact [] each some = absurd (true_false (sym some))
  some_left o exact (e ∷ es) each some =
      elim (p e.1) as (λ b. p e.1 ≡ b → (b || list_any (λ e. p e.1) es) ≡ true → IsLeftOne (e ∷ es)) [
        | true ↦ λ passes _. record {
          key = e.0;
          value = e.1;
          there = each.0;
          passes = passes;
          left = ap (λ b. b || is_left R es e.0) (key_tied o exact e.0);
        }
        | false ↦ λ _ later. let one = some_left o exact es each.1 later in
            record {
              key = one.key;
              value = one.value;
              there = one.there;
              passes = one.passes;
              left = or_true (eq_by_cmp R one.key e.0) (is_left R es one.key) one.left;
            }
      ] refl some
    where
      or_true : (a b : Bool) → b ≡ true → (a || b) ≡ true
      or_true true b is = refl
      or_true false b is = is

  any_of_list : (es : List (K × X)) → list_any (λ e. p e.1) es ≡ list_any p (mapped (λ e. e.1) es)
  any_of_list [] = refl
  any_of_list (e ∷ es) = ap (λ b. p e.1 || b) (any_of_list es)

  pub any_all : list_any (λ e. p e.1) (map.entries m) ≡ list_any p (map.values m)
  any_all = any_of_list (map.entries m)
