-- The first key of a map that passes a test, said of each key.
--     Finds R p look found      no key passes, or this is the least one that does
--     finds_key                 a search over the keys finds that
--     found_key                 and nothing else is that
use Rattle.std.proofs.Common.{◌≡◌, Ordering, Less, Equal, Greater, Bool, true, false, cond, T, List, [], ◌∷◌}
use Rattle.std.proofs.Common.{map as mapped, refl, sym, ap, subst, ◌∙◌}
use Rattle.std.specs.Prelude.{Option, Some, None}
use Rattle.std.specs.Prelude.{find as first_that}
use Rattle.std.specs.Ordering.{is_le, eq_by_cmp, ordering_reverse}
use Rattle.std.specs.Cmp.{IsTotalOrder, tied_itself}
use Rattle.std.specs.FinMap as map
use Rattle.std.specs.FinMap.{FinMap, IsAntisymmetric, is_sorted, find}
use Rattle.std.specs.FinMap.Entries.{below_all}
use Rattle.std.proofs.lemmas.Option.{none-some}
use Rattle.views.proofs.MapLaws.{true_false, key_tied, same_key}
use Rattle.views.proofs.Passes.{first, second, less}

pub record IsFirst {K X : Type 0} (R : K → K → Ordering) (p : K → Bool) (look : K → Option X)
    (k : K) : Type 0 where
  pub value : X
  pub there : look k ≡ Some value
  pub passes : p k ≡ true
  pub least : (q : K) (x : X) → look q ≡ Some x → p q ≡ true → is_le (R k q) ≡ true

abbrev pub Finds : {K X : Type 0} → (K → K → Ordering) → (K → Bool) → (K → Option X) → Option K → Type 0
Finds R p look None = (q : _) (x : _) → look q ≡ Some x → p q ≡ false
Finds R p look (Some k) = IsFirst R p look k

module _ {K : Type 0} {R : K → K → Ordering} (exact : IsAntisymmetric R) where
  both_least : (j k : K) (r : Ordering) → R j k ≡ r → is_le r ≡ true → is_le (ordering_reverse r) ≡ true
      → j ≡ k
  both_least j k Less is h i = true_false (sym i)
  both_least j k Equal is h i = exact j k is
  both_least j k Greater is h i = true_false (sym h)

module _ {K X : Type 0} {R : K → K → Ordering} (o : IsTotalOrder R) (exact : IsAntisymmetric R)
    (p : K → Bool) where
  above_found : (k : K) (es : List (K × X)) (q : K) (x : X) → T (below_all R k es) → find R q es ≡ Some x
      → R k q ≡ Less
  above_found k [] q x below is = absurd (none-some x is)
  above_found k (e ∷ es) q x below is =
      by_key (λ later. above_found k es q x (second _ _ below) later) (eq_by_cmp R q e.0) refl is
    where
      by_key : (find R q es ≡ Some x → R k q ≡ Less) → (b : Bool) → eq_by_cmp R q e.0 ≡ b
          → cond b (Some e.1) (find R q es) ≡ Some x → R k q ≡ Less
      by_key further true tied same = ap (R k) (same_key o exact q e.0 tied) ∙ less _ (first _ _ below)
      by_key further false apart later = further later

  module _ (e : K × X) (es : List (K × X)) where
    here : T (below_all R e.0 es) → p e.0 ≡ true → IsFirst R p (λ q. find R q (e ∷ es)) e.0
    here below passes = record {
      value = e.1;
      there = ap (λ b. cond b (Some e.1) (find R e.0 es)) (key_tied o exact e.0);
      passes = passes;
      least = λ q x is _. by_key q x (eq_by_cmp R q e.0) refl is;
    }
      where
        by_key : (q : K) (x : X) (b : Bool) → eq_by_cmp R q e.0 ≡ b → cond b (Some e.1) (find R q es) ≡ Some x
            → is_le (R e.0 q) ≡ true
        by_key q x true tied is =
            ap (λ y. is_le (R e.0 y)) (same_key o exact q e.0 tied) ∙ ap is_le (tied_itself o e.0)
        by_key q x false apart is = ap is_le (above_found e.0 es q x below is)

    module _ (fails : p e.0 ≡ false) where
      other : (q : K) → p q ≡ true → eq_by_cmp R q e.0 ≡ false
      other q passes = by_key (eq_by_cmp R q e.0) refl
        where
          by_key : (b : Bool) → eq_by_cmp R q e.0 ≡ b → b ≡ false
          by_key true tied = true_false (sym passes ∙ ap p (same_key o exact q e.0 tied) ∙ fails)
          by_key false apart = refl

      further : (q : K) → p q ≡ true → find R q (e ∷ es) ≡ find R q es
      further q passes = ap (λ b. cond b (Some e.1) (find R q es)) (other q passes)

      later : (found : Option K) → Finds R p (λ q. find R q es) found
          → Finds R p (λ q. find R q (e ∷ es)) found
      later None none = λ q x is. by_test q x is (p q) refl
        where
          by_test : (q : K) (x : X) → find R q (e ∷ es) ≡ Some x → (b : Bool) → p q ≡ b → p q ≡ false
          by_test q x is true passes = none q x (sym (further q passes) ∙ is)
          by_test q x is false fails = fails
      later (Some k) is = record {
        value = is.value;
        there = further k is.passes ∙ is.there;
        passes = is.passes;
        least = λ q x at passes. is.least q x (sym (further q passes) ∙ at) passes;
      }

  finds_in : (es : List (K × X)) → T (is_sorted R es)
      → Finds R p (λ q. find R q es) (first_that p (mapped (λ e. e.0) es))
  finds_in [] sorted = λ q x is. absurd (none-some x is)
  finds_in (e ∷ es) sorted =
      elim (p e.0) as (λ b. p e.0 ≡ b → Finds R p (λ q. find R q (e ∷ es))
      (cond b (Some e.0) (first_that p (mapped (λ e. e.0) es)))) [
        | true ↦ λ passes. here e es (first _ _ sorted) passes
        | false ↦ λ fails. later e es fails _ (finds_in es (second _ _ sorted))
      ] refl

  pub finds_key : (m : FinMap R X) → Finds R p (map.get m) (first_that p (map.keys m))
  finds_key m =
      subst (λ look. Finds R p look (first_that p (map.keys m))) (λ i q. sym (map.get-entries m q) i)
      (finds_in (map.entries m) (map.entries_sorted m))

  one_found : (look : K → Option X) (a b : Option K) → Finds R p look a → Finds R p look b → a ≡ b
  one_found look None None f g = refl
  one_found look None (Some k) f g = true_false (sym g.passes ∙ f k g.value g.there)
  one_found look (Some j) None f g = true_false (sym f.passes ∙ g j f.value f.there)
  one_found look (Some j) (Some k) f g =
      ap Some (both_least exact j k (R j k) refl (f.least k g.value g.there g.passes)
      (sym (ap is_le (o.antisymm k j)) ∙ g.least j f.value f.there f.passes))

  pub found_key : (m : FinMap R X) (found : Option K) → Finds R p (map.get m) found
      → first_that p (map.keys m) ≡ found
  found_key m found is = one_found (map.get m) (first_that p (map.keys m)) found (finds_key m) is
