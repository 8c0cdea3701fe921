-- Two maps under the same keys, of which tests hold at the same ones.
--     any_alike      a test holds somewhere in one as another does in the other
use Rattle.std.proofs.Common.{◌≡◌, Bool, true, false, Some, refl, sym, ◌∙◌}
use Rattle.std.specs.List.{list_any}
use Rattle.std.specs.declared.cmp.Ordering.{Ordering}
use Rattle.std.specs.Cmp.{IsTotalOrder}
use Rattle.std.specs.FinMap as map
use Rattle.std.specs.FinMap.{FinMap, IsAntisymmetric}
use Rattle.std.proofs.lemmas.Bool.{false_from_ne_true}
use Rattle.views.proofs.MapLaws.{true_false}
use Rattle.views.proofs.MapValues.{none_among-values, some_among-values}

same_bool : (b c : Bool) → (c ≡ false → b ≡ false) → (b ≡ false → c ≡ false) → b ≡ c
same_bool true true h i = refl
same_bool false false h i = refl
same_bool true false h i = h refl
same_bool false true h i = sym (i refl)

module _ {K : Type 0} {R : K → K → Ordering} (o : IsTotalOrder R) (exact : IsAntisymmetric R) where
  abbrev pub HoldsThere : {X Y : Type 0} → FinMap R X → FinMap R Y → (X → Bool) → (Y → Bool) → Type 0
  HoldsThere {X} {Y} a b p q =
      (k : K) (x : X) → map.get a k ≡ Some x → p x ≡ true
      → (y : Y) × ((map.get b k ≡ Some y) × (q y ≡ true))

  none_by : {X Y : Type 0} (a : FinMap R X) (b : FinMap R Y) (p : X → Bool) (q : Y → Bool)
      → HoldsThere a b p q → list_any q (map.values b) ≡ false → list_any p (map.values a) ≡ false
  none_by a b p q there none = none_among-values o exact p a (λ k x is.
      false_from_ne_true (p x) (λ passes.
      let y = there k x is passes in
      true_false (sym (some_among-values o exact q b k y.0 y.1.0 y.1.1) ∙ none)))

  pub any_alike : {X Y : Type 0} (a : FinMap R X) (b : FinMap R Y) (p : X → Bool) (q : Y → Bool)
      → HoldsThere a b p q → HoldsThere b a q p → list_any p (map.values a) ≡ list_any q (map.values b)
  any_alike a b p q there back = same_bool _ _ (none_by a b p q there) (none_by b a q p back)
