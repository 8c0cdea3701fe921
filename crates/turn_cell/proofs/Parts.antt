-- What stands under a number, in the maps that turns, cuts and joins make.
use Rattle.std.proofs.Common.{◌≡◌, ◌≢◌, ◌⊎◌, inl, inr, ℕ, Bool, true, false, cond, not, ◌||◌, List, [], ◌∷◌, ◌++◌, refl, sym, ap, ◌∙◌}
use Rattle.std.specs.Prelude.{Option, Some, None, is_some}
use Rattle.std.specs.Ordering.{nat_cmp, eq_by_cmp}
use Rattle.std.specs.Cmp.{nat_cmp_total}
use Rattle.std.specs.FinMap as map
use Rattle.std.specs.FinMap.{FinMap, find}
use Rattle.views.proofs.MapLaws.{true_false, get-retain, retain_all, same_or_other, get_remove_same, get_remove_other, get_insert_same, get_insert_other}
use Rattle.turn_cell.specs.Turns.{is_held, HoldsAll, KeepsOthers, is_own, own, only, only_of, merged}

abbrev pub exact : map.IsAntisymmetric nat_cmp
exact = map.nat_cmp-IsAntisymmetric

passed : {A : Type 0} (b : Bool) (x : Option A) (y : A) → cond b x None ≡ Some y → (b ≡ true) × (x ≡ Some y)
passed true x y is = (refl, is)
passed false x y is = absurd (cc is)

-- what is found where something is
pub found : {A : Type 0} (x : Option A) → is_some x ≡ true → (y : A) × (x ≡ Some y)
found (Some y) is = (y, refl)
found None is = true_false (sym is)

module _ {P : Type 0} where
  pub nothing_there : (n : ℕ) (x : P) → map.get {R = nat_cmp} map.empty n ≡ Some x → ⊥
  nothing_there n x is = let none : map.get {X = P} {R = nat_cmp} map.empty n ≡ None = map.get-empty nat_cmp n in cc (none, is)

  pub in_own : (held before after : FinMap nat_cmp P) (n : ℕ) (x : P) → map.get (own held before after) n ≡ Some x → (is_own held before n ≡ true) × (map.get after n ≡ Some x)
  in_own held before after n x is = passed (is_own held before n) (map.get after n) x (sym (get-retain nat_cmp_total exact after (is_own held before) n) ∙ is)

  -- a number that is held, or that had nothing
  pub held_or_new : (held before : FinMap nat_cmp P) (n : ℕ) → is_own held before n ≡ true → ((x : P) × (map.get held n ≡ Some x)) ⊎ (map.get before n ≡ None)
  held_or_new held before n is = by (map.get held n) (map.get before n) is
    where
      by : (h b : Option P) → (is_some h || not (is_some b)) ≡ true → ((x : P) × (h ≡ Some x)) ⊎ (b ≡ None)
      by (Some x) b is = inl (x, refl)
      by None None is = inr refl
      by None (Some y) is = true_false (sym is)

  pub own_all : (after : FinMap nat_cmp P) → own map.empty map.empty after ≡ after
  own_all after = retain_all nat_cmp_total exact after (is_own map.empty map.empty) (λ n x is.
      let none : map.get {X = P} {R = nat_cmp} map.empty n ≡ None = map.get-empty nat_cmp n in
      ap (λ (h : Option P). is_some h || not (is_some h)) none)

  pub in_remove : (parts : FinMap nat_cmp P) (k n : ℕ) (x : P) → map.get (map.remove parts k) n ≡ Some x → (n ≢ k) × (map.get parts n ≡ Some x)
  in_remove parts k n x is = by (same_or_other nat_cmp_total exact n k)
    where
      by : (n ≡ k) ⊎ (n ≢ k) → (n ≢ k) × (map.get parts n ≡ Some x)
      by (inl same) = let none : map.get (map.remove parts k) n ≡ None = ap (map.get (map.remove parts k)) same ∙ get_remove_same nat_cmp_total exact parts k in absurd (cc (none, is))
      by (inr other) = (other, sym (get_remove_other nat_cmp_total exact parts k n other) ∙ is)

  pub in_only : (k : ℕ) (parts : FinMap nat_cmp P) (n : ℕ) (x : P) → map.get (only k parts) n ≡ Some x → (n ≡ k) × (map.get parts n ≡ Some x)
  in_only k parts n x is = by (map.get parts k) refl is (same_or_other nat_cmp_total exact n k)
    where
      by : (found : Option P) → map.get parts k ≡ found → map.get (only_of k found) n ≡ Some x → (n ≡ k) ⊎ (n ≢ k) → (n ≡ k) × (map.get parts n ≡ Some x)
      by None at is _ = absurd (nothing_there n x is)
      by (Some y) at is (inl same) = (same, ap (map.get parts) same ∙ (at ∙ (sym (get_insert_same nat_cmp_total exact map.empty k y) ∙ (ap (map.get (map.insert map.empty k y)) (sym same) ∙ is))))
      by (Some y) at is (inr other) = absurd (nothing_there n x (sym (get_insert_other nat_cmp_total exact map.empty k y n other) ∙ is))

  found_in : (q : ℕ) (es fs : List (ℕ × P)) (x : P) → find nat_cmp q (es ++ fs) ≡ Some x → (find nat_cmp q es ≡ Some x) ⊎ (find nat_cmp q fs ≡ Some x)
  found_in q [] fs x is = inr is
  found_in q (e ∷ es) fs x is = by (eq_by_cmp nat_cmp q e.0) is (found_in q es fs x)
    where
      by : (b : Bool) → cond b (Some e.1) (find nat_cmp q (es ++ fs)) ≡ Some x → (find nat_cmp q (es ++ fs) ≡ Some x → (find nat_cmp q es ≡ Some x) ⊎ (find nat_cmp q fs ≡ Some x))
          → (cond b (Some e.1) (find nat_cmp q es) ≡ Some x) ⊎ (find nat_cmp q fs ≡ Some x)
      by true is rest = inl is
      by false is rest = rest is

  pub in_merged : (first second : FinMap nat_cmp P) (n : ℕ) (x : P) → map.get (merged first second) n ≡ Some x → (map.get first n ≡ Some x) ⊎ (map.get second n ≡ Some x)
  in_merged first second n x is = by (found_in n (map.entries first) (map.entries second) x (sym (map.get-from_entries nat_cmp_total (map.entries first ++ map.entries second) n) ∙ is))
    where
      by : (find nat_cmp n (map.entries first) ≡ Some x) ⊎ (find nat_cmp n (map.entries second) ≡ Some x) → (map.get first n ≡ Some x) ⊎ (map.get second n ≡ Some x)
      by (inl at) = inl (map.get-entries first n ∙ at)
      by (inr at) = inr (map.get-entries second n ∙ at)

  -- what an act keeps under the numbers that it may not change it keeps under those that are not held
  pub keeps_rest : (held before after : FinMap nat_cmp P) (changes : ℕ → Bool) → HoldsAll held changes → KeepsOthers changes before after → KeepsOthers (is_held held) before after
  keeps_rest held before after changes all keeps n x other is = by (changes n) refl
    where
      by : (b : Bool) → changes n ≡ b → map.get after n ≡ Some x
      by false may_not = keeps n x may_not is
      by true may = true_false (sym (all n may) ∙ other)

  -- a number that was held is held on where something stands there still
  pub still_held : (held before after : FinMap nat_cmp P) (n : ℕ) → is_held held n ≡ true → is_held after n ≡ true → is_held (own held before after) n ≡ true
  still_held held before after n had there =
      ap is_some (get-retain nat_cmp_total exact after (is_own held before) n) ∙ ap (λ b. is_some (cond (b || not (is_held before n)) (map.get after n) None)) had ∙ there

  -- what is held after a number was cut off
  pub held_beside : (parts : FinMap nat_cmp P) (k n : ℕ) → n ≢ k → is_held (map.remove parts k) n ≡ is_held parts n
  held_beside parts k n other = ap is_some (get_remove_other nat_cmp_total exact parts k n other)

  pub held_alone : (n : ℕ) (parts : FinMap nat_cmp P) → is_held parts n ≡ true → is_held (only n parts) n ≡ true
  held_alone n parts is = by (map.get parts n) is
    where
      by : (x : Option P) → is_some x ≡ true → is_held (only_of n x) n ≡ true
      by (Some x) _ = ap is_some (get_insert_same nat_cmp_total exact map.empty n x)
      by None none = true_false (sym none)
