-- Which threads are there: after one more and without one, and how many they are.
--     same_len      maps with the same keys have as many entries
use Rattle.std.proofs.Common.{◌≡◌, ℕ, Bool, true, false, cond, length, refl, sym, ap, subst, ◌∙◌, ⊎_elim}
use Rattle.std.specs.Prelude.{Option, Some, None, is_some, option_map}
use Rattle.std.specs.Ordering.{nat_cmp, eq_by_cmp}
use Rattle.std.specs.Cmp.{nat_cmp_total}
use Rattle.std.specs.FinMap as map
use Rattle.std.proofs.lemmas.List.{length-map}
use Rattle.plain_tables.specs.OfViews.Maps.{map_values}
use Rattle.plain_tables.proofs.OfViews.MapLaws.{get_insert_same, get_insert_other, same_or_other, true_false}
use Rattle.plain_tables.proofs.OfViews.MapValues.{get-map_values, entries-map_values}
use Rattle.plain_machine.specs.RowLaws.{without_one, with_one}

none_or_same : {X : Type 0} (b : Bool) (found : Option X) → is_some (cond b None found) ≡ cond b false (is_some found)
none_or_same true found = refl
none_or_same false found = refl

some_or_same : {X : Type 0} (b : Bool) (v : X) (found : Option X) → is_some (cond b (Some v) found) ≡ cond b true (is_some found)
some_or_same true v found = refl
some_or_same false v found = refl

module _ {X : Type 0} (threads : map.FinMap nat_cmp X) where
  pub there_without : (t u : ℕ) → is_some (map.get (map.remove threads t) u) ≡ without_one t u (is_some (map.get threads u))
  there_without t u = ap is_some (map.get-remove nat_cmp_total threads t u) ∙ none_or_same (eq_by_cmp nat_cmp u t) (map.get threads u)

  pub there_with : (new u : ℕ) (thread : X) → is_some (map.get (map.insert threads new thread) u) ≡ with_one (Some new) u (is_some (map.get threads u))
  there_with new u thread = ap is_some (map.get-insert nat_cmp_total threads new thread u) ∙ some_or_same (eq_by_cmp nat_cmp u new) thread (map.get threads u)

  pub same_there : (t : ℕ) (thread : X) → is_some (map.get threads t) ≡ true → (u : ℕ) → is_some (map.get (map.insert threads t thread) u) ≡ is_some (map.get threads u)
  same_there t thread there u = ⊎_elim
      (λ here. subst (λ k. is_some (map.get (map.insert threads t thread) k) ≡ is_some (map.get threads k)) (sym here)
      (ap is_some (get_insert_same nat_cmp_total map.nat_cmp-IsAntisymmetric threads t thread) ∙ sym there))
      (λ other. ap is_some (get_insert_other nat_cmp_total map.nat_cmp-IsAntisymmetric threads t thread u other))
      (same_or_other nat_cmp_total map.nat_cmp-IsAntisymmetric u t)

-- as many entries
abbrev pub key_only : {X : Type 0} → X → Unit {0}
key_only x = tt

same_presence : {X Y : Type 0} (a : Option X) (b : Option Y) → is_some a ≡ is_some b → option_map key_only a ≡ option_map key_only b
same_presence None None is = refl
same_presence None (Some y) is = true_false (sym is)
same_presence (Some x) None is = true_false is
same_presence (Some x) (Some y) is = refl

len_of_keys : {X : Type 0} (m : map.FinMap nat_cmp X) → map.len (map_values key_only m) ≡ map.len m
len_of_keys m =
    map.len-entries (map_values key_only m) ∙ ap length (entries-map_values key_only m) ∙ length-map (map.entries m) (λ e. (e.0, key_only e.1)) ∙ sym (map.len-entries m)

pub same_len : {X Y : Type 0} (m : map.FinMap nat_cmp X) (n : map.FinMap nat_cmp Y) → ((u : ℕ) → is_some (map.get m u) ≡ is_some (map.get n u)) → map.len m ≡ map.len n
same_len m n same =
    let keys : map_values key_only m ≡ map_values key_only n = map.same_map nat_cmp_total map.nat_cmp-IsAntisymmetric _ _ (λ u.
    get-map_values key_only m u ∙ same_presence (map.get m u) (map.get n u) (same u) ∙ sym (get-map_values key_only n u)) in
    sym (len_of_keys m) ∙ ap map.len keys ∙ len_of_keys n
