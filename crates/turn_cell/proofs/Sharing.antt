-- Passes that are split, joined and compared, and the first one, keep the rule.
use Rattle.std.proofs.Common.{◌≡◌, ◌≢◌, ◌⊎◌, inl, inr, ℕ, zero, suc, ◌≤◌, Bool, true, false, List, [], ◌∷◌, ◌++◌, length, set, refl, sym, ap, ◌∙◌, subst, arith}
use Rattle.std.specs.Prelude.{Option, Some, None, slice_index, nat_le, if◌then◌else◌}
use Rattle.std.specs.Ordering.{nat_cmp}
use Rattle.std.specs.FinMap as map
use Rattle.std.specs.FinMap.{FinMap}
use mathlib.Core.Option.{none, some, some-injective, some-ne-none}
use mathlib.Core.List.{IsPrefix}
use lib.ListN.{get_elem?}
use Rattle.atomic_table.specs.Table.{State, keeps, step, Allows, Splits, Joins, opening}
use Rattle.atomic_table.proofs.Lists.{set_else}
use Rattle.turn_cell.specs.declared.view.Turn.TheVariants.{Waits}
use Rattle.turn_cell.specs.declared.view.View.{View}
use Rattle.turn_cell.specs.Turns.{longer, shorter, merged, only}
use Rattle.turn_cell.specs.Views.{view, newcomer, spent}
use Rattle.turn_cell.specs.Rule.{Apart, Fits, HasTurn, IsFree, IsTaken}
use Rattle.turn_cell.specs.Steps.{Sat, compared}
use Rattle.turn_cell.proofs.Prefixes.{prefix_empty, prefix_shorter}
use Rattle.turn_cell.proofs.Parts.{nothing_there, in_remove, in_only, in_merged}
use Rattle.turn_cell.proofs.Keeping.{IsApartFrom, apart_set, shrunk, same_parts, each_set, same_word, Kept}

set_apart : {A : Type 0} (xs : List A) (i j : ℕ) (a b : A) → i ≢ j → set (set xs i a) j b ≡ set (set xs j b) i a
set_apart [] i j a b differ = refl
set_apart (x ∷ xs) zero zero a b differ = absurd (differ refl)
set_apart (x ∷ xs) zero (suc j) a b differ = refl
set_apart (x ∷ xs) (suc i) zero a b differ = refl
set_apart (x ∷ xs) (suc i) (suc j) a b differ = ap (λ ys. x ∷ ys) (set_apart xs i j a b (λ same. differ (ap suc same)))

at_end : {A : Type 0} (xs : List A) (a b : A) (j : ℕ) → get_elem? (xs ++ a ∷ []) j ≡ some b → (get_elem? xs j ≡ some b) ⊎ ((j ≡ length xs) × (a ≡ b))
at_end [] a b zero is = inr (refl, some-injective a b is)
at_end [] a b (suc j) is = absurd (some-ne-none b (sym is))
at_end (x ∷ xs) a b zero is = inl is
at_end (x ∷ xs) a b (suc j) is = by (at_end xs a b j is)
  where
    by : (get_elem? xs j ≡ some b) ⊎ ((j ≡ length xs) × (a ≡ b)) → (get_elem? xs j ≡ some b) ⊎ ((suc j ≡ suc (length xs)) × (a ≡ b))
    by (inl there) = inl there
    by (inr last) = inr (ap suc last.0, last.1)

longer_fits : {A : Type 0} (log first second : List A) (b : Bool) → IsPrefix first log → IsPrefix second log → IsPrefix (if b then first else second) log
longer_fits log first second true one other = one
longer_fits log first second false one other = other

module _ {E P : Type 0} where
  apart_end : (views : List (View E P)) (w : View E P) → Apart views
      → ((k : ℕ) (v : View E P) → get_elem? views k ≡ some v → (n : ℕ) (x y : P) → map.get w.parts n ≡ Some x → map.get v.parts n ≡ Some y → ⊥) → Apart (views ++ w ∷ [])
  apart_end views w apart new j k u v at_j at_k differ n x y in_u in_v = by (at_end views w u j at_j) (at_end views w v k at_k)
    where
      by : (get_elem? views j ≡ some u) ⊎ ((j ≡ length views) × (w ≡ u)) → (get_elem? views k ≡ some v) ⊎ ((k ≡ length views) × (w ≡ v)) → ⊥
      by (inl a) (inl b) = apart j k u v a b differ n x y in_u in_v
      by (inl a) (inr b) = new j u a n y x (ap (λ (z : View E P). map.get z.parts n) b.1 ∙ in_v) in_u
      by (inr a) (inl b) = new k v b n x y (ap (λ (z : View E P). map.get z.parts n) a.1 ∙ in_u) in_v
      by (inr a) (inr b) = differ (a.0 ∙ sym b.0)

  holds_nothing : (views : List (View E P)) (id : ℕ) → IsApartFrom views id spent
  holds_nothing views id k v at differ n x y is also = nothing_there n x is

  spent_fits : (log : List E) (all : FinMap nat_cmp P) → Fits log all spent
  spent_fits log all = record { seen = prefix_empty log; met = prefix_empty log; held = λ n x is. absurd (nothing_there n x is) }

  abbrev pub left_of : ℕ → View E P → View E P
  left_of n v = view v.seen [] (map.remove v.parts n) Waits

  abbrev pub right_of : ℕ → View E P → View E P
  right_of n v = view v.seen [] (only n v.parts) Waits

  abbrev pub joined : View E P → View E P → View E P
  joined v w = view (longer v.seen w.seen) (shorter v.seen w.seen) (merged v.parts w.parts) Waits

  joined_fits : (log : List E) (all : FinMap nat_cmp P) (v w : View E P) → Fits log all v → Fits log all w → Fits log all (joined v w)
  joined_fits log all v w one other = record {
    seen = longer_fits log v.seen w.seen (nat_le (length w.seen) (length v.seen)) one.seen other.seen;
    met = longer_fits log w.seen v.seen (nat_le (length w.seen) (length v.seen)) other.seen one.seen;
    held = λ n x is. by n x (in_merged v.parts w.parts n x is);
  }
    where
      by : (n : ℕ) (x : P) → (map.get v.parts n ≡ Some x) ⊎ (map.get w.parts n ≡ Some x) → map.get all n ≡ Some x
      by n x (inl is) = one.held n x is
      by n x (inr is) = other.held n x is

  module _ {S : Type 0} (history : S → List E) (parts : S → FinMap nat_cmp P) where
    abbrev Rule : State (Option S) (View E P) → Type 0
    Rule = Kept history parts

    -- views that fit what the views before fitted, and have no turn that none had
    rewoven : (s : State (Option S) (View E P)) (views : List (View E P)) → Rule s → Apart views
        → ((log : List E) (all : FinMap nat_cmp P) → ((k : ℕ) (v : View E P) → get_elem? s.views k ≡ some v → Fits log all v) → (k : ℕ) (v : View E P) → get_elem? views k ≡ some v → Fits log all v)
        → ((k : ℕ) (v : View E P) → get_elem? views k ≡ some v → (v.turn ≡ Waits) ⊎ ((w : View E P) × (get_elem? s.views k ≡ some w) × (w.turn ≡ v.turn)))
        → Rule record { words = s.words; homes = s.homes; views = views }
    rewoven s views kept apart fits turns = record {
      word = kept.word;
      apart = apart;
      free = λ is. let free = kept.free is in record {
        value = free.value;
        home = free.home;
        each = λ k v at. (waits free k v (turns k v at), fits (history free.value) (parts free.value) (λ j w there. (free.each j w there).1) k v at);
      };
      taken = λ is. let taken = kept.taken is in record {
        holder = taken.holder;
        log = taken.log;
        all = taken.all;
        each = λ k v at. (fits taken.log taken.all (λ j w there. (taken.each j w there).0) k v at, has taken k v (turns k v at));
      };
    }
      where
        waits : (free : IsFree history parts s) (k : ℕ) (v : View E P) → (v.turn ≡ Waits) ⊎ ((w : View E P) × (get_elem? s.views k ≡ some w) × (w.turn ≡ v.turn)) → v.turn ≡ Waits
        waits free k v (inl is) = is
        waits free k v (inr had) = sym had.2 ∙ (free.each k had.0 had.1).0

        has : (taken : IsTaken history parts s) (k : ℕ) (v : View E P) → (v.turn ≡ Waits) ⊎ ((w : View E P) × (get_elem? s.views k ≡ some w) × (w.turn ≡ v.turn)) → HasTurn s.homes taken.holder taken.log taken.all k v.turn
        has taken k v (inl is) = subst (HasTurn s.homes taken.holder taken.log taken.all k) (sym is) tt
        has taken k v (inr had) = subst (HasTurn s.homes taken.holder taken.log taken.all k) had.2 (taken.each k had.0 had.1).1

    -- ---- the first pass

    pub opens : Rule (opening (1 ∷ []) (None ∷ []) newcomer)
    opens = record {
      word = refl;
      apart = alone;
      free = λ is. absurd (omega (arith, is));
      taken = λ _. record { holder = 0; log = []; all = map.empty; each = each };
    }
      where
        alone : Apart (newcomer {E = E} {P = P} ∷ [])
        alone zero zero u v at_j at_k differ n x y in_u in_v = differ refl
        alone zero (suc k) u v at_j at_k differ n x y in_u in_v = some-ne-none v (sym at_k)
        alone (suc j) k u v at_j at_k differ n x y in_u in_v = some-ne-none u (sym at_j)

        each : (k : ℕ) (v : View E P) → get_elem? (newcomer ∷ []) k ≡ some v → Fits [] map.empty v × HasTurn {S = S} (some None ∷ []) 0 [] map.empty k v.turn
        each zero v at = subst (λ (z : View E P). Fits [] map.empty z × HasTurn {S = S} (some None ∷ []) 0 [] map.empty 0 z.turn) (some-injective newcomer v at)
            (record { seen = prefix_empty []; met = prefix_empty []; held = λ n x is. is }, (refl, refl, refl, refl))
        each (suc k) v at = absurd (some-ne-none v (sym at))

    -- ---- what two passes had seen

    pub compare_keeps : (slots id : ℕ) (me : Sat S E P) → Allows Rule slots id me 0 (λ n. n) (compared (step slots 0 0 0 none) me)
    compare_keeps slots id me s kept sized at small =
        let v = me.0 in
        let w : View E P = view v.seen [] v.parts v.turn in
        let views = set s.views id w in (
          w,
          keeps,
          tt,
          subst (λ ws. Rule record { words = ws; homes = s.homes; views = views }) (sym (same_word s.words kept.word))
              (rewoven s views kept (apart_set s.views id w kept.apart (same_parts s.views id v w kept.apart at refl))
              (λ log all fits. each_set (λ k u. Fits log all u) s.views id w (let mine = fits id v at in record { seen = mine.seen; met = prefix_empty log; held = mine.held }) (λ k u there _. fits k u there))
              (each_set (λ k u. (u.turn ≡ Waits) ⊎ ((z : View E P) × (get_elem? s.views k ≡ some z) × (z.turn ≡ u.turn))) s.views id w (inr (v, at, refl)) (λ k u there _. inr (u, there, refl)))),
          (refl, λ less. begins s kept id v at less),
        )
      where
        begins : (s : State (Option S) (View E P)) → Rule s → (id : ℕ) (v : View E P) → get_elem? s.views id ≡ some v → length v.met ≤ length v.seen → IsPrefix v.met v.seen
        begins s kept id v at less = by (slice_index s.words 0) refl
          where
            by : (n : ℕ) → slice_index s.words 0 ≡ n → IsPrefix v.met v.seen
            by zero is = let free = kept.free is in let mine = (free.each id v at).1 in prefix_shorter v.met v.seen (history free.value) mine.met mine.seen less
            by (suc n) is = let taken = kept.taken (λ none. omega (arith, is, none)) in let mine = (taken.each id v at).0 in prefix_shorter v.met v.seen taken.log mine.met mine.seen less

    -- ---- a number is cut off

    pub split_keeps : (id : ℕ) (v : View E P) (n : ℕ) → v.turn ≡ Waits → Splits Rule id v (left_of n v) (right_of n v)
    split_keeps id v n waits s kept at =
        rewoven s (set s.views id (left_of n v) ++ (right_of n v) ∷ []) kept
        (apart_end (set s.views id (left_of n v)) (right_of n v)
        (apart_set s.views id (left_of n v) kept.apart (shrunk s.views id v (left_of n v) kept.apart at (λ q x is. (in_remove v.parts n q x is).1)))
        (each_set (λ k u. (q : ℕ) (x y : P) → map.get (right_of n v).parts q ≡ Some x → map.get u.parts q ≡ Some y → ⊥) s.views id (left_of n v)
        (λ q x y is also. (in_remove v.parts n q y also).0 (in_only n v.parts q x is).0)
        (λ k u there differ q x y is also. kept.apart id k v u at there (λ same. differ (sym same)) q x y (in_only n v.parts q x is).1 also)))
        (λ log all fits k u there. fitting log all fits k u (at_end (set s.views id (left_of n v)) (right_of n v) u k there))
        (λ k u there. turning k u (at_end (set s.views id (left_of n v)) (right_of n v) u k there))
      where
        fitting : (log : List E) (all : FinMap nat_cmp P) → ((k : ℕ) (u : View E P) → get_elem? s.views k ≡ some u → Fits log all u) → (k : ℕ) (u : View E P)
            → (get_elem? (set s.views id (left_of n v)) k ≡ some u) ⊎ ((k ≡ length (set s.views id (left_of n v))) × ((right_of n v) ≡ u)) → Fits log all u
        fitting log all fits k u (inl there) =
            each_set (λ k u. Fits log all u) s.views id (left_of n v)
            (let mine = fits id v at in record { seen = mine.seen; met = prefix_empty log; held = λ q x is. mine.held q x (in_remove v.parts n q x is).1 }) (λ k u there _. fits k u there) k u there
        fitting log all fits k u (inr last) = subst (Fits log all) last.1
            (let mine = fits id v at in record { seen = mine.seen; met = prefix_empty log; held = λ q x is. mine.held q x (in_only n v.parts q x is).1 })

        turning : (k : ℕ) (u : View E P) → (get_elem? (set s.views id (left_of n v)) k ≡ some u) ⊎ ((k ≡ length (set s.views id (left_of n v))) × ((right_of n v) ≡ u))
            → (u.turn ≡ Waits) ⊎ ((z : View E P) × (get_elem? s.views k ≡ some z) × (z.turn ≡ u.turn))
        turning k u (inl there) = each_set (λ k u. (u.turn ≡ Waits) ⊎ ((z : View E P) × (get_elem? s.views k ≡ some z) × (z.turn ≡ u.turn))) s.views id (left_of n v) (inl refl) (λ k u there _. inr (u, there, refl)) k u there
        turning k u (inr last) = inl (ap (λ (z : View E P). z.turn) (sym last.1))

    -- ---- two passes become one

    pub join_keeps : (id : ℕ) (v : View E P) (other : ℕ) (w : View E P) → Joins Rule id v other w (joined v w) spent
    join_keeps id v other w s kept at differ there =
        let both : View E P = joined v w in
        let at_other : get_elem? s.views other ≡ some w = sym (set_else s.views id other both differ) ∙ there in
        subst (λ vs. Rule record { words = s.words; homes = s.homes; views = vs }) (sym (set_apart s.views id other both spent (λ same. differ (sym same))))
        (rewoven s (set (set s.views other spent) id both) kept
        (apart_set (set s.views other spent) id both (apart_set s.views other spent kept.apart (holds_nothing s.views other))
        (λ k u at_k not_id q x y is also.
        each_set (λ k u. k ≢ id → map.get u.parts q ≡ Some y → ⊥) s.views other spent (λ _ held. nothing_there q y held)
        (λ k u at_k not_other not_id held. disjoint at_other k u at_k not_id not_other q x y (in_merged v.parts w.parts q x is) held) k u at_k not_id also))
        (λ log all fits. each_set (λ k u. Fits log all u) (set s.views other spent) id both (joined_fits log all v w (fits id v at) (fits other w at_other))
        (λ k u at_k _. each_set (λ k u. Fits log all u) s.views other spent (spent_fits log all) (λ k u at_k _. fits k u at_k) k u at_k))
        (each_set (λ k u. (u.turn ≡ Waits) ⊎ ((z : View E P) × (get_elem? s.views k ≡ some z) × (z.turn ≡ u.turn))) (set s.views other spent) id both (inl refl)
        (λ k u at_k _. each_set (λ k u. (u.turn ≡ Waits) ⊎ ((z : View E P) × (get_elem? s.views k ≡ some z) × (z.turn ≡ u.turn))) s.views other spent (inl refl) (λ k u at_k _. inr (u, at_k, refl)) k u at_k)))
      where
        disjoint : get_elem? s.views other ≡ some w → (k : ℕ) (u : View E P) → get_elem? s.views k ≡ some u → k ≢ id → k ≢ other → (q : ℕ) (x y : P)
            → (map.get v.parts q ≡ Some x) ⊎ (map.get w.parts q ≡ Some x) → map.get u.parts q ≡ Some y → ⊥
        disjoint at_other k u at_k not_id not_other q x y (inl is) held = kept.apart id k v u at at_k (λ same. not_id (sym same)) q x y is held
        disjoint at_other k u at_k not_id not_other q x y (inr is) held = kept.apart other k w u at_other at_k (λ same. not_other (sym same)) q x y is held
