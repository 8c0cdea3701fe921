-- A `BTreeMap` whose stored keys are seen as other values, as a `Vec` as the list of its items: the map of its entries, each with what its key
-- is seen as. The order and the laws are those of what the keys are seen as.
--     find-seen, get-found      a look-up in the map is one in the tree
--     inserted_seen, removed_seen      what an insert and a removal do to the map
--     entries-seen, len-seen, values-seen      the map's entries are the tree's
--     copied_seen        one turn of a copy from the back
use Rattle.std.proofs.Common.{◌≡◌, Ordering, Less, Equal, Greater, true, false, cond, List, [], ◌∷◌, ◌++◌, suc, length, map as mapped, refl, sym, ap, ◌∙◌}
use Rattle.std.specs.Prelude.{Option, Some, None}
use Rattle.std.specs.Ordering.{is_eq, eq_by_cmp, match_ordering}
use Rattle.std.specs.Cmp.{IsTotalOrder, eq_by_cmp_equiv}
use Rattle.std.specs.List.{AllByRecursion}
use Rattle.std.specs.List.Sorted.{IsStrictlySortedBy}
use Rattle.std.specs.BTreeMap.{insert_entry}
use Rattle.std.specs.FinMap as map
use Rattle.std.specs.FinMap.{IsAntisymmetric, find}
use Rattle.std.specs.Map.{keys_of, values_of, lookup, KeepsOthers, IsKeyTest, AreApart}
use Rattle.views.proofs.TreeMaps.{entries-from_entries, copied_one}
use Rattle.views.proofs.MapLaws.{same_key}

module _ {J K X : Type 0} (shows : J → K) where
  abbrev pub seen : List (J × X) → List (K × X)
  seen es = mapped (λ e. (shows e.0, e.1)) es

  module _ (R : K → K → Ordering) where
    pub find-seen : (q : K) (es : List (J × X)) → find R q (seen es) ≡ lookup (λ j. is_eq (R q (shows j))) es
    find-seen q [] = refl
    find-seen q (e ∷ es) = ap (cond (eq_by_cmp R q (shows e.0)) (Some e.1)) (find-seen q es)

    below_seen : (j : J) (es : List (J × X)) → AllByRecursion (λ i. R (shows j) (shows i) ≡ Less) (keys_of es) → AllByRecursion (λ k. R (shows j) k ≡ Less) (keys_of (seen es))
    below_seen j [] below = tt
    below_seen j (e ∷ es) below = (below.0, below_seen j es below.1)

    sorted_seen : (es : List (J × X)) → IsStrictlySortedBy (λ i j. R (shows i) (shows j)) (keys_of es) → IsStrictlySortedBy R (keys_of (seen es))
    unfolding IsStrictlySortedBy
    sorted_seen [] sorted = tt
    sorted_seen (e ∷ es) sorted = (below_seen e.0 es sorted.0, sorted_seen es sorted.1)

  module _ {R : K → K → Ordering} (o : IsTotalOrder R) (exact : IsAntisymmetric R) where
    -- the clause `ordered` of `len` and `iter` is the premise
    pub entries-seen : (es : List (J × X)) → IsStrictlySortedBy (λ i j. R (shows i) (shows j)) (keys_of es) → map.entries (map.from_entries {R = R} (seen es)) ≡ seen es
    entries-seen es sorted = entries-from_entries o (seen es) (sorted_seen R es sorted)

    -- after a change at k alone, which leaves w there. The premises are the clauses `updates.1` and `updates.3`
    find_after : (k q : K) (w : Option X) (es fs : List (J × X)) → lookup (λ j. is_eq (R k (shows j))) fs ≡ w
        → KeepsOthers (eq_by_cmp (λ i j. R (shows i) (shows j))) (λ j. is_eq (R k (shows j))) es fs
        → find R q (seen fs) ≡ cond (eq_by_cmp R q k) w (find R q (seen es))
    unfolding KeepsOthers
    find_after k q w es fs here others =
        elim (eq_by_cmp R q k) as (λ b. eq_by_cmp R q k ≡ b → find R q (seen fs) ≡ cond b w (find R q (seen es))) [
          | true ↦ λ same. find-seen R q fs ∙ ap (λ k. lookup (λ j. is_eq (R k (shows j))) fs) (same_key o exact q k same) ∙ here
          | false ↦ λ other.
              let of_q : IsKeyTest (eq_by_cmp (λ i j. R (shows i) (shows j))) (λ j. is_eq (R q (shows j))) =
              λ x y at_x. (eq_by_cmp_equiv o).congr q (shows x) (shows y) at_x in
              let away : AreApart (λ j. is_eq (R k (shows j))) (λ j. is_eq (R q (shows j))) =
              λ j at_j. ap (λ z. eq_by_cmp R q z) (sym (same_key o exact k (shows j) at_j)) ∙ other in
              find-seen R q fs ∙ others (λ j. is_eq (R q (shows j))) of_q away ∙ sym (find-seen R q es)
        ] refl

    pub inserted_seen : (k : K) (v : X) (es fs : List (J × X)) → lookup (λ j. is_eq (R k (shows j))) fs ≡ Some v
        → KeepsOthers (eq_by_cmp (λ i j. R (shows i) (shows j))) (λ j. is_eq (R k (shows j))) es fs
        → map.from_entries {R = R} (seen fs) ≡ map.insert (map.from_entries (seen es)) k v
    inserted_seen k v es fs here others = map.same_map o exact _ _ (λ q.
        map.get-from_entries o (seen fs) q ∙ find_after k q (Some v) es fs here others
        ∙ ap (cond (eq_by_cmp R q k) (Some v)) (sym (map.get-from_entries o (seen es) q)) ∙ sym (map.get-insert o (map.from_entries (seen es)) k v q))

    pub removed_seen : (k : K) (es fs : List (J × X)) → lookup (λ j. is_eq (R k (shows j))) fs ≡ None
        → KeepsOthers (eq_by_cmp (λ i j. R (shows i) (shows j))) (λ j. is_eq (R k (shows j))) es fs
        → map.from_entries {R = R} (seen fs) ≡ map.remove (map.from_entries (seen es)) k
    removed_seen k es fs here others = map.same_map o exact _ _ (λ q.
        map.get-from_entries o (seen fs) q ∙ find_after k q None es fs here others
        ∙ ap (cond (eq_by_cmp R q k) None) (sym (map.get-from_entries o (seen es) q)) ∙ sym (map.get-remove o (map.from_entries (seen es)) k q))

  length-seen : (es : List (J × X)) → length (seen es) ≡ length es
  length-seen [] = refl
  length-seen (e ∷ es) = ap suc (length-seen es)

  values_of-seen : (es : List (J × X)) → values_of (seen es) ≡ values_of es
  values_of-seen [] = refl
  values_of-seen (e ∷ es) = ap (λ vs. e.1 ∷ vs) (values_of-seen es)

  seen-append : (es fs : List (J × X)) → seen (es ++ fs) ≡ seen es ++ seen fs
  seen-append [] fs = refl
  seen-append (e ∷ es) fs = ap (λ l. (shows e.0, e.1) ∷ l) (seen-append es fs)

  seen-insert_entry : (R : K → K → Ordering) (es : List (J × X)) (j : J) (v : X) → seen (insert_entry (λ i j. R (shows i) (shows j)) es j v) ≡ insert_entry R (seen es) (shows j) v
  seen-insert_entry R [] j v = refl
  seen-insert_entry R (e ∷ es) j v =
      elim (R (shows j) (shows e.0)) as (λ r. seen (match_ordering r ((j, v) ∷ e ∷ es) ((e.0, v) ∷ es) (e ∷ insert_entry (λ i j. R (shows i) (shows j)) es j v))
      ≡ match_ordering r ((shows j, v) ∷ (shows e.0, e.1) ∷ seen es) ((shows e.0, v) ∷ seen es) ((shows e.0, e.1) ∷ insert_entry R (seen es) (shows j) v)) [
        | Less ↦ refl
        | Equal ↦ refl
        | Greater ↦ ap (λ l. (shows e.0, e.1) ∷ l) (seen-insert_entry R es j v)
      ]

  module _ {R : K → K → Ordering} (o : IsTotalOrder R) where
    -- what a look-up in the tree finds, a look-up in the map finds
    pub get-found : (es : List (J × X)) (now : map.FinMap R X) (q k : K) (found : Option X) → found ≡ lookup (λ j. is_eq (R q (shows j))) es → map.from_entries (seen es) ≡ now → q ≡ k → found ≡ map.get now k
    get-found es now q k found is seen_as same =
        is ∙ sym (find-seen R q es) ∙ sym (map.get-from_entries o (seen es) q) ∙ (λ i. map.get (seen_as i) (same i))

    pub len-seen : (es : List (J × X)) (now : map.FinMap R X) → IsStrictlySortedBy (λ i j. R (shows i) (shows j)) (keys_of es) → map.from_entries (seen es) ≡ now → length es ≡ map.len now
    len-seen es now sorted seen_as =
        sym (length-seen es) ∙ ap length (sym (entries-from_entries o (seen es) (sorted_seen R es sorted))) ∙ sym (map.len-entries (map.from_entries (seen es))) ∙ ap map.len seen_as

    pub values-seen : (es : List (J × X)) (now : map.FinMap R X) → IsStrictlySortedBy (λ i j. R (shows i) (shows j)) (keys_of es) → map.from_entries (seen es) ≡ now → values_of es ≡ map.values now
    values-seen es now sorted seen_as =
        sym (values_of-seen es) ∙ ap (λ l. values_of l) (sym (entries-from_entries o (seen es) (sorted_seen R es sorted))) ∙ ap map.values seen_as

    -- one turn of a copy from the back, as `copied_one` of the trees has it
    pub copied_seen : (before after copy next all : List (J × X)) (i j : J) (v w : X) → seen before ++ seen copy ≡ seen all → IsStrictlySortedBy (λ i j. R (shows i) (shows j)) (keys_of all)
        → before ≡ after ++ (j, w) ∷ [] → shows i ≡ shows j → v ≡ w → next ≡ insert_entry (λ i j. R (shows i) (shows j)) copy i v → seen after ++ seen next ≡ seen all
    copied_seen before after copy next all i j v w is sorted last same_key same_value inserted =
        copied_one o (seen before) (seen after) (seen copy) (seen next) (seen all) (shows i) v (shows j, w) is (sorted_seen R all sorted)
        (ap seen last ∙ seen-append after ((j, w) ∷ [])) same_key same_value (ap seen inserted ∙ seen-insert_entry R copy i v)
