-- A `BTreeMap` seen as a finite map, `from_entries m.entries`, at a total order of its keys. Crates above
-- prove their ordered maps by these.
--     get-view, get-seen      a look-up in the tree is one in the map
--     view-insert, view-remove, view-update       what an insert, a removal and a write do to the map
--     entries-view      the map's entries are the tree's
--     find-lookup       the two words for a look-up in a list of entries agree
use Rattle.std.proofs.Common.{◌≡◌, Ordering, cond, List, [], ◌∷◌, ◌++◌, length, append_assoc, refl, sym, ap, subst, ◌∙◌, arith}
use Rattle.std.specs.Prelude.{Option, Some, None, IsSome, OnSome}
use Rattle.std.specs.Option.{option_copied_mut}
use Rattle.std.specs.Borrow.{MutBor}
use Rattle.std.specs.Ordering.{is_eq, eq_by_cmp, match_ordering}
use Rattle.std.specs.Cmp.{IsTotalOrder, eq_by_cmp_equiv}
use Rattle.std.specs.List.Sorted.{IsStrictlySortedBy}
use Rattle.std.specs.FinMap as map
use Rattle.std.specs.FinMap.Entries.{by_order, put}
use Rattle.std.specs.BTreeMap as tree
use Rattle.std.specs.BTreeMap.{BTreeMap, insert_entry}
use Rattle.std.specs.Map.{keys_of, values_of, lookup}

-- the map that a tree is seen as
abbrev pub view : {K X : Type 0} (R : K → K → Ordering) → BTreeMap K X → map.FinMap R X
view R m = map.from_entries m.entries

pub find-lookup : {K X : Type 0} (R : K → K → Ordering) (q : K) (es : List (K × X)) → map.find R q es ≡ lookup (λ k. is_eq (R q k)) es
find-lookup R q [] = refl
find-lookup R q (e ∷ es) = ap (cond (eq_by_cmp R q e.0) (Some e.1)) (find-lookup R q es)

no_length : {A : Type 0} (xs : List A) → length xs ≡ 0 → xs ≡ []
no_length [] e = refl
no_length (x ∷ xs) e = absurd (omega arith)

pub entries-empty : {K : Type 0} (R : K → K → Ordering) (X : Type 0) → map.entries (map.empty {X = X} {R = R}) ≡ []
entries-empty R X = no_length _ (sym (map.len-entries _) ∙ map.len-empty R X)

module _ {K X : Type 0} {R : K → K → Ordering} (o : IsTotalOrder R) where
  pub get-view : (m : BTreeMap K X) (q : K) → map.get (view R m) q ≡ tree.get R m q
  get-view m q = map.get-from_entries o m.entries q ∙ find-lookup R q m.entries

  -- what a look-up in the tree finds, a look-up in what the tree is seen as finds
  pub get-seen : (m : BTreeMap K X) (now : map.FinMap R X) (k : K) (found : Option X) → found ≡ tree.get R m k → view R m ≡ now → found ≡ map.get now k
  get-seen m now k found is seen = is ∙ sym (get-view m k) ∙ ap (λ (w : map.FinMap R X). map.get w k) seen

  -- after `insert`, whose clause `updates.0` is the premise
  pub view-insert : map.IsAntisymmetric R → (m n : BTreeMap K X) (k : K) (v : X) → ((q : K) → tree.get R n q ≡ cond (eq_by_cmp R k q) (Some v) (tree.get R m q)) → view R n ≡ map.insert (view R m) k v
  view-insert same m n k v updates =
      map.same_map o same _ _ (λ q. get-view n q ∙ updates q ∙ ap (cond (eq_by_cmp R k q) (Some v)) (sym (get-view m q)) ∙ ap (λ b. cond b (Some v) (map.get (view R m) q)) ((eq_by_cmp_equiv o).symm k q) ∙ sym (map.get-insert o (view R m) k v q))

  -- after `remove`, whose clause `updates.0` is the premise
  pub view-remove : map.IsAntisymmetric R → (m n : BTreeMap K X) (k : K) → ((q : K) → tree.get R n q ≡ cond (eq_by_cmp R k q) None (tree.get R m q)) → view R n ≡ map.remove (view R m) k
  view-remove same m n k updates =
      map.same_map o same _ _ (λ q. get-view n q ∙ updates q ∙ ap (cond (eq_by_cmp R k q) None) (sym (get-view m q)) ∙ ap (λ b. cond b None (map.get (view R m) q)) ((eq_by_cmp_equiv o).symm k q) ∙ sym (map.get-remove o (view R m) k q))

  -- after a write through what `get_mut` lent, if it lent anything
  pub view-lent : map.IsAntisymmetric R → (m n : BTreeMap K X) (k : K) (v : X) (lent : Option (MutBor X)) → option_copied_mut lent ≡ tree.get R m k
      → (IsSome (tree.get R m k) → (q : K) → tree.get R n q ≡ cond (eq_by_cmp R k q) (Some v) (tree.get R m q))
      → (before : map.FinMap R X) → view R m ≡ before → OnSome lent (view R n ≡ map.insert before k v)
  view-lent same m n k v None is updates before seen = tt
  view-lent same m n k v (Some r) is updates before seen =
      view-insert same m n k v (updates (subst IsSome is refl)) ∙ ap (λ (w : map.FinMap R X). map.insert w k v) seen

  first_put : (e : K × X) (es : List (K × X)) → IsStrictlySortedBy R (keys_of (e ∷ es)) → put R e.0 e.1 es ≡ e ∷ es
  unfolding IsStrictlySortedBy
  first_put e [] sorted = refl
  first_put e (f ∷ es) sorted = ap (λ r. by_order r (e ∷ f ∷ es) ((f.0, e.1) ∷ es) (f ∷ put R e.0 e.1 es)) sorted.0.0

  pub entries-from_entries : (es : List (K × X)) → IsStrictlySortedBy R (keys_of es) → map.entries (map.from_entries {R = R} es) ≡ es
  unfolding IsStrictlySortedBy
  entries-from_entries [] sorted = entries-empty R X
  entries-from_entries (e ∷ es) sorted = map.entries-insert o (map.from_entries es) e.0 e.1 ∙ ap (put R e.0 e.1) (entries-from_entries es sorted.1) ∙ first_put e es sorted

  -- the clause `ordered` of `len` and `iter` is the premise
  pub entries-view : (m : BTreeMap K X) → tree.IsOrdered R m → map.entries (view R m) ≡ m.entries
  entries-view m ordered = entries-from_entries m.entries ordered

  pub len-view : (m : BTreeMap K X) → tree.IsOrdered R m → map.len (view R m) ≡ tree.btree_map_len m
  len-view m ordered = map.len-entries (view R m) ∙ ap length (entries-view m ordered)

  pub keys-view : (m : BTreeMap K X) → tree.IsOrdered R m → map.keys (view R m) ≡ tree.keys m
  keys-view m ordered = ap keys_of (entries-view m ordered)

  pub values-view : (m : BTreeMap K X) → tree.IsOrdered R m → map.values (view R m) ≡ tree.values m
  values-view m ordered = ap values_of (entries-view m ordered)

  -- a view is empty just where the tree is
  pub empty-view : (m : BTreeMap K X) → tree.IsOrdered R m → tree.btree_map_len m ≡ 0 → view R m ≡ map.empty
  empty-view m ordered e = map.empty_of_len _ (len-view m ordered ∙ e)

  pub len-empty_view : (m : BTreeMap K X) → tree.IsOrdered R m → view R m ≡ map.empty → tree.btree_map_len m ≡ 0
  len-empty_view m ordered e = sym (len-view m ordered) ∙ ap map.len e ∙ map.len-empty R X

  -- a copy from the back: an entry before all others is inserted first
  insert_first : (e : K × X) (es : List (K × X)) → IsStrictlySortedBy R (keys_of (e ∷ es)) → insert_entry R es e.0 e.1 ≡ e ∷ es
  unfolding IsStrictlySortedBy
  insert_first e [] sorted = refl
  insert_first e (f ∷ es) sorted = ap (λ r. match_ordering r (e ∷ f ∷ es) ((f.0, e.1) ∷ es) (f ∷ insert_entry R es e.0 e.1)) sorted.0.0

  sorted_end : (es fs : List (K × X)) → IsStrictlySortedBy R (keys_of (es ++ fs)) → IsStrictlySortedBy R (keys_of fs)
  unfolding IsStrictlySortedBy
  sorted_end [] fs sorted = sorted
  sorted_end (e ∷ es) fs sorted = sorted_end es fs sorted.1

  -- one turn of that copy: from `before`, the entries that are left, the last one moves to the copy
  pub copied_one : (before after copy next all : List (K × X)) (k : K) (v : X) (e : K × X) → before ++ copy ≡ all → IsStrictlySortedBy R (keys_of all)
      → before ≡ after ++ e ∷ [] → k ≡ e.0 → v ≡ e.1 → next ≡ insert_entry R copy k v → after ++ next ≡ all
  copied_one before after copy next all k v e is sorted last same_key same_value inserted =
      let whole : after ++ (e ∷ copy) ≡ all = sym (append_assoc after (e ∷ []) copy) ∙ ap (λ es. es ++ copy) (sym last) ∙ is in
      let first = insert_first e copy (sorted_end after (e ∷ copy) (subst (λ es. IsStrictlySortedBy R (keys_of es)) (sym whole) sorted)) in
      ap (λ es. after ++ es) (inserted ∙ (λ i. insert_entry R copy (same_key i) (same_value i)) ∙ first) ∙ whole
