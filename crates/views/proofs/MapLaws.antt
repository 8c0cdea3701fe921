-- What look-ups answer after an insert and a removal, and which changes come to the same map, at any order that is total and ties only
-- equal keys.
--     same_or_other                      two keys are the same, or not
--     get_insert_same, get_insert_other, get_remove_same, get_remove_other       look-ups after one change
--     insert_insert, insert_same, insert_remove, remove_insert, remove_absent, remove_remove      changes at one key
--     insert_apart, remove_apart, remove_insert_apart                            changes at two keys
--     entries-empty, entries-single, keys-single, values-single                  maps of at most one entry
--     get-retain, retain_keys-insert     look-ups after `retain_keys`
use Rattle.std.proofs.Common.{◌≡◌, ◌≢◌, Ordering, Less, Equal, Greater, Bool, true, false, cond, List, [], ◌∷◌, inl, inr, map as mapped, refl, sym, ap, subst, ◌∙◌}
use Rattle.std.specs.Prelude.{Option, Some, None, ◌⊎◌}
use Rattle.std.specs.Option.{unwrap_or}
use Rattle.std.specs.Ordering.{is_eq, eq_by_cmp}
use Rattle.std.specs.Cmp.{IsTotalOrder, tied_itself}
use Rattle.std.specs.FinMap as map
use Rattle.std.specs.FinMap.{FinMap, IsAntisymmetric}
use Rattle.std.specs.FinMap.Entries.{put}
use Rattle.views.proofs.TreeMaps.{entries-empty as no_entries}

-- from a contradiction
pub true_false : {A : Type 0} → true ≡ false → A
true_false e = absurd (subst (λ b. cond b (Unit {0}) ⊥) e tt)

covered : {A : Type 0} (b : Bool) (x y z : A) → cond b x (cond b y z) ≡ cond b x z
covered true x y z = refl
covered false x y z = refl

apart : {A : Type 0} (a b : Bool) (x y z : A) → (a ≡ true → b ≡ true → ⊥) → cond a x (cond b y z) ≡ cond b y (cond a x z)
apart true true x y z differ = absurd (differ refl refl)
apart true false x y z differ = refl
apart false b x y z differ = refl

-- a value that both branches have
either_way : {A : Type 0} (b : Bool) (x z : A) → (b ≡ true → z ≡ x) → cond b x z ≡ z
either_way true x z is = sym (is refl)
either_way false x z is = refl

module _ {K : Type 0} {R : K → K → Ordering} (o : IsTotalOrder R) (exact : IsAntisymmetric R) where
  pub key_tied : (k : K) → eq_by_cmp R k k ≡ true
  key_tied k = ap is_eq (tied_itself o k)

  pub same_key : (q k : K) → eq_by_cmp R q k ≡ true → q ≡ k
  same_key q k = elim (R q k) as (λ r. R q k ≡ r → is_eq r ≡ true → q ≡ k) [
    | Less ↦ λ r e. true_false (sym e)
    | Equal ↦ λ r e. exact q k r
    | Greater ↦ λ r e. true_false (sym e)
  ] refl

  pub other_key : (q k : K) → q ≢ k → eq_by_cmp R q k ≡ false
  other_key q k differ = elim (eq_by_cmp R q k) as (λ b. eq_by_cmp R q k ≡ b → b ≡ false) [
    | true ↦ λ e. absurd (differ (same_key q k e))
    | false ↦ λ e. refl
  ] refl

  pub same_or_other : (q k : K) → (q ≡ k) ⊎ (q ≢ k)
  same_or_other q k = elim (eq_by_cmp R q k) as (λ b. eq_by_cmp R q k ≡ b → (q ≡ k) ⊎ (q ≢ k)) [
    | true ↦ λ e. inl (same_key q k e)
    | false ↦ λ e. inr (λ is. true_false (sym (key_tied k) ∙ ap (λ x. eq_by_cmp R x k) (sym is) ∙ e))
  ] refl

  differ_ties : (j k q : K) → j ≢ k → eq_by_cmp R q j ≡ true → eq_by_cmp R q k ≡ true → ⊥
  differ_ties j k q differ first second = differ (sym (same_key q j first) ∙ same_key q k second)

  pub keys-empty : (X : Type 0) → map.keys (map.empty {X = X} {R = R}) ≡ []
  keys-empty X = ap (λ (es : List (K × X)). mapped (λ e. e.0) es) (no_entries R X)

  module _ {X : Type 0} where
    -- one change
    pub get_insert_same : (m : FinMap R X) (k : K) (v : X) → map.get (map.insert m k v) k ≡ Some v
    get_insert_same m k v = map.get-insert o m k v k ∙ ap (λ b. cond b (Some v) (map.get m k)) (key_tied k)

    pub get_insert_other : (m : FinMap R X) (k : K) (v : X) (q : K) → q ≢ k → map.get (map.insert m k v) q ≡ map.get m q
    get_insert_other m k v q differ = map.get-insert o m k v q ∙ ap (λ b. cond b (Some v) (map.get m q)) (other_key q k differ)

    pub get_remove_same : (m : FinMap R X) (k : K) → map.get (map.remove m k) k ≡ None
    get_remove_same m k = map.get-remove o m k k ∙ ap (λ b. cond b None (map.get m k)) (key_tied k)

    pub get_remove_other : (m : FinMap R X) (k q : K) → q ≢ k → map.get (map.remove m k) q ≡ map.get m q
    get_remove_other m k q differ = map.get-remove o m k q ∙ ap (λ b. cond b None (map.get m q)) (other_key q k differ)

    -- the same, where the changed map is a variable
    pub get_inserted : (m n : FinMap R X) (k : K) (v : X) → n ≡ map.insert m k v → map.get n k ≡ Some v
    get_inserted m n k v is = ap (λ w. map.get w k) is ∙ get_insert_same m k v

    pub get_beside_inserted : (m n : FinMap R X) (k : K) (v : X) (q : K) → n ≡ map.insert m k v → q ≢ k → map.get n q ≡ map.get m q
    get_beside_inserted m n k v q is differ = ap (λ w. map.get w q) is ∙ get_insert_other m k v q differ

    pub get_removed : (m n : FinMap R X) (k : K) → n ≡ map.remove m k → map.get n k ≡ None
    get_removed m n k is = ap (λ w. map.get w k) is ∙ get_remove_same m k

    pub get_beside_removed : (m n : FinMap R X) (k q : K) → n ≡ map.remove m k → q ≢ k → map.get n q ≡ map.get m q
    get_beside_removed m n k q is differ = ap (λ w. map.get w q) is ∙ get_remove_other m k q differ

    -- a look-up at a key that ties is the look-up at that key
    at_same : (m : FinMap R X) (k q : K) (found : Option X) → map.get m k ≡ found → eq_by_cmp R q k ≡ true → map.get m q ≡ found
    at_same m k q found is tied = ap (map.get m) (same_key q k tied) ∙ is

    -- changes at one key
    pub insert_insert : (m : FinMap R X) (k : K) (v w : X) → map.insert (map.insert m k v) k w ≡ map.insert m k w
    insert_insert m k v w = map.same_map o exact _ _ (λ q.
        map.get-insert o (map.insert m k v) k w q ∙ ap (cond (eq_by_cmp R q k) (Some w)) (map.get-insert o m k v q)
        ∙ covered (eq_by_cmp R q k) (Some w) (Some v) (map.get m q) ∙ sym (map.get-insert o m k w q))

    -- what is there already
    pub insert_same : (m : FinMap R X) (k : K) (v : X) → map.get m k ≡ Some v → map.insert m k v ≡ m
    insert_same m k v is = map.same_map o exact _ _ (λ q.
        map.get-insert o m k v q ∙ either_way (eq_by_cmp R q k) (Some v) (map.get m q) (at_same m k q (Some v) is))

    pub insert_remove : (m : FinMap R X) (k : K) (v : X) → map.insert (map.remove m k) k v ≡ map.insert m k v
    insert_remove m k v = map.same_map o exact _ _ (λ q.
        map.get-insert o (map.remove m k) k v q ∙ ap (cond (eq_by_cmp R q k) (Some v)) (map.get-remove o m k q)
        ∙ covered (eq_by_cmp R q k) (Some v) None (map.get m q) ∙ sym (map.get-insert o m k v q))

    pub remove_insert : (m : FinMap R X) (k : K) (v : X) → map.remove (map.insert m k v) k ≡ map.remove m k
    remove_insert m k v = map.same_map o exact _ _ (λ q.
        map.get-remove o (map.insert m k v) k q ∙ ap (cond (eq_by_cmp R q k) None) (map.get-insert o m k v q)
        ∙ covered (eq_by_cmp R q k) None (Some v) (map.get m q) ∙ sym (map.get-remove o m k q))

    pub remove_absent : (m : FinMap R X) (k : K) → map.get m k ≡ None → map.remove m k ≡ m
    remove_absent m k is = map.same_map o exact _ _ (λ q.
        map.get-remove o m k q ∙ either_way (eq_by_cmp R q k) None (map.get m q) (at_same m k q None is))

    -- a new entry, taken out again
    pub remove_insert_new : (m : FinMap R X) (k : K) (v : X) → map.get m k ≡ None → map.remove (map.insert m k v) k ≡ m
    remove_insert_new m k v is = remove_insert m k v ∙ remove_absent m k is

    pub remove_remove : (m : FinMap R X) (k : K) → map.remove (map.remove m k) k ≡ map.remove m k
    remove_remove m k = remove_absent (map.remove m k) k (get_remove_same m k)

    -- an entry that was taken out, put back
    pub insert_remove_same : (m : FinMap R X) (k : K) (v : X) → map.get m k ≡ Some v → map.insert (map.remove m k) k v ≡ m
    insert_remove_same m k v is = insert_remove m k v ∙ insert_same m k v is

    -- changes at two keys
    pub insert_apart : (m : FinMap R X) (j k : K) (v w : X) → j ≢ k → map.insert (map.insert m j v) k w ≡ map.insert (map.insert m k w) j v
    insert_apart m j k v w differ = map.same_map o exact _ _ (λ q.
        map.get-insert o (map.insert m j v) k w q ∙ ap (cond (eq_by_cmp R q k) (Some w)) (map.get-insert o m j v q)
        ∙ apart (eq_by_cmp R q k) (eq_by_cmp R q j) (Some w) (Some v) (map.get m q) (λ at_k at_j. differ_ties j k q differ at_j at_k)
        ∙ ap (cond (eq_by_cmp R q j) (Some v)) (sym (map.get-insert o m k w q)) ∙ sym (map.get-insert o (map.insert m k w) j v q))

    pub remove_apart : (m : FinMap R X) (j k : K) → map.remove (map.remove m j) k ≡ map.remove (map.remove m k) j
    remove_apart m j k = map.same_map o exact _ _ (λ q.
        map.get-remove o (map.remove m j) k q ∙ ap (cond (eq_by_cmp R q k) None) (map.get-remove o m j q)
        ∙ both_none (eq_by_cmp R q k) (eq_by_cmp R q j) (map.get m q)
        ∙ ap (cond (eq_by_cmp R q j) None) (sym (map.get-remove o m k q)) ∙ sym (map.get-remove o (map.remove m k) j q))
      where
        both_none : (a b : Bool) (x : Option X) → cond a None (cond b None x) ≡ cond b None (cond a None x)
        both_none true true x = refl
        both_none true false x = refl
        both_none false b x = refl

    pub remove_insert_apart : (m : FinMap R X) (j k : K) (v : X) → j ≢ k → map.remove (map.insert m j v) k ≡ map.insert (map.remove m k) j v
    remove_insert_apart m j k v differ = map.same_map o exact _ _ (λ q.
        map.get-remove o (map.insert m j v) k q ∙ ap (cond (eq_by_cmp R q k) None) (map.get-insert o m j v q)
        ∙ apart (eq_by_cmp R q k) (eq_by_cmp R q j) None (Some v) (map.get m q) (λ at_k at_j. differ_ties j k q differ at_j at_k)
        ∙ ap (cond (eq_by_cmp R q j) (Some v)) (sym (map.get-remove o m k q)) ∙ sym (map.get-insert o (map.remove m k) j v q))

    -- at most one entry
    pub entries-empty : map.entries (map.empty {X = X} {R = R}) ≡ []
    entries-empty = no_entries R X

    pub entries-single : (k : K) (v : X) → map.entries (map.insert (map.empty {R = R}) k v) ≡ (k, v) ∷ []
    entries-single k v = map.entries-insert o map.empty k v ∙ ap (put R k v) entries-empty

    pub keys-single : (k : K) (v : X) → map.keys (map.insert (map.empty {R = R}) k v) ≡ k ∷ []
    keys-single k v = ap (λ (es : List (K × X)). mapped (λ e. e.0) es) (entries-single k v)

    pub values-empty : map.values (map.empty {X = X} {R = R}) ≡ []
    values-empty = ap (λ (es : List (K × X)). mapped (λ e. e.1) es) entries-empty

    pub values-single : (k : K) (v : X) → map.values (map.insert (map.empty {R = R}) k v) ≡ v ∷ []
    values-single k v = ap (λ (es : List (K × X)). mapped (λ e. e.1) es) (entries-single k v)

    -- by a test of the keys
    pub get-retain : (m : FinMap R X) (p : K → Bool) (q : K) → map.get (map.retain_keys m p) q ≡ cond (p q) (map.get m q) None
    get-retain m p q = map.get-retain_keys m p q (λ x tied. ap p (sym (exact q x tied)))

    pub retain_keys-insert : (m : FinMap R X) (p : K → Bool) (k : K) (v : X) → p k ≡ true → map.retain_keys (map.insert m k v) p ≡ map.insert (map.retain_keys m p) k v
    retain_keys-insert m p k v passes = map.same_map o exact _ _ (λ q.
        get-retain (map.insert m k v) p q ∙ ap (λ x. cond (p q) x None) (map.get-insert o m k v q)
        ∙ chosen (eq_by_cmp R q k) (p q) (Some v) (map.get m q) (λ tied. ap p (same_key q k tied) ∙ passes)
        ∙ ap (cond (eq_by_cmp R q k) (Some v)) (sym (get-retain m p q)) ∙ sym (map.get-insert o (map.retain_keys m p) k v q))
      where
        chosen : (a b : Bool) (x y : Option X) → (a ≡ true → b ≡ true) → cond b (cond a x y) None ≡ cond a x (cond b y None)
        chosen true true x y is = refl
        chosen true false x y is = true_false (sym (is refl))
        chosen false b x y is = refl

    -- an entry whose key does not pass
    pub retain_keys-insert_other : (m : FinMap R X) (p : K → Bool) (k : K) (v : X) → p k ≡ false → map.retain_keys (map.insert m k v) p ≡ map.retain_keys m p
    retain_keys-insert_other m p k v fails = map.same_map o exact _ _ (λ q.
        get-retain (map.insert m k v) p q ∙ ap (λ x. cond (p q) x None) (map.get-insert o m k v q)
        ∙ chosen (eq_by_cmp R q k) (p q) (Some v) (map.get m q) (λ tied. ap p (same_key q k tied) ∙ fails) ∙ sym (get-retain m p q))
      where
        chosen : (a b : Bool) (x y : Option X) → (a ≡ true → b ≡ false) → cond b (cond a x y) None ≡ cond b y None
        chosen true true x y is = true_false (is refl)
        chosen true false x y is = refl
        chosen false b x y is = refl

    -- each key passes
    pub retain_all : (m : FinMap R X) (p : K → Bool) → ((q : K) (v : X) → map.get m q ≡ Some v → p q ≡ true) → map.retain_keys m p ≡ m
    retain_all m p passes = map.same_map o exact _ _ (λ q. get-retain m p q ∙ kept (p q) (map.get m q) (passes q))
      where
        kept : (b : Bool) (x : Option X) → ((v : X) → x ≡ Some v → b ≡ true) → cond b x None ≡ x
        kept true x is = refl
        kept false None is = refl
        kept false (Some v) is = true_false (sym (is v refl))

    -- what is found once is found again
    pub same_value : (m : FinMap R X) (q : K) (v w : X) → map.get m q ≡ Some v → map.get m q ≡ Some w → v ≡ w
    same_value m q v w first second = ap (λ x. unwrap_or x v) (sym first ∙ second)
