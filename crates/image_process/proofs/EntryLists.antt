-- A map's entries against a list of them: each once, in rising order of the keys.
--     above last es            the entries whose keys come after one
--     next_entry, no_more      one entry after the other, by the least key above the last one
--     one_more_entry, fewer_left, all_entries, key_there      the same over a map, where a list holds the entries so far
--     with_entries es m        a map with the entries of a list put in from the back
--     taken_start, taken_more, taken_end      the items of a list put in so, the last one first
use Rattle.std.proofs.Common.{◌≡◌, ℕ, ◌<◌, ◌≤◌, Bool, true, false, cond, List, [], ◌∷◌, ◌++◌, length, map as each, refl, sym, ap, ◌∙◌, arith, append_assoc, append-nil, T}
use Rattle.std.specs.Prelude.{Option, Some, None, is_some, find, filter, nat_lt}
use Rattle.std.specs.Ordering.{nat_cmp, eq_by_cmp, is_lt}
use Rattle.std.specs.Cmp.{nat_cmp_total}
use Rattle.std.specs.FinMap as map
use Rattle.std.specs.FinMap.Entries.{is_sorted, below_all}
use Rattle.std.proofs.lemmas.Bool.Decides.{nat_tests}
use Rattle.std.proofs.lemmas.List.{map-append}
use Rattle.views.specs.NumberMap.{is_above}
use Rattle.views.proofs.MapLaws.{key_tied}
use Rattle.image_process.proofs.RisingKeys.{front, back, rising, past_front, lt_true}

-- the map of a map's entries is that map
pub from_own_entries : {X : Type 0} (m : map.FinMap nat_cmp X) → map.from_entries {R = nat_cmp} (map.entries m) ≡ m
from_own_entries m = map.same_map nat_cmp_total map.nat_cmp-IsAntisymmetric (map.from_entries (map.entries m)) m (λ q. map.get-from_entries nat_cmp_total (map.entries m) q ∙ sym (map.get-entries m q))

-- from the front
abbrev pub above : {X : Type 0} → Option ℕ → List (ℕ × X) → List (ℕ × X)
above last es = filter (λ e. is_above last e.0) es

abbrev keys_in : {X : Type 0} → List (ℕ × X) → List ℕ
keys_in es = each (λ e. e.0) es

-- each key after one that passes comes after it too
passes_after : (last : Option ℕ) (k n : ℕ) → is_above last k ≡ true → k < n → is_above last n ≡ true
passes_after None k n passes after = refl
passes_after (Some key) k n passes after = let first : key < k = grind (arith, nat_tests, passes) in grind (arith, nat_tests)

before_passing : (last : Option ℕ) (k n : ℕ) → is_above last k ≡ false → is_above last n ≡ true → k < n
before_passing None k n fails passes = cc
before_passing (Some key) k n fails passes = grind (arith, nat_tests, fails, passes)

lt_false : (k n : ℕ) → n ≤ k → nat_lt k n ≡ false
lt_false k n less = grind (arith, nat_tests, less)

found_passes : (p : ℕ → Bool) (n : ℕ) (ks : List ℕ) → find p ks ≡ Some n → p n ≡ true
found_passes p n [] is = cc
found_passes p n (k ∷ ks) is =
    elim (p k) as (λ b. p k ≡ b → cond b (Some k) (find p ks) ≡ Some n → p n ≡ true) [
      | true ↦ λ e h. let same : k ≡ n = cc in ap p (sym same) ∙ e
      | false ↦ λ e h. found_passes p n ks h
    ] refl is

module _ {X : Type 0} where
  all_above : (last : Option ℕ) (k : ℕ) (es : List (ℕ × X)) → is_above last k ≡ true → T (below_all nat_cmp k es) → above last es ≡ es
  all_above last k [] passes sorted = refl
  all_above last k (e ∷ es) passes sorted =
      let here = passes_after last k e.0 passes (rising k e.0 (front (is_lt (nat_cmp k e.0)) (below_all nat_cmp k es) sorted)) in
      ap (λ b. cond b (e ∷ above last es) (above last es)) here ∙ ap (λ rest. e ∷ rest) (all_above last k es passes (back (is_lt (nat_cmp k e.0)) (below_all nat_cmp k es) sorted))

  all_after : (k : ℕ) (es : List (ℕ × X)) → T (below_all nat_cmp k es) → above (Some k) es ≡ es
  all_after k [] sorted = refl
  all_after k (e ∷ es) sorted =
      let here = lt_true k e.0 (rising k e.0 (front (is_lt (nat_cmp k e.0)) (below_all nat_cmp k es) sorted)) in
      ap (λ b. cond b (e ∷ above (Some k) es) (above (Some k) es)) here ∙ ap (λ rest. e ∷ rest) (all_after k es (back (is_lt (nat_cmp k e.0)) (below_all nat_cmp k es) sorted))

  pub each_above : (es : List (ℕ × X)) → above None es ≡ es
  each_above [] = refl
  each_above (e ∷ es) = ap (λ rest. e ∷ rest) (each_above es)

  pub found_key : (p : ℕ → Bool) (n : ℕ) (es : List (ℕ × X)) → find p (keys_in es) ≡ Some n → is_some (map.find nat_cmp n es) ≡ true
  found_key p n [] is = cc
  found_key p n (e ∷ es) is =
      elim (p e.0) as (λ b. cond b (Some e.0) (find p (keys_in es)) ≡ Some n → is_some (cond (eq_by_cmp nat_cmp n e.0) (Some e.1) (map.find nat_cmp n es)) ≡ true) [
        | true ↦ λ h.
            let same : e.0 ≡ n = cc in
            ap (λ b. is_some (cond b (Some e.1) (map.find nat_cmp n es))) (ap (eq_by_cmp nat_cmp n) same ∙ key_tied nat_cmp_total map.nat_cmp-IsAntisymmetric n)
        | false ↦ λ h. either_way (eq_by_cmp nat_cmp n e.0) (found_key p n es h)
      ] is
    where
      either_way : (b : Bool) → is_some (map.find nat_cmp n es) ≡ true → is_some (cond b (Some e.1) (map.find nat_cmp n es)) ≡ true
      either_way true later = refl
      either_way false later = later

  -- the entry at a key at the front, and past one
  at_front : (e : ℕ × X) (es : List (ℕ × X)) (v : X) → map.find nat_cmp e.0 (e ∷ es) ≡ Some v → e.1 ≡ v
  at_front e es v is =
      let here : map.find nat_cmp e.0 (e ∷ es) ≡ Some e.1 = ap (λ b. cond b (Some e.1) (map.find nat_cmp e.0 es)) (key_tied nat_cmp_total map.nat_cmp-IsAntisymmetric e.0) in cc

  next_at : (last : Option ℕ) (n : ℕ) (v : X) (e : ℕ × X) (es : List (ℕ × X)) → T (is_sorted nat_cmp (e ∷ es)) → is_above last e.0 ≡ true → e.0 ≡ n → map.find nat_cmp n (e ∷ es) ≡ Some v
      → e ∷ above last es ≡ (n, v) ∷ above (Some n) (e ∷ es)
  next_at last n v e es sorted passes same found =
      let below = front (below_all nat_cmp e.0 es) (is_sorted nat_cmp es) sorted in
      let value : e.1 ≡ v = at_front e es v (ap (λ k. map.find nat_cmp k (e ∷ es)) same ∙ found) in
      let left : above last es ≡ es = all_above last e.0 es passes below in
      let right : above (Some n) (e ∷ es) ≡ es =
      ap (λ k. above (Some k) (e ∷ es)) (sym same) ∙ ap (λ b. cond b (e ∷ above (Some e.0) es) (above (Some e.0) es)) (lt_false e.0 e.0 (omega arith)) ∙ all_after e.0 es below in
      let first : e ≡ (n, v) = ap (λ k. (k, e.1)) same ∙ ap (λ (x : X). (n, x)) value in
      ap (λ rest. e ∷ rest) (left ∙ sym right) ∙ ap (λ x. x ∷ above (Some n) (e ∷ es)) first

  pub next_entry : (last : Option ℕ) (n : ℕ) (v : X) (es : List (ℕ × X)) → T (is_sorted nat_cmp es) → find (is_above last) (keys_in es) ≡ Some n → map.find nat_cmp n es ≡ Some v
      → above last es ≡ (n, v) ∷ above (Some n) es
  next_entry last n v [] sorted is found = cc
  next_entry last n v (e ∷ es) sorted is found =
      let later = next_entry last n v es (back (below_all nat_cmp e.0 es) (is_sorted nat_cmp es) sorted) in
      elim (is_above last e.0) as (λ b. is_above last e.0 ≡ b → cond b (Some e.0) (find (is_above last) (keys_in es)) ≡ Some n → cond b (e ∷ above last es) (above last es) ≡ (n, v) ∷ above (Some n) (e ∷ es)) [
        | true ↦ λ passes h. let same : e.0 ≡ n = cc in next_at last n v e es sorted passes same found
        | false ↦ λ fails h.
            let before : e.0 < n = before_passing last e.0 n fails (found_passes (is_above last) n (keys_in es) h) in
            later h (sym (past_front n e es before) ∙ found)
            ∙ sym (ap (λ b. (n, v) ∷ cond b (e ∷ above (Some n) es) (above (Some n) es)) (lt_false n e.0 (omega arith)))
      ] refl is

  pub no_more : (last : Option ℕ) (es : List (ℕ × X)) → find (is_above last) (keys_in es) ≡ None → above last es ≡ []
  no_more last [] is = refl
  no_more last (e ∷ es) is =
      elim (is_above last e.0) as (λ b. cond b (Some e.0) (find (is_above last) (keys_in es)) ≡ None → cond b (e ∷ above last es) (above last es) ≡ []) [
        | true ↦ λ h. cc
        | false ↦ λ h. no_more last es h
      ] is

  -- the same over a map, where a list holds the entries so far
  pub one_more_entry : (m : map.FinMap nat_cmp X) (done : List (ℕ × X)) (last : Option ℕ) (n : ℕ) (v : X) → done ++ above last (map.entries m) ≡ map.entries m → find (is_above last) (map.keys m) ≡ Some n → map.get m n ≡ Some v
      → (done ++ (n, v) ∷ []) ++ above (Some n) (map.entries m) ≡ map.entries m
  one_more_entry m done last n v so_far is found =
      append_assoc done ((n, v) ∷ []) (above (Some n) (map.entries m))
      ∙ sym (ap (λ rest. done ++ rest) (next_entry last n v (map.entries m) (map.entries_sorted m) is (sym (map.get-entries m n) ∙ found))) ∙ so_far

  pub fewer_left : (m : map.FinMap nat_cmp X) (last : Option ℕ) (n : ℕ) (v : X) → find (is_above last) (map.keys m) ≡ Some n → map.get m n ≡ Some v → length (above (Some n) (map.entries m)) < length (above last (map.entries m))
  fewer_left m last n v is found =
      let next = ap length (next_entry last n v (map.entries m) (map.entries_sorted m) is (sym (map.get-entries m n) ∙ found)) in omega arith

  pub all_entries : (m : map.FinMap nat_cmp X) (done : List (ℕ × X)) (last : Option ℕ) → done ++ above last (map.entries m) ≡ map.entries m → find (is_above last) (map.keys m) ≡ None → done ≡ map.entries m
  all_entries m done last so_far is = sym (append-nil done) ∙ ap (λ rest. done ++ rest) (sym (no_more last (map.entries m) is)) ∙ so_far

  pub key_there : (m : map.FinMap nat_cmp X) (last : Option ℕ) (n : ℕ) → find (is_above last) (map.keys m) ≡ Some n → is_some (map.get m n) ≡ true
  key_there m last n is = ap is_some (map.get-entries m n) ∙ found_key (is_above last) n (map.entries m) is

-- from the back
unfoldable pub with_entries : {X : Type 0} → List (ℕ × X) → map.FinMap nat_cmp X → map.FinMap nat_cmp X
with_entries [] m = m
with_entries (e ∷ es) m = map.insert (with_entries es m) e.0 e.1

pub one_put : {X : Type 0} (es : List (ℕ × X)) (e : ℕ × X) (m : map.FinMap nat_cmp X) → with_entries (es ++ e ∷ []) m ≡ with_entries es (map.insert m e.0 e.1)
unfolding with_entries
one_put [] e m = refl
one_put (x ∷ es) e m = ap (λ after. map.insert after x.0 x.1) (one_put es e m)

pub none_put : {X : Type 0} (m : map.FinMap nat_cmp X) → with_entries [] m ≡ m
unfolding with_entries
none_put m = refl

pub all_put : {X : Type 0} (es : List (ℕ × X)) → with_entries es map.empty ≡ map.from_entries es
unfolding with_entries
all_put [] = refl
all_put (e ∷ es) = ap (λ m. map.insert m e.0 e.1) (all_put es)

pub one_of : {X : Type 0} {A : Type 0} (f : A → ℕ × X) (before after : List A) (a : A) (m : map.FinMap nat_cmp X) → before ≡ after ++ a ∷ [] → with_entries (each f before) m ≡ with_entries (each f after) (map.insert m (f a).0 (f a).1)
one_of f before after a m is = ap (λ xs. with_entries (each f xs) m) is ∙ ap (λ es. with_entries es m) (map-append f after (a ∷ [])) ∙ one_put (each f after) (f a) m

pub taken_start : {X : Type 0} {A : Type 0} (f : A → ℕ × X) (items left : List A) (m : map.FinMap nat_cmp X) → left ≡ items → m ≡ map.empty → with_entries (each f left) m ≡ map.from_entries (each f items)
taken_start f items left m same blank = ap (λ n. with_entries (each f left) n) blank ∙ ap (λ xs. with_entries (each f xs) map.empty) same ∙ all_put (each f items)

pub taken_more : {X : Type 0} {A : Type 0} (f : A → ℕ × X) (items before after : List A) (a : A) (m next : map.FinMap nat_cmp X) → with_entries (each f before) m ≡ map.from_entries (each f items) → before ≡ after ++ a ∷ []
    → next ≡ map.insert m (f a).0 (f a).1 → with_entries (each f after) next ≡ map.from_entries (each f items)
taken_more f items before after a m next so_far is put = ap (λ n. with_entries (each f after) n) put ∙ sym (one_of f before after a m is) ∙ so_far

pub taken_end : {X : Type 0} {A : Type 0} (f : A → ℕ × X) (items left : List A) (m : map.FinMap nat_cmp X) → with_entries (each f left) m ≡ map.from_entries (each f items) → length left ≡ 0 → m ≡ map.from_entries (each f items)
taken_end f items [] m so_far none = sym (none_put m) ∙ so_far
taken_end f items (a ∷ left) m so_far none = absurd (omega arith)
