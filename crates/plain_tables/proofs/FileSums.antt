-- How many bytes all files have, after a change of one.
use Rattle.std.proofs.Common.{◌≡◌, ℕ, ◌+◌, ◌≤◌, T, Less, Equal, Greater, cond, List, [], ◌∷◌, map as mapped, length, refl, ap, ◌∙◌, arith}
use Rattle.std.specs.Prelude.{Option, Some, None, unwrap_or, sum_by}
use Rattle.std.specs.Ordering.{is_lt, is_eq, nat_cmp}
use Rattle.std.specs.Cmp.{nat_cmp_total}
use Rattle.std.specs.FinMap as map
use Rattle.std.specs.FinMap.{is_sorted, find, put, nat_cmp-IsAntisymmetric}
use Rattle.std.specs.FinMap.Entries.{below_all, by_order}
use Rattle.std.proofs.lemmas.List.Sums.{sum_by-cons}
use Rattle.plain_process.proofs.OfViews.MapLaws.{get_remove_same, insert_remove_same, remove_absent, values-empty}
use Rattle.plain_tables.specs.Tables.{Files}
use Rattle.plain_process.proofs.OfViews.Passes.{first, second, less}

bytes_of : Files → ℕ
bytes_of files = sum_by length (map.values files)

abbrev contents : Files → ℕ → List ℕ
contents files file = unwrap_or (map.get files file) []

total : List (ℕ × List ℕ) → ℕ
total es = sum_by length (mapped (λ e. e.1) es)

total-nil : total [] ≡ 0
unfolding total
total-nil = refl

total-cons : (e : ℕ × List ℕ) (es : List (ℕ × List ℕ)) → total (e ∷ es) ≡ length e.1 + total es
unfolding total
total-cons e es = sum_by-cons length e.1 (mapped (λ e. e.1) es)

-- a number below all those of a list is not found in it
missing : (k y : ℕ) (es : List (ℕ × List ℕ)) → nat_cmp k y ≡ Less → T (below_all nat_cmp y es) → find nat_cmp k es ≡ None
missing k y [] below all = refl
missing k y (e ∷ es) below all =
    ap (λ r. cond (is_eq r) (Some e.1) (find nat_cmp k es)) (nat_cmp_total.trans k y e.0 below (less (nat_cmp y e.0) (first (is_lt (nat_cmp y e.0)) (below_all nat_cmp y es) all)))
    ∙ missing k y es below (second (is_lt (nat_cmp y e.0)) (below_all nat_cmp y es) all)

total-put : (k : ℕ) (v : List ℕ) (es : List (ℕ × List ℕ)) → T (is_sorted nat_cmp es) → total (put nat_cmp k v es) + length (unwrap_or (find nat_cmp k es) []) ≡ total es + length v
total-put k v [] sorted = let one = total-cons (k, v) [] in omega (arith, one)
total-put k v (e ∷ es) sorted =
    let below = first (below_all nat_cmp e.0 es) (is_sorted nat_cmp es) sorted in
    let rest = second (below_all nat_cmp e.0 es) (is_sorted nat_cmp es) sorted in
    let all = total-cons e es in
    elim (nat_cmp k e.0) as (λ r. nat_cmp k e.0 ≡ r → total (by_order r ((k, v) ∷ e ∷ es) ((e.0, v) ∷ es) (e ∷ put nat_cmp k v es)) + length (unwrap_or (cond (is_eq r) (Some e.1) (find nat_cmp k es)) []) ≡ total (e ∷ es) + length v) [
      | Less ↦ λ is.
          let more = total-cons (k, v) (e ∷ es) in
          let none = ap (λ found. length (unwrap_or found [])) (missing k e.0 es is below) in
          omega (arith, more, none)
      | Equal ↦ λ is. let other = total-cons (e.0, v) es in omega (arith, other, all)
      | Greater ↦ λ is.
          let other = total-cons e (put nat_cmp k v es) in
          let later = total-put k v es rest in
          omega (arith, other, all, later)
    ] refl

-- the bytes of a file are other bytes
bytes_of-insert : (files : Files) (file : ℕ) (bytes : List ℕ) → bytes_of (map.insert files file bytes) + length (contents files file) ≡ bytes_of files + length bytes
unfolding bytes_of total
bytes_of-insert files file bytes =
    ap (λ es. total es + length (contents files file)) (map.entries-insert nat_cmp_total files file bytes)
    ∙ ap (λ found. total (put nat_cmp file bytes (map.entries files)) + length (unwrap_or found [])) (map.get-entries files file)
    ∙ total-put file bytes (map.entries files) (map.entries_sorted files)

removed_by : (files : Files) (file : ℕ) (found : Option (List ℕ)) → map.get files file ≡ found → length (unwrap_or found []) + bytes_of (map.remove files file) ≡ bytes_of files
removed_by files file None is = let same = ap bytes_of (remove_absent nat_cmp_total nat_cmp-IsAntisymmetric files file is) in omega (arith, same)
removed_by files file (Some bytes) is =
    let whole = ap bytes_of (insert_remove_same nat_cmp_total nat_cmp-IsAntisymmetric files file bytes is) in
    let none = ap (λ found. length (unwrap_or found [])) (get_remove_same nat_cmp_total nat_cmp-IsAntisymmetric files file) in
    let e = bytes_of-insert (map.remove files file) file bytes in
    omega (arith, whole, none, e)

bytes_of-remove : (files : Files) (file : ℕ) → length (contents files file) + bytes_of (map.remove files file) ≡ bytes_of files
bytes_of-remove files file = removed_by files file (map.get files file) refl

-- fewer bytes without a file, and at most those of a new one more
pub sum_without : (files : Files) (file : ℕ) → sum_by length (map.values (map.remove files file)) ≤ sum_by length (map.values files)
unfolding bytes_of
sum_without files file = let e = bytes_of-remove files file in omega (arith, e)

pub sum_with : (files : Files) (file : ℕ) (bytes : List ℕ) → sum_by length (map.values (map.insert files file bytes)) ≤ sum_by length (map.values files) + length bytes
unfolding bytes_of
sum_with files file bytes = let e = bytes_of-insert files file bytes in omega (arith, e)

-- other bytes of a file that is there
pub sum_replaced : (files : Files) (file : ℕ) (old bytes : List ℕ) → map.get files file ≡ Some old
    → sum_by length (map.values (map.insert files file bytes)) + length old ≡ sum_by length (map.values files) + length bytes
unfolding bytes_of
sum_replaced files file old bytes known =
    let e = bytes_of-insert files file bytes in
    let same = ap (λ found. length (unwrap_or found [])) known in
    omega (arith, e, same)

pub sum_none : sum_by length (map.values (map.empty {X = List ℕ} {R = nat_cmp})) ≡ 0
sum_none = ap (λ (values : List (List ℕ)). sum_by length values) (values-empty nat_cmp_total nat_cmp-IsAntisymmetric {X = List ℕ})
