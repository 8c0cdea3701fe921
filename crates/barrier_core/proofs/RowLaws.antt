-- Rows in rising order of their numbers, and the map that they are seen as.
--     place-here, place-later, place-end      one turn of the search for a place, and its end
--     no_row                      what stands past the end
--     row-found                   the row of a number
--     index_found, index_none     what the row at the place of a number tells of the map
--     put_new, put_over           rows after one is put in its place, as a new one or over another
--     changed_members, changed_rising         rows after one of them has changed
--     removed_members, removed_rising         rows after those of a number are gone
use Rattle.std.proofs.Common.{◌≡◌, ◌≢◌, ℕ, suc, ◌+◌, ◌<◌, ◌≤◌, Bool, true, false, cond, not, T, Ordering, List, [], ◌∷◌, length, map as each, get_or, set, drop, Less, Equal, Greater, refl, sym, ap, subst, ◌∙◌, arith, add-one, drop-cons}
use Rattle.std.specs.Prelude.{Option, Some, None, Result, Ok, Err, IsOk, OnOk, ◌==◌, nat_lt, find, filter, slice_get, option_map}
use Rattle.std.specs.List.{insert, list_all}
use Rattle.std.specs.Ordering.{nat_cmp, is_eq, is_lt, eq_by_cmp}
use Rattle.std.specs.Cmp.{unsigned_tied, eq_by_cmp_equiv}
use Rattle.std.specs.FinMap as map
use Rattle.std.specs.FinMap.Entries.{put, by_order, below_all, where_key, is_sorted-put, is_sorted-where_key, find-put, find-where_key}
use Rattle.std.proofs.lemmas.Bool.Decides.{nat_tests}
use Rattle.std.proofs.lemmas.List.{drop_all}
use Rattle.std.proofs.lemmas.List.Folds.{list_all-map}
use Rattle.std.proofs.lemmas.Option.{slice_get-get_or}
use Rattle.sys_abi.specs.declared.identity.VPid.{VPid}
use Rattle.sys_abi.specs.Orders.{vpid_cmp}
use Rattle.sys_abi.proofs.OrderLaws.{vpid_total, vpid_exact}
use Rattle.views.proofs.Passes.{first, second}
use Rattle.views.proofs.MapLaws.{true_false}
use Rattle.barrier_core.specs.declared.stage.Stage.{Stage}
use Rattle.barrier_core.specs.declared.member.Member.{Member}
use Rattle.barrier_core.specs.Members.{Members, fresh, has_reached, all_reached, changed_to, changed}
use Rattle.barrier_core.specs.Rows.{Row, members_of, IsRising, place, IsIndex}

-- what is read past the end of a list
abbrev pub no_row : Row
no_row = (record { 0 = 0 }, record { reached = None; taken = None })

-- the search for a place
pub place-here : (rows : List Row) (p : VPid) (i : ℕ) (d : Row) → i < length rows → p.0 ≤ (get_or rows i d).0.0 → i + place p (drop i rows) ≡ place p rows → i ≡ place p rows
unfolding place
place-here rows p i d inside high so_far =
    let here : nat_lt (get_or rows i d).0.0 p.0 ≡ false = grind (arith, nat_tests) in
    let ends : place p (drop i rows) ≡ 0 = ap (place p) (drop-cons rows i d inside) ∙ ap (λ b. cond b (suc (place p (drop (suc i) rows))) 0) here in
    omega (arith, ends, so_far)

pub place-later : (rows : List Row) (p : VPid) (i : ℕ) (d : Row) → i < length rows → (get_or rows i d).0.0 < p.0 → i + place p (drop i rows) ≡ place p rows
    → (i + 1) + place p (drop (i + 1) rows) ≡ place p rows
unfolding place
place-later rows p i d inside low so_far =
    let here : nat_lt (get_or rows i d).0.0 p.0 ≡ true = grind (arith, nat_tests) in
    let goes : place p (drop i rows) ≡ suc (place p (drop (suc i) rows)) = ap (place p) (drop-cons rows i d inside) ∙ ap (λ b. cond b (suc (place p (drop (suc i) rows))) 0) here in
    let next : place p (drop (i + 1) rows) ≡ place p (drop (suc i) rows) = ap (λ k. place p (drop k rows)) (add-one i) in
    omega (arith, goes, next, so_far)

pub place-end : (rows : List Row) (p : VPid) (i : ℕ) → length rows ≤ i → i + place p (drop i rows) ≡ place p rows → i ≡ place p rows
unfolding place
place-end rows p i all so_far =
    let ends : place p (drop i rows) ≡ 0 = ap (place p) (drop_all i rows all) in
    omega (arith, ends, so_far)

-- tests of numbers
same_number : (n t : ℕ) → (n == t) ≡ eq_by_cmp nat_cmp t n
same_number n t = (let turned : (n == t) ≡ (t == n) = grind (arith, nat_tests) in turned) ∙ sym (unsigned_tied t n)

above : (n t : ℕ) → nat_lt n t ≡ true → nat_cmp t n ≡ Greater
above n t low = grind (arith, nat_tests)

at_number : (n t : ℕ) → n ≡ t → nat_cmp t n ≡ Equal
at_number n t same = grind (arith, nat_tests)

below : (n t : ℕ) → nat_lt n t ≡ false → eq_by_cmp nat_cmp t n ≡ false → nat_cmp t n ≡ Less
below n t high other = grind (arith, nat_tests)

lower : (n t : ℕ) → t < n → nat_cmp t n ≡ Less
lower n t low = grind (arith, nat_tests)

same_pid : (p q : VPid) → p.0 ≡ q.0 → p ≡ q
same_pid p q is = ap (λ (n : ℕ). record { 0 = n }) is

-- the row of a number
in_rows : (rows : List Row) (p : VPid) → option_map (λ row. row.1) (find (λ row. row.0.0 == p.0) rows) ≡ map.find vpid_cmp p rows
in_rows [] p = refl
in_rows (row ∷ rest) p =
    ap (λ b. option_map (λ row. row.1) (cond b (Some row) (find (λ row. row.0.0 == p.0) rest))) (same_number row.0.0 p.0)
    ∙ elim (eq_by_cmp nat_cmp p.0 row.0.0) as (λ b. option_map (λ row. row.1) (cond b (Some row) (find (λ row. row.0.0 == p.0) rest)) ≡ cond b (Some row.1) (map.find vpid_cmp p rest)) [
      | true ↦ refl
      | false ↦ in_rows rest p
    ]

pub row-found : (rows : List Row) (p : VPid) → option_map (λ row. row.1) (find (λ row. row.0.0 == p.0) rows) ≡ map.get (members_of rows) p
unfolding members_of
row-found rows p = in_rows rows p ∙ sym (map.get-from_entries vpid_total rows p)

-- what the row at the place of a number tells
abbrev number_at : List Row → ℕ → Option ℕ
number_at rows i = option_map (λ row. row.0.0) (slice_get rows i)

no_lower : (rows : List Row) (p q : VPid) → p.0 < q.0 → T (below_all vpid_cmp q rows) → map.find vpid_cmp p rows ≡ None
no_lower [] p q low rises = refl
no_lower (row ∷ rest) p q low rises =
    let higher : is_lt (nat_cmp q.0 row.0.0) ≡ true = tested (is_lt (nat_cmp q.0 row.0.0)) (first _ _ rises) in
    let other : eq_by_cmp nat_cmp p.0 row.0.0 ≡ false = missed q.0 row.0.0 p.0 low higher in
    ap (λ b. cond b (Some row.1) (map.find vpid_cmp p rest)) other ∙ no_lower rest p q low (second _ _ rises)
  where
    tested : (b : Bool) → T b → b ≡ true
    tested true h = refl
    tested false h = absurd h

    missed : (k n t : ℕ) → t < k → is_lt (nat_cmp k n) ≡ true → eq_by_cmp nat_cmp t n ≡ false
    missed k n t low is = elim (nat_lt k n) as (λ b. nat_lt k n ≡ b → is_lt (cond b Less (cond (k == n) Equal Greater)) ≡ true → eq_by_cmp nat_cmp t n ≡ false) [
      | true ↦ λ e h. let after : k < n = grind (arith, nat_tests, e) in unsigned_tied t n ∙ grind (arith, nat_tests)
      | false ↦ λ e h. elim (k == n) as (λ b. is_lt (cond b Equal Greater) ≡ true → eq_by_cmp nat_cmp t n ≡ false) [ true ↦ λ h. cc | false ↦ λ h. cc ] h
    ] refl is

not_placed : (rows : List Row) (p : VPid) → T (map.is_sorted vpid_cmp rows) → (number_at rows (place p rows) ≡ Some p.0 → ⊥) → map.find vpid_cmp p rows ≡ None
unfolding place
not_placed [] p rises other = refl
not_placed (row ∷ rest) p rises other =
    elim (nat_lt row.0.0 p.0) as (λ b. nat_lt row.0.0 p.0 ≡ b → (number_at (row ∷ rest) (cond b (suc (place p rest)) 0) ≡ Some p.0 → ⊥) → map.find vpid_cmp p (row ∷ rest) ≡ None) [
      | true ↦ λ low differs.
          ap (λ r. cond (is_eq r) (Some row.1) (map.find vpid_cmp p rest)) (above row.0.0 p.0 low)
          ∙ not_placed rest p (second _ _ rises) differs
      | false ↦ λ high differs.
          let apart : row.0.0 ≢ p.0 = λ same. differs (ap Some same) in
          let higher : p.0 < row.0.0 = grind (arith, nat_tests, high) in
          ap (λ r. cond (is_eq r) (Some row.1) (map.find vpid_cmp p rest)) (lower row.0.0 p.0 higher)
          ∙ no_lower rest p row.0 higher (first _ _ rises)
    ] refl other

placed : (rows : List Row) (p : VPid) (found : Row) → slice_get rows (place p rows) ≡ Some found → found.0.0 ≡ p.0 → map.find vpid_cmp p rows ≡ Some found.1
unfolding place
placed [] p found is same = cc
placed (row ∷ rest) p found is same =
    elim (nat_lt row.0.0 p.0) as (λ b. nat_lt row.0.0 p.0 ≡ b → slice_get (row ∷ rest) (cond b (suc (place p rest)) 0) ≡ Some found → map.find vpid_cmp p (row ∷ rest) ≡ Some found.1) [
      | true ↦ λ low at. ap (λ r. cond (is_eq r) (Some row.1) (map.find vpid_cmp p rest)) (above row.0.0 p.0 low) ∙ placed rest p found at same
      | false ↦ λ high at.
          let here : row ≡ found = cc in
          ap (λ r. cond (is_eq r) (Some row.1) (map.find vpid_cmp p rest)) (at_number row.0.0 p.0 (ap (λ r. r.0.0) here ∙ same)) ∙ ap (λ r. Some r.1) here
    ] refl is

-- one row in the place of another of its number
written : (rows : List Row) (p : VPid) (before row : Row) → slice_get rows (place p rows) ≡ Some before → before.0.0 ≡ p.0 → row.0 ≡ p
    → set rows (place p rows) row ≡ put vpid_cmp p row.1 rows
unfolding place
written [] p before row is same kept = cc
written (head ∷ rest) p before row is same kept =
    elim (nat_lt head.0.0 p.0) as (λ b. nat_lt head.0.0 p.0 ≡ b → slice_get (head ∷ rest) (cond b (suc (place p rest)) 0) ≡ Some before
    → set (head ∷ rest) (cond b (suc (place p rest)) 0) row ≡ put vpid_cmp p row.1 (head ∷ rest)) [
      | true ↦ λ low found.
          ap (λ es. head ∷ es) (written rest p before row found same kept)
          ∙ sym (ap (λ r. by_order r ((p, row.1) ∷ head ∷ rest) ((head.0, row.1) ∷ rest) (head ∷ put vpid_cmp p row.1 rest)) (above head.0.0 p.0 low))
      | false ↦ λ high found.
          let here : head.0.0 ≡ p.0 = ap (λ r. r.0.0) (let same_row : head ≡ before = cc in same_row) ∙ same in
          ap (λ q. (q, row.1) ∷ rest) (kept ∙ sym (same_pid head.0 p here))
          ∙ sym (ap (λ r. by_order r ((p, row.1) ∷ head ∷ rest) ((head.0, row.1) ∷ rest) (head ∷ put vpid_cmp p row.1 rest)) (at_number head.0.0 p.0 here))
    ] refl is

-- a row in its place
inserted : (rows : List Row) (p : VPid) (m : Member) → map.find vpid_cmp p rows ≡ None → insert rows (place p rows) (p, m) ≡ put vpid_cmp p m rows
unfolding place
inserted [] p m new = refl
inserted (head ∷ rest) p m new =
    elim (nat_lt head.0.0 p.0) as (λ b. nat_lt head.0.0 p.0 ≡ b → insert (head ∷ rest) (cond b (suc (place p rest)) 0) (p, m) ≡ put vpid_cmp p m (head ∷ rest)) [
      | true ↦ λ low.
          let later : map.find vpid_cmp p rest ≡ None = sym (ap (λ r. cond (is_eq r) (Some head.1) (map.find vpid_cmp p rest)) (above head.0.0 p.0 low)) ∙ new in
          ap (λ es. head ∷ es) (inserted rest p m later) ∙ sym (ap puts (above head.0.0 p.0 low))
      | false ↦ λ high.
          sym (ap puts (below head.0.0 p.0 high (not_found (eq_by_cmp nat_cmp p.0 head.0.0) head.1 (map.find vpid_cmp p rest) new)))
    ] refl
  where
    puts : Ordering → List Row
    puts r = by_order r ((p, m) ∷ head ∷ rest) ((head.0, m) ∷ rest) (head ∷ put vpid_cmp p m rest)

    not_found : (b : Bool) (x : Member) (other : Option Member) → cond b (Some x) other ≡ None → b ≡ false
    not_found true x other is = cc
    not_found false x other is = refl

-- as maps
put-from_entries : (rows : List Row) (p : VPid) (m : Member) → map.from_entries {R = vpid_cmp} (put vpid_cmp p m rows) ≡ map.insert (map.from_entries rows) p m
put-from_entries rows p m = map.same_map vpid_total vpid_exact _ _ (λ q.
    map.get-from_entries vpid_total (put vpid_cmp p m rows) q ∙ find-put vpid_cmp vpid_total q p m rows
    ∙ ap (cond (eq_by_cmp vpid_cmp q p) (Some m)) (sym (map.get-from_entries vpid_total rows q)) ∙ sym (map.get-insert vpid_total (map.from_entries rows) p m q))

-- rows with one put in its place
pub record Puts (rows after : List Row) (p : VPid) (m : Member) : Type 0 where
  pub members : members_of after ≡ map.insert (members_of rows) p m
  pub rising : IsRising after

puts : (rows after : List Row) (p : VPid) (m : Member) → IsRising rows → after ≡ put vpid_cmp p m rows → Puts rows after p m
unfolding members_of IsRising
puts rows after p m rises is = record {
  members = ap (λ es. map.from_entries {R = vpid_cmp} es) is ∙ put-from_entries rows p m;
  rising = subst (λ es. T (map.is_sorted vpid_cmp es)) (sym is) (is_sorted-put vpid_cmp vpid_total p m rows rises);
}

-- a new row, where the rows are seen as a slice
pub put_new : (rows seen after : List Row) (i : ℕ) (p : VPid) (m : Member) → seen ≡ rows → IsRising rows → IsIndex p seen None → i ≡ place p rows → after ≡ insert rows i (p, m)
    → Puts rows after p m
unfolding members_of
put_new rows seen after i p m same rises new at is =
    puts rows after p m rises
    (is ∙ ap (λ k. insert rows k (p, m)) at
    ∙ inserted rows p m (sym (map.get-from_entries vpid_total rows p) ∙ subst (λ l. IsIndex p l None) same new))

-- one in the place of another
same_at : (rows : List Row) (p : VPid) (i : ℕ) (row : Row) → IsIndex p rows (Some i) → slice_get rows i ≡ Some row → row.0.0 ≡ p.0
same_at rows p i row at found = let named : Some row.0.0 ≡ Some p.0 = ap (option_map (λ r. r.0.0)) (sym found) ∙ at.1 in cc

over : (rows : List Row) (p : VPid) (i : ℕ) (d row : Row) → IsRising rows → IsIndex p rows (Some i) → i < length rows → row.0 ≡ p → Puts rows (set rows i row) p row.1
over rows p i d row rises at inside kept =
    let found : slice_get rows i ≡ Some (get_or rows i d) = slice_get-get_or rows i d inside in
    puts rows (set rows i row) p row.1 rises
    (ap (λ k. set rows k row) at.0
    ∙ written rows p (get_or rows i d) row (ap (slice_get rows) (sym at.0) ∙ found) (same_at rows p i (get_or rows i d) at found) kept)

pub put_over : (rows seen : List Row) (i : ℕ) (p : VPid) (m : Member) → seen ≡ rows → IsRising rows → IsIndex p seen (Some i) → i < length seen → Puts rows (set rows i (p, m)) p m
put_over rows seen i p m same rises at inside =
    over rows p i (p, m) (p, m) rises (subst (λ l. IsIndex p l (Some i)) same at) (subst (λ (l : List Row). i < length l) same inside) refl

-- one row is changed
member_at : (rows : List Row) (p : VPid) (i : ℕ) (d : Row) → IsIndex p rows (Some i) → i < length rows → map.get (members_of rows) p ≡ Some (get_or rows i d).1
unfolding members_of
member_at rows p i d at inside =
    let found : slice_get rows i ≡ Some (get_or rows i d) = slice_get-get_or rows i d inside in
    map.get-from_entries vpid_total rows p ∙ placed rows p (get_or rows i d) (ap (slice_get rows) (sym at.0) ∙ found) (same_at rows p i (get_or rows i d) at found)

still : (rows : List Row) (p : VPid) (i : ℕ) (d row : Row) → IsIndex p rows (Some i) → i < length rows → row.0 ≡ (get_or rows i d).0 → row.0 ≡ p
still rows p i d row at inside kept = kept ∙ same_pid (get_or rows i d).0 p (same_at rows p i (get_or rows i d) at (slice_get-get_or rows i d inside))

pub changed_members : (rows : List Row) (p : VPid) (i : ℕ) (d row : Row) (change : Member → Member) → IsRising rows → IsIndex p rows (Some i) → i < length rows
    → row.0 ≡ (get_or rows i d).0 → row.1 ≡ change (get_or rows i d).1 → members_of (set rows i row) ≡ changed (members_of rows) p change
changed_members rows p i d row change rises at inside kept is =
    (over rows p i d row rises at inside (still rows p i d row at inside kept)).members ∙ ap (map.insert (members_of rows) p) is
    ∙ sym (ap (changed_to (members_of rows) p change) (member_at rows p i d at inside))

pub changed_rising : (rows : List Row) (p : VPid) (i : ℕ) (d row : Row) → IsRising rows → IsIndex p rows (Some i) → i < length rows → row.0 ≡ (get_or rows i d).0
    → IsRising (set rows i row)
changed_rising rows p i d row rises at inside kept = (over rows p i d row rises at inside (still rows p i d row at inside kept)).rising

-- no row is changed
pub unchanged_members : (rows : List Row) (p : VPid) (change : Member → Member) → IsIndex p rows None → members_of rows ≡ changed (members_of rows) p change
unchanged_members rows p change none = sym (ap (changed_to (members_of rows) p change) none)

-- where a row stands
pub index_found : (rows : List Row) (p : VPid) (i : ℕ) (row : Row) → i ≡ place p rows → slice_get rows i ≡ Some row → row.0.0 ≡ p.0 → IsIndex p rows (Some i)
index_found rows p i row at found same = (at, ap (option_map (λ r. r.0.0)) found ∙ ap Some same)

pub index_none : (rows : List Row) (p : VPid) (i : ℕ) (found : Option Row) → IsRising rows → i ≡ place p rows → slice_get rows i ≡ found
    → (option_map (λ row. row.0.0) found ≡ Some p.0 → ⊥) → IsIndex p rows None
unfolding members_of IsRising
index_none rows p i found rises at is other =
    map.get-from_entries vpid_total rows p
    ∙ not_placed rows p rises (λ same. other (ap (option_map (λ row. row.0.0)) (sym is ∙ ap (slice_get rows) at) ∙ same))

-- rows without those of a number
filtered : (rows : List Row) (p : VPid) → filter (λ row. not (row.0.0 == p.0)) rows ≡ where_key vpid_cmp (λ q. not (eq_by_cmp vpid_cmp p q)) rows
filtered [] p = refl
filtered (row ∷ rest) p =
    ap (λ b. cond (not b) (row ∷ filter (λ row. not (row.0.0 == p.0)) rest) (filter (λ row. not (row.0.0 == p.0)) rest)) (same_number row.0.0 p.0)
    ∙ ap (λ l. cond (not (eq_by_cmp vpid_cmp p row.0)) (row ∷ l) l) (filtered rest p)

turned : {A : Type 0} (a b : Bool) (x y : A) → a ≡ b → cond (not a) x y ≡ cond b y x
turned true b x y same = ap (λ c. cond c y x) same
turned false b x y same = ap (λ c. cond c y x) same

removed : (rows : List Row) (p : VPid) → map.from_entries {R = vpid_cmp} (where_key vpid_cmp (λ q. not (eq_by_cmp vpid_cmp p q)) rows) ≡ map.remove (map.from_entries rows) p
removed rows p = map.same_map vpid_total vpid_exact _ _ (λ q.
    map.get-from_entries vpid_total (where_key vpid_cmp (λ k. not (eq_by_cmp vpid_cmp p k)) rows) q
    ∙ find-where_key vpid_cmp (λ k. not (eq_by_cmp vpid_cmp p k)) q (λ x tied. ap (λ k. not (eq_by_cmp vpid_cmp p k)) (sym (vpid_exact q x tied))) rows
    ∙ turned (eq_by_cmp vpid_cmp p q) (eq_by_cmp vpid_cmp q p) (map.find vpid_cmp q rows) None ((eq_by_cmp_equiv vpid_total).symm p q)
    ∙ ap (cond (eq_by_cmp vpid_cmp q p) None) (sym (map.get-from_entries vpid_total rows q)) ∙ sym (map.get-remove vpid_total (map.from_entries rows) p q))

pub removed_members : (rows after : List Row) (p : VPid) → after ≡ filter (λ row. not (row.0.0 == p.0)) rows → members_of after ≡ map.remove (members_of rows) p
unfolding members_of
removed_members rows after p is = ap (λ es. map.from_entries {R = vpid_cmp} es) (is ∙ filtered rows p) ∙ removed rows p

pub removed_rising : (rows after : List Row) (p : VPid) → after ≡ filter (λ row. not (row.0.0 == p.0)) rows → IsRising rows → IsRising after
unfolding IsRising
removed_rising rows after p is rises =
    subst (λ es. T (map.is_sorted vpid_cmp es)) (sym (is ∙ filtered rows p)) (is_sorted-where_key vpid_cmp (λ q. not (eq_by_cmp vpid_cmp p q)) rows rises)

-- the map's entries are the rows
entries-rows : (rows : List Row) → IsRising rows → map.entries (members_of rows) ≡ rows
unfolding members_of IsRising
entries-rows rows rises =
    ap map.entries (map.same_map vpid_total vpid_exact (map.from_entries {R = vpid_cmp} rows) (map.from_sorted rows) (λ q.
    map.get-from_entries vpid_total rows q ∙ sym (map.get-from_sorted vpid_cmp rows q rises)))
    ∙ map.entries-from_sorted vpid_cmp rows rises

pub counts : (rows : List Row) → IsRising rows → length rows ≡ map.len (members_of rows)
counts rows rises = ap length (sym (entries-rows rows rises)) ∙ sym (map.len-entries (members_of rows))

pub each_row : (rows : List Row) (stage : Stage) (found : Bool) → IsRising rows → found ≡ list_all (λ row. has_reached stage row.1) rows → found ≡ all_reached (members_of rows) stage
unfolding all_reached
each_row rows stage found rises is =
    is ∙ sym (list_all-map (has_reached stage) (λ row. row.1) rows) ∙ ap (λ es. list_all (has_reached stage) (each (λ e. e.1) es)) (sym (entries-rows rows rises))

-- no rows
pub none_rising : (rows : List Row) → rows ≡ [] → IsRising rows
unfolding IsRising
none_rising rows none = subst (λ l. T (map.is_sorted vpid_cmp l)) (sym none) tt

pub none_members : (rows : List Row) → rows ≡ [] → members_of rows ≡ map.empty
unfolding members_of
none_members rows none = ap (λ l. map.from_entries {R = vpid_cmp} l) none

-- a full vector has no room
pub full_of_rows : (rows seen : List Row) (len cap : ℕ) → seen ≡ rows → length seen ≡ len → IsRising rows → cap ≤ len → map.len (members_of rows) < cap → ⊥
full_of_rows rows seen len cap same is rises full room =
    let counted : length seen ≡ map.len (members_of rows) = ap length same ∙ counts rows rises in
    absurd (omega (arith, counted, is, full, room))

-- an insert for which there is room
at_ok : {A E : Type 0} (result : Result A E) (P : Type 0) → IsOk result → OnOk result P → P
at_ok (Ok x) P ok told = told
at_ok (Err e) P ok told = true_false (sym ok)

pub put_seen : {A E : Type 0} (result : Result A E) (old new now : Members) (p : VPid) (m : Member) (limit cap : ℕ) → OnOk result (new ≡ map.insert old p m) → (map.len old < cap → IsOk result)
    → old ≡ now → m ≡ fresh → map.len now < limit → limit ≤ cap → new ≡ map.insert now p fresh
put_seen result old new now p m limit cap put succeeds seen same room fits =
    let few : map.len old < limit = subst (λ (n : Members). map.len n < limit) (sym seen) room in
    at_ok result (new ≡ map.insert old p m) (succeeds (omega (arith, few, fits))) put ∙ (λ i. map.insert (seen i) p (same i))
