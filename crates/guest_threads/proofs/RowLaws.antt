-- Rows in rising order of their numbers, and the map that they are seen as.
--     place-here, place-later, place-end      one turn of the search for a place, and its end
--     row-found                   the row of a number
--     placed, not_placed          what the row at the place of a number tells of the map
--     put_threads, put_rising     entries after one is put in its place: by `written` in place of another, by `inserted` as a new one
--     removed_threads, removed_rising      rows after those of a number are gone
use Rattle.std.proofs.Common.{◌≡◌, ◌≢◌, ℕ, suc, ◌+◌, ◌<◌, ◌≤◌, Bool, true, false, cond, not, T, Ordering, List, [], ◌∷◌, length, map as each, get_or, set, drop, Less, Equal, Greater, refl, sym, ap, subst, ◌∙◌, arith, add-one, drop-cons}
use Rattle.std.specs.Prelude.{Option, Some, None, ◌==◌, nat_lt, find, filter, slice_get, option_map}
use Rattle.std.specs.List.{insert}
use Rattle.std.specs.Ordering.{nat_cmp, is_eq, is_lt, eq_by_cmp}
use Rattle.std.specs.Cmp.{nat_cmp_total, unsigned_tied, eq_by_cmp_equiv}
use Rattle.std.specs.FinMap as map
use Rattle.std.specs.FinMap.Entries.{put, by_order, below_all, where_key, is_sorted-put, is_sorted-where_key, find-put, find-where_key}
use Rattle.std.proofs.lemmas.Bool.Decides.{nat_tests}
use Rattle.std.proofs.lemmas.List.{drop_all, length-map}
use Rattle.std.proofs.lemmas.Option.{slice_get-get_or}
use Rattle.plain_process.specs.declared.user_part.ThreadPart.{ThreadPart}
use Rattle.guest_threads.specs.declared.rows.Row.{Row}
use Rattle.image_process.proofs.RisingKeys.{front, back, rising}
use Rattle.guest_threads.specs.Rows.{part_of, entry_of, entries_of, threads_of, IsRising, place, IsIndex}
use Rattle.guest_threads.specs.Threads.{changed_by, changed}

-- the search for a place
pub place-here : (rows : List Row) (t i : ℕ) (row : Row) → i < length rows → row ≡ get_or rows i row → t ≤ row.number → i + place t (drop i rows) ≡ place t rows
    → i ≡ place t rows
unfolding place
place-here rows t i row inside is high so_far =
    let split : drop i rows ≡ row ∷ drop (suc i) rows = drop-cons rows i row inside ∙ ap (λ first. first ∷ drop (suc i) rows) (sym is) in
    let here : nat_lt row.number t ≡ false = grind (arith, nat_tests) in
    let ends : place t (drop i rows) ≡ 0 = ap (place t) split ∙ ap (λ b. cond b (suc (place t (drop (suc i) rows))) 0) here in
    omega (arith, ends, so_far)

pub place-later : (rows : List Row) (t i : ℕ) (row : Row) → i < length rows → row ≡ get_or rows i row → row.number < t → i + place t (drop i rows) ≡ place t rows
    → (i + 1) + place t (drop (i + 1) rows) ≡ place t rows
unfolding place
place-later rows t i row inside is low so_far =
    let split : drop i rows ≡ row ∷ drop (suc i) rows = drop-cons rows i row inside ∙ ap (λ first. first ∷ drop (suc i) rows) (sym is) in
    let here : nat_lt row.number t ≡ true = grind (arith, nat_tests) in
    let goes : place t (drop i rows) ≡ suc (place t (drop (suc i) rows)) = ap (place t) split ∙ ap (λ b. cond b (suc (place t (drop (suc i) rows))) 0) here in
    let next : place t (drop (i + 1) rows) ≡ place t (drop (suc i) rows) = ap (λ k. place t (drop k rows)) (add-one i) in
    omega (arith, goes, next, so_far)

pub place-end : (rows : List Row) (t i : ℕ) → length rows ≤ i → i + place t (drop i rows) ≡ place t rows → i ≡ place t rows
unfolding place
place-end rows t i all so_far =
    let ends : place t (drop i rows) ≡ 0 = ap (place t) (drop_all i rows all) in
    omega (arith, ends, so_far)

-- tests of numbers
same_number : (n t : ℕ) → (n == t) ≡ eq_by_cmp nat_cmp t n
same_number n t = (let turned : (n == t) ≡ (t == n) = grind (arith, nat_tests) in turned) ∙ sym (unsigned_tied t n)

above : (n t : ℕ) → nat_lt n t ≡ true → nat_cmp t n ≡ Greater
above n t low = grind (arith, nat_tests)

at_number : (n t : ℕ) → n ≡ t → nat_cmp t n ≡ Equal
at_number n t same = grind (arith, nat_tests)

below : (n t : ℕ) → nat_lt n t ≡ false → eq_by_cmp nat_cmp t n ≡ false → nat_cmp t n ≡ Less
below n t high other = grind (arith, nat_tests)

-- the row of a number
in_entries : (rows : List Row) (t : ℕ) → option_map part_of (find (λ row. row.number == t) rows) ≡ map.find nat_cmp t (entries_of rows)
in_entries [] t = refl
in_entries (row ∷ rest) t =
    ap (λ b. option_map part_of (cond b (Some row) (find (λ row. row.number == t) rest))) (same_number row.number t)
    ∙ elim (eq_by_cmp nat_cmp t row.number) as (λ b. option_map part_of (cond b (Some row) (find (λ row. row.number == t) rest)) ≡ cond b (Some (part_of row)) (map.find nat_cmp t (entries_of rest))) [
      | true ↦ refl
      | false ↦ in_entries rest t
    ]

pub row-found : (rows : List Row) (t : ℕ) → option_map part_of (find (λ row. row.number == t) rows) ≡ map.get (threads_of rows) t
unfolding threads_of
row-found rows t = in_entries rows t ∙ sym (map.get-from_entries nat_cmp_total (entries_of rows) t)

-- what the row at the place of a number tells
number_at : List Row → ℕ → Option ℕ
number_at rows i = option_map (λ row. row.number) (slice_get rows i)

no_lower : {X : Type 0} (es : List (ℕ × X)) (t k : ℕ) → t < k → T (below_all nat_cmp k es) → map.find nat_cmp t es ≡ None
no_lower [] t k low rises = refl
no_lower (e ∷ es) t k low rises =
    let higher : k < e.0 = rising k e.0 (front (is_lt (nat_cmp k e.0)) (below_all nat_cmp k es) rises) in
    let other : eq_by_cmp nat_cmp t e.0 ≡ false = unsigned_tied t e.0 ∙ grind (arith, nat_tests) in
    ap (λ b. cond b (Some e.1) (map.find nat_cmp t es)) other ∙ no_lower es t k low (back (is_lt (nat_cmp k e.0)) (below_all nat_cmp k es) rises)

not_placed : (rows : List Row) (t : ℕ) → T (map.is_sorted nat_cmp (entries_of rows)) → (number_at rows (place t rows) ≡ Some t → ⊥) → map.find nat_cmp t (entries_of rows) ≡ None
unfolding place number_at
not_placed [] t rises other = refl
not_placed (first ∷ rest) t rises other =
    elim (nat_lt first.number t) as (λ b. nat_lt first.number t ≡ b → (number_at (first ∷ rest) (cond b (suc (place t rest)) 0) ≡ Some t → ⊥) → map.find nat_cmp t (entries_of (first ∷ rest)) ≡ None) [
      | true ↦ λ low differs.
          ap (λ r. cond (is_eq r) (Some (part_of first)) (map.find nat_cmp t (entries_of rest))) (above first.number t low)
          ∙ not_placed rest t (back (below_all nat_cmp first.number (entries_of rest)) (map.is_sorted nat_cmp (entries_of rest)) rises) differs
      | false ↦ λ high differs.
          let apart : first.number ≢ t = λ same. differs (ap Some same) in
          let higher : t < first.number = grind (arith, nat_tests, high) in
          let missed : eq_by_cmp nat_cmp t first.number ≡ false = unsigned_tied t first.number ∙ grind (arith, nat_tests) in
          ap (λ b. cond b (Some (part_of first)) (map.find nat_cmp t (entries_of rest))) missed
          ∙ no_lower (entries_of rest) t first.number higher (front (below_all nat_cmp first.number (entries_of rest)) (map.is_sorted nat_cmp (entries_of rest)) rises)
    ] refl other

placed : (rows : List Row) (t : ℕ) (row : Row) → slice_get rows (place t rows) ≡ Some row → row.number ≡ t → map.find nat_cmp t (entries_of rows) ≡ Some (part_of row)
unfolding place
placed [] t row is same = cc
placed (first ∷ rest) t row is same =
    elim (nat_lt first.number t) as (λ b. nat_lt first.number t ≡ b → slice_get (first ∷ rest) (cond b (suc (place t rest)) 0) ≡ Some row → map.find nat_cmp t (entries_of (first ∷ rest)) ≡ Some (part_of row)) [
      | true ↦ λ low found. ap (λ r. cond (is_eq r) (Some (part_of first)) (map.find nat_cmp t (entries_of rest))) (above first.number t low) ∙ placed rest t row found same
      | false ↦ λ high found.
          let here : first ≡ row = cc in
          ap (λ r. cond (is_eq r) (Some (part_of first)) (map.find nat_cmp t (entries_of rest))) (at_number first.number t (ap (λ r. r.number) here ∙ same)) ∙ ap (λ r. Some (part_of r)) here
    ] refl is

-- one row in the place of another of its number
written : (rows : List Row) (t : ℕ) (before row : Row) → slice_get rows (place t rows) ≡ Some before → before.number ≡ t → row.number ≡ t
    → entries_of (set rows (place t rows) row) ≡ put nat_cmp t (part_of row) (entries_of rows)
unfolding place
written [] t before row is same kept = cc
written (first ∷ rest) t before row is same kept =
    elim (nat_lt first.number t) as (λ b. nat_lt first.number t ≡ b → slice_get (first ∷ rest) (cond b (suc (place t rest)) 0) ≡ Some before
    → entries_of (set (first ∷ rest) (cond b (suc (place t rest)) 0) row) ≡ put nat_cmp t (part_of row) (entries_of (first ∷ rest))) [
      | true ↦ λ low found.
          ap (λ es. entry_of first ∷ es) (written rest t before row found same kept)
          ∙ sym (ap (λ r. by_order r ((t, part_of row) ∷ entries_of (first ∷ rest)) ((first.number, part_of row) ∷ entries_of rest) (entry_of first ∷ put nat_cmp t (part_of row) (entries_of rest))) (above first.number t low))
      | false ↦ λ high found.
          let here : first.number ≡ t = ap (λ r. r.number) (let same_row : first ≡ before = cc in same_row) ∙ same in
          ap (λ n. (n, part_of row) ∷ entries_of rest) (kept ∙ sym here)
          ∙ sym (ap (λ r. by_order r ((t, part_of row) ∷ entries_of (first ∷ rest)) ((first.number, part_of row) ∷ entries_of rest) (entry_of first ∷ put nat_cmp t (part_of row) (entries_of rest))) (at_number first.number t here))
    ] refl is

-- a row in its place
inserted : (rows : List Row) (row : Row) → map.find nat_cmp row.number (entries_of rows) ≡ None
    → entries_of (insert rows (place row.number rows) row) ≡ put nat_cmp row.number (part_of row) (entries_of rows)
unfolding place
inserted [] row new = refl
inserted (first ∷ rest) row new =
    elim (nat_lt first.number row.number) as (λ b. nat_lt first.number row.number ≡ b
    → entries_of (insert (first ∷ rest) (cond b (suc (place row.number rest)) 0) row) ≡ put nat_cmp row.number (part_of row) (entries_of (first ∷ rest))) [
      | true ↦ λ low.
          let later : map.find nat_cmp row.number (entries_of rest) ≡ None =
          sym (ap (λ r. cond (is_eq r) (Some (part_of first)) (map.find nat_cmp row.number (entries_of rest))) (above first.number row.number low)) ∙ new in
          ap (λ es. entry_of first ∷ es) (inserted rest row later) ∙ sym (ap (puts first rest row) (above first.number row.number low))
      | false ↦ λ high.
          sym (ap (puts first rest row) (below first.number row.number high (not_found (eq_by_cmp nat_cmp row.number first.number) (part_of first) (map.find nat_cmp row.number (entries_of rest)) new)))
    ] refl
  where
    puts : Row → List Row → Row → Ordering → List (ℕ × ThreadPart)
    puts first rest row r = by_order r (entry_of row ∷ entries_of (first ∷ rest)) ((first.number, part_of row) ∷ entries_of rest) (entry_of first ∷ put nat_cmp row.number (part_of row) (entries_of rest))

    not_found : {X : Type 0} (b : Bool) (x : X) (rest : Option X) → cond b (Some x) rest ≡ None → b ≡ false
    not_found true x rest is = cc
    not_found false x rest is = refl

-- no rows
pub no_threads : (rows : List Row) → rows ≡ [] → threads_of rows ≡ map.empty
unfolding threads_of
no_threads rows none = ap (λ l. map.from_entries {R = nat_cmp} (entries_of l)) none

pub none_rising : (rows : List Row) → rows ≡ [] → IsRising rows
unfolding IsRising
none_rising rows none = subst (λ l. T (map.is_sorted nat_cmp (entries_of l))) (sym none) tt

-- as maps
put-from_entries : {X : Type 0} (es : List (ℕ × X)) (k : ℕ) (v : X) → map.from_entries {R = nat_cmp} (put nat_cmp k v es) ≡ map.insert (map.from_entries es) k v
put-from_entries es k v = map.same_map nat_cmp_total map.nat_cmp-IsAntisymmetric _ _ (λ q.
    map.get-from_entries nat_cmp_total (put nat_cmp k v es) q ∙ find-put nat_cmp nat_cmp_total q k v es
    ∙ ap (cond (eq_by_cmp nat_cmp q k) (Some v)) (sym (map.get-from_entries nat_cmp_total es q)) ∙ sym (map.get-insert nat_cmp_total (map.from_entries es) k v q))

-- rows whose entries are those with one put in its place
pub record Puts (rows after : List Row) (t : ℕ) (part : ThreadPart) : Type 0 where
  pub threads : threads_of after ≡ map.insert (threads_of rows) t part
  pub rising : IsRising after

puts : (rows after : List Row) (t : ℕ) (part : ThreadPart) → IsRising rows → entries_of after ≡ put nat_cmp t part (entries_of rows) → Puts rows after t part
unfolding threads_of IsRising
puts rows after t part rises is = record {
  threads = ap (λ es. map.from_entries {R = nat_cmp} es) is ∙ put-from_entries (entries_of rows) t part;
  rising = subst (λ es. T (map.is_sorted nat_cmp es)) (sym is) (is_sorted-put nat_cmp nat_cmp_total t part (entries_of rows) rises);
}

-- a new row, where the rows are seen as a slice
puts_new : (rows seen after : List Row) (i : ℕ) (row : Row) → seen ≡ rows → IsRising rows → IsIndex row.number seen None → i ≡ place row.number rows → after ≡ insert rows i row
    → Puts rows after row.number (part_of row)
unfolding threads_of
puts_new rows seen after i row same rises new at is =
    puts rows after row.number (part_of row) rises
    (ap entries_of is ∙ ap (λ k. entries_of (insert rows k row)) at
    ∙ inserted rows row (sym (map.get-from_entries nat_cmp_total (entries_of rows) row.number) ∙ subst (λ l. IsIndex row.number l None) same new))

pub put_new_threads : (rows seen after : List Row) (i : ℕ) (row : Row) → seen ≡ rows → IsRising rows → IsIndex row.number seen None → i ≡ place row.number rows → after ≡ insert rows i row
    → threads_of after ≡ map.insert (threads_of rows) row.number (part_of row)
put_new_threads rows seen after i row same rises new at is = (puts_new rows seen after i row same rises new at is).threads

pub put_new_rising : (rows seen after : List Row) (i : ℕ) (row : Row) → seen ≡ rows → IsRising rows → IsIndex row.number seen None → i ≡ place row.number rows → after ≡ insert rows i row
    → IsRising after
put_new_rising rows seen after i row same rises new at is = (puts_new rows seen after i row same rises new at is).rising

-- one in the place of another
same_at : (rows : List Row) (t i : ℕ) (row : Row) → IsIndex t rows (Some i) → slice_get rows i ≡ Some row → row.number ≡ t
same_at rows t i row at found = let named : Some row.number ≡ Some t = ap (option_map (λ r. r.number)) (sym found) ∙ at.1 in cc

over : (rows : List Row) (t i : ℕ) (d row : Row) → IsRising rows → IsIndex t rows (Some i) → i < length rows → row.number ≡ t → Puts rows (set rows i row) t (part_of row)
over rows t i d row rises at inside kept =
    let found : slice_get rows i ≡ Some (get_or rows i d) = slice_get-get_or rows i d inside in
    puts rows (set rows i row) t (part_of row) rises
    (ap (λ k. entries_of (set rows k row)) at.0
    ∙ written rows t (get_or rows i d) row (ap (slice_get rows) (sym at.0) ∙ found) (same_at rows t i (get_or rows i d) at found) kept)

over_seen : (rows seen : List Row) (i : ℕ) (row : Row) → seen ≡ rows → IsRising rows → IsIndex row.number seen (Some i) → i < length seen → Puts rows (set rows i row) row.number (part_of row)
over_seen rows seen i row same rises at inside =
    over rows row.number i row row rises (subst (λ l. IsIndex row.number l (Some i)) same at) (subst (λ (l : List Row). i < length l) same inside) refl

pub put_over_threads : (rows seen : List Row) (i : ℕ) (row : Row) → seen ≡ rows → IsRising rows → IsIndex row.number seen (Some i) → i < length seen
    → threads_of (set rows i row) ≡ map.insert (threads_of rows) row.number (part_of row)
put_over_threads rows seen i row same rises at inside = (over_seen rows seen i row same rises at inside).threads

pub put_over_rising : (rows seen : List Row) (i : ℕ) (row : Row) → seen ≡ rows → IsRising rows → IsIndex row.number seen (Some i) → i < length seen → IsRising (set rows i row)
put_over_rising rows seen i row same rises at inside = (over_seen rows seen i row same rises at inside).rising

-- the part of the thread whose row it is
pub part_at : (rows : List Row) (t i : ℕ) (d : Row) → IsIndex t rows (Some i) → i < length rows → map.get (threads_of rows) t ≡ Some (part_of (get_or rows i d))
unfolding threads_of
part_at rows t i d at inside =
    let found : slice_get rows i ≡ Some (get_or rows i d) = slice_get-get_or rows i d inside in
    map.get-from_entries nat_cmp_total (entries_of rows) t ∙ placed rows t (get_or rows i d) (ap (slice_get rows) (sym at.0) ∙ found) (same_at rows t i (get_or rows i d) at found)

-- one row is changed
still : (rows : List Row) (t i : ℕ) (d row : Row) → IsIndex t rows (Some i) → i < length rows → row.number ≡ (get_or rows i d).number → row.number ≡ t
still rows t i d row at inside kept = kept ∙ same_at rows t i (get_or rows i d) at (slice_get-get_or rows i d inside)

pub changed_threads : (rows : List Row) (t i : ℕ) (d row : Row) (change : ThreadPart → ThreadPart) → IsRising rows → IsIndex t rows (Some i) → i < length rows
    → row.number ≡ (get_or rows i d).number → part_of row ≡ change (part_of (get_or rows i d)) → threads_of (set rows i row) ≡ changed (threads_of rows) t change
changed_threads rows t i d row change rises at inside kept is =
    (over rows t i d row rises at inside (still rows t i d row at inside kept)).threads ∙ ap (map.insert (threads_of rows) t) is ∙ sym (ap (changed_by (threads_of rows) t change) (part_at rows t i d at inside))

pub changed_rising : (rows : List Row) (t i : ℕ) (d row : Row) → IsRising rows → IsIndex t rows (Some i) → i < length rows → row.number ≡ (get_or rows i d).number → IsRising (set rows i row)
changed_rising rows t i d row rises at inside kept = (over rows t i d row rises at inside (still rows t i d row at inside kept)).rising

-- the search for an index
pub index_found : (rows : List Row) (t i : ℕ) (row : Row) → i ≡ place t rows → slice_get rows i ≡ Some row → row.number ≡ t → IsIndex t rows (Some i)
index_found rows t i row at found same = (at, ap (option_map (λ r. r.number)) found ∙ ap Some same)

pub index_none : (rows : List Row) (t i : ℕ) (found : Option Row) → IsRising rows → i ≡ place t rows → slice_get rows i ≡ found → (option_map (λ row. row.number) found ≡ Some t → ⊥) → IsIndex t rows None
unfolding threads_of IsRising number_at
index_none rows t i found rises at is other =
    map.get-from_entries nat_cmp_total (entries_of rows) t
    ∙ not_placed rows t rises (λ same. other (ap (option_map (λ row. row.number)) (sym is ∙ ap (slice_get rows) at) ∙ same))

-- rows after those of a number are gone
filtered : (rows : List Row) (t : ℕ) → entries_of (filter (λ row. not (row.number == t)) rows) ≡ where_key nat_cmp (λ n. not (eq_by_cmp nat_cmp t n)) (entries_of rows)
filtered [] t = refl
filtered (row ∷ rest) t =
    ap (λ b. entries_of (cond (not b) (row ∷ filter (λ row. not (row.number == t)) rest) (filter (λ row. not (row.number == t)) rest))) (same_number row.number t)
    ∙ elim (eq_by_cmp nat_cmp t row.number) as (λ b. entries_of (cond (not b) (row ∷ filter (λ row. not (row.number == t)) rest) (filter (λ row. not (row.number == t)) rest))
    ≡ cond (not b) (entry_of row ∷ where_key nat_cmp (λ n. not (eq_by_cmp nat_cmp t n)) (entries_of rest)) (where_key nat_cmp (λ n. not (eq_by_cmp nat_cmp t n)) (entries_of rest))) [
      | true ↦ filtered rest t
      | false ↦ ap (λ es. entry_of row ∷ es) (filtered rest t)
    ]

turned : {A : Type 0} (a b : Bool) (x y : A) → a ≡ b → cond (not a) x y ≡ cond b y x
turned a true x y same = ap (λ c. cond (not c) x y) same
turned a false x y same = ap (λ c. cond (not c) x y) same

removed : {X : Type 0} (es : List (ℕ × X)) (t : ℕ) → map.from_entries {R = nat_cmp} (where_key nat_cmp (λ n. not (eq_by_cmp nat_cmp t n)) es) ≡ map.remove (map.from_entries es) t
removed es t = map.same_map nat_cmp_total map.nat_cmp-IsAntisymmetric _ _ (λ q.
    map.get-from_entries nat_cmp_total (where_key nat_cmp (λ n. not (eq_by_cmp nat_cmp t n)) es) q
    ∙ find-where_key nat_cmp (λ n. not (eq_by_cmp nat_cmp t n)) q (λ x tied. ap (λ k. not (eq_by_cmp nat_cmp t k)) (sym (map.nat_cmp-IsAntisymmetric q x tied))) es
    ∙ turned (eq_by_cmp nat_cmp t q) (eq_by_cmp nat_cmp q t) (map.find nat_cmp q es) None ((eq_by_cmp_equiv nat_cmp_total).symm t q)
    ∙ ap (cond (eq_by_cmp nat_cmp q t) None) (sym (map.get-from_entries nat_cmp_total es q)) ∙ sym (map.get-remove nat_cmp_total (map.from_entries es) t q))

pub removed_threads : (rows after : List Row) (t : ℕ) → after ≡ filter (λ row. not (row.number == t)) rows → threads_of after ≡ map.remove (threads_of rows) t
unfolding threads_of
removed_threads rows after t is = ap (λ es. map.from_entries {R = nat_cmp} es) (ap entries_of is ∙ filtered rows t) ∙ removed (entries_of rows) t

pub removed_rising : (rows after : List Row) (t : ℕ) → after ≡ filter (λ row. not (row.number == t)) rows → IsRising rows → IsRising after
unfolding IsRising
removed_rising rows after t is rises =
    subst (λ es. T (map.is_sorted nat_cmp es)) (sym (ap entries_of is ∙ filtered rows t)) (is_sorted-where_key nat_cmp (λ n. not (eq_by_cmp nat_cmp t n)) (entries_of rows) rises)

-- the map's entries are those of the rows
pub entries-rows : (rows : List Row) → IsRising rows → map.entries (threads_of rows) ≡ entries_of rows
unfolding threads_of IsRising
entries-rows rows rises =
    ap map.entries (map.same_map nat_cmp_total map.nat_cmp-IsAntisymmetric (map.from_entries {R = nat_cmp} (entries_of rows)) (map.from_sorted (entries_of rows)) (λ q.
    map.get-from_entries nat_cmp_total (entries_of rows) q ∙ sym (map.get-from_sorted nat_cmp (entries_of rows) q rises)))
    ∙ map.entries-from_sorted nat_cmp (entries_of rows) rises

pub counts : (rows : List Row) → IsRising rows → length rows ≡ map.len (threads_of rows)
counts rows rises = sym (length-map rows entry_of) ∙ ap length (sym (entries-rows rows rises)) ∙ sym (map.len-entries (threads_of rows))

keys_found : (p : ℕ → Bool) (rows : List Row) → option_map (λ row. row.number) (find (λ row. p row.number) rows) ≡ find p (each (λ e. e.0) (entries_of rows))
keys_found p [] = refl
keys_found p (row ∷ rest) =
    elim (p row.number) as (λ b. option_map (λ row. row.number) (cond b (Some row) (find (λ row. p row.number) rest)) ≡ cond b (Some row.number) (find p (each (λ e. e.0) (entries_of rest)))) [
      | true ↦ refl
      | false ↦ keys_found p rest
    ]

pub next-number : (rows : List Row) (p : ℕ → Bool) (found : Option Row) (number : Option ℕ) → IsRising rows → found ≡ find (λ row. p row.number) rows → option_map (λ row. row.number) found ≡ number
    → number ≡ find p (map.keys (threads_of rows))
next-number rows p found number rises is named =
    sym named ∙ ap (option_map (λ row. row.number)) is ∙ keys_found p rows ∙ ap (λ es. find p (each (λ e. e.0) es)) (sym (entries-rows rows rises))
