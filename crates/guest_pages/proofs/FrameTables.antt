-- A table of rows seen as a memory.
--     get-frames_of                  a look-up in the memory is one in the rows
--     frames-empty, frames-same      no rows; rows that hold the same
--     frames-set                     rows that hold another frame, or none, at one number
--     SetsCell-set                   a write to one place of a row
--     get-in_row, get-past, set-in_row, changed-in_row, removed-in_row     the same, as a row that was read or lent tells them
--     len-changed, len-with_new      how many frames there are then
use Rattle.std.proofs.Common.{◌≡◌, ◌≢◌, ℕ, zero, suc, ◌+◌, ◌-◌, ◌*◌, ◌/◌, ◌%◌, ◌^◌, ◌≤◌, ◌<◌, Bool, true, false, cond, List, [], length, refl, sym, ap, subst, ◌∙◌, arith, ⊎_elim, length-set, add-zero}
use mir.Val.{bool_byte}
use Rattle.std.specs.Prelude.{Result, Ok, Err, OnErr, Option, Some, None, is_some, not, option_map, slice_index_or, slice_set}
use Rattle.std.specs.Ordering.{nat_cmp}
use Rattle.std.specs.Cmp.{nat_cmp_total}
use Rattle.std.specs.FinMap as map
use Rattle.std.proofs.Math.ListN.{get_or-eq_default}
use Rattle.std.proofs.lemmas.List.{get_or-set_same, get_or-set_other, get_or_default}
use Rattle.std.proofs.lemmas.Bool.{cases_eq, cases_lt}
use Rattle.views.proofs.MapLaws.{get_insert_same, get_insert_other, get_remove_same, get_remove_other, remove_absent}
use Rattle.plain_process.specs.declared.memory.Frame.{Frame}
use Rattle.plain_process.specs.Memory.{Memory}
use Rattle.guest_pages.specs.Cells.{IsSameCells, SetsCell, IsFirstPlace}
use Rattle.guest_pages.specs.FrameTable.{Rows, cell_at, with_cell, frames_below, frames_of, IsSameRows, IsFirstPage}
use Rattle.guest_pages.proofs.Ranges.{false_true}

pub get-with_cell_same : (m : Memory) (k : ℕ) (cell : Option Frame) → map.get (with_cell m k cell) k ≡ cell
get-with_cell_same m k None = get_remove_same nat_cmp_total map.nat_cmp-IsAntisymmetric m k
get-with_cell_same m k (Some frame) = get_insert_same nat_cmp_total map.nat_cmp-IsAntisymmetric m k frame

pub get-with_cell_other : (m : Memory) (k : ℕ) (cell : Option Frame) (q : ℕ) → q ≢ k → map.get (with_cell m k cell) q ≡ map.get m q
get-with_cell_other m k None q differ = get_remove_other nat_cmp_total map.nat_cmp-IsAntisymmetric m k q differ
get-with_cell_other m k (Some frame) q differ = get_insert_other nat_cmp_total map.nat_cmp-IsAntisymmetric m k frame q differ

below : (rows : Rows) (n q : ℕ) → q < n → map.get (frames_below rows n) q ≡ cell_at rows q
unfolding frames_below
below rows zero q within = absurd (omega arith)
below rows (suc n) q within =
    ⊎_elim
    (λ (last : q ≡ n). subst (λ j. map.get (with_cell (frames_below rows n) j (cell_at rows j)) q ≡ cell_at rows q) last (get-with_cell_same (frames_below rows n) q (cell_at rows q)))
    (λ (before : q ≡ n → ⊥). get-with_cell_other (frames_below rows n) n (cell_at rows n) q before ∙ below rows n q (omega arith))
    (cases_eq q n)

above : (rows : Rows) (n q : ℕ) → n ≤ q → map.get (frames_below rows n) q ≡ None
unfolding frames_below
above rows zero q past = map.get-empty nat_cmp q
above rows (suc n) q past =
    let differ : q ≢ n = λ (is : q ≡ n). omega arith in
    get-with_cell_other (frames_below rows n) n (cell_at rows n) q differ ∙ above rows n q (omega arith)

pub cell_at-past : (rows : Rows) (q : ℕ) → length rows ≤ q / 1024 → cell_at rows q ≡ None
cell_at-past rows q past = ap (λ (row : List (Option Frame)). slice_index_or row (q % 1024) None) (get_or-eq_default rows [] past)

pub get-frames_of : (rows : Rows) (q : ℕ) → map.get (frames_of rows) q ≡ cell_at rows q
unfolding frames_of
get-frames_of rows q =
    ⊎_elim (λ (within : q < 1024 * length rows). below rows (1024 * length rows) q within)
    (λ (past : 1024 * length rows ≤ q). above rows (1024 * length rows) q past ∙ sym (cell_at-past rows q (omega arith)))
    (cases_lt q (1024 * length rows))

pub frames-empty : frames_of [] ≡ map.empty
unfolding frames_of frames_below
frames-empty = refl

same_frames : (m n : Memory) → ((q : ℕ) → map.get m q ≡ map.get n q) → m ≡ n
same_frames m n same = map.same_map nat_cmp_total map.nat_cmp-IsAntisymmetric m n same

pub frames-same : (old new : Rows) → IsSameRows old new → frames_of new ≡ frames_of old
frames-same old new rows = same_frames (frames_of new) (frames_of old) (λ q. get-frames_of new q ∙ rows.same q ∙ sym (get-frames_of old q))

frames-changed : (old new : Rows) (k : ℕ) (cell : Option Frame) → cell_at new k ≡ cell → ((q : ℕ) → q ≢ k → cell_at new q ≡ cell_at old q)
    → frames_of new ≡ with_cell (frames_of old) k cell
frames-changed old new k cell there others = same_frames (frames_of new) (with_cell (frames_of old) k cell) (λ q.
    get-frames_of new q
    ∙ ⊎_elim
    (λ (same : q ≡ k). ap (cell_at new) same ∙ there ∙ sym (ap (map.get (with_cell (frames_of old) k cell)) same ∙ get-with_cell_same (frames_of old) k cell))
    (λ (differ : q ≡ k → ⊥). others q differ ∙ sym (get-with_cell_other (frames_of old) k cell q differ ∙ get-frames_of old q))
    (cases_eq q k))

-- a row was replaced
pub frames-set : (rows : Rows) (k : ℕ) (row : List (Option Frame)) (cell : Option Frame) → k / 1024 < length rows
    → SetsCell (slice_index_or rows (k / 1024) []) row (k % 1024) cell → frames_of (slice_set rows (k / 1024) row) ≡ with_cell (frames_of rows) k cell
frames-set rows k row cell within sets = frames-changed rows (slice_set rows (k / 1024) row) k cell there others
  where
    there : cell_at (slice_set rows (k / 1024) row) k ≡ cell
    there = ap (λ (r : List (Option Frame)). slice_index_or r (k % 1024) None) (get_or-set_same rows (k / 1024) row [] within) ∙ sets.there

    place_differs : (q : ℕ) → q ≢ k → q / 1024 ≡ k / 1024 → q % 1024 ≢ k % 1024
    place_differs q differ same is = differ (omega arith)

    others : (q : ℕ) → q ≢ k → cell_at (slice_set rows (k / 1024) row) q ≡ cell_at rows q
    others q differ =
        ⊎_elim
        (λ (same : q / 1024 ≡ k / 1024).
        ap (λ (i : ℕ). slice_index_or (slice_index_or (slice_set rows (k / 1024) row) i []) (q % 1024) None) same
        ∙ ap (λ (r : List (Option Frame)). slice_index_or r (q % 1024) None) (get_or-set_same rows (k / 1024) row [] within)
        ∙ sets.others (q % 1024) (place_differs q differ same)
        ∙ ap (λ (i : ℕ). slice_index_or (slice_index_or rows i []) (q % 1024) None) (sym same))
        (λ (apart : q / 1024 ≡ k / 1024 → ⊥). ap (λ (r : List (Option Frame)). slice_index_or r (q % 1024) None) (get_or-set_other rows (k / 1024) (q / 1024) row [] apart))
        (cases_eq (q / 1024) (k / 1024))

-- a place past the end stays empty
pub SetsCell-set : (row : List (Option Frame)) (at : ℕ) (cell : Option Frame) → (length row ≤ at → cell ≡ None) → SetsCell row (slice_set row at cell) at cell
SetsCell-set row at cell past = record {
  there = ⊎_elim (λ (within : at < length row). get_or-set_same row at cell None within)
      (λ (beyond : length row ≤ at). get_or-eq_default (slice_set row at cell) None (subst (λ n. n ≤ at) (sym (length-set row at cell)) beyond) ∙ sym (past beyond))
      (cases_lt at (length row));
  others = λ k differ. get_or-set_other row at k cell None differ;
}

pub SetsCell-changed : (row : List (Option Frame)) (at : ℕ) (f : Frame → Frame) → SetsCell row (slice_set row at (option_map f (slice_index_or row at None))) at (option_map f (slice_index_or row at None))
SetsCell-changed row at f = SetsCell-set row at (option_map f (slice_index_or row at None)) (λ past. ap (option_map f) (get_or-eq_default row None past))

-- a change leaves the number of frames
pub len-changed : (m : Memory) (k : ℕ) (f : Frame → Frame) → map.len (with_cell m k (option_map f (map.get m k))) ≡ map.len m
len-changed m k f = go (map.get m k) refl
  where
    go : (found : Option Frame) → map.get m k ≡ found → map.len (with_cell m k (option_map f found)) ≡ map.len m
    go None is = ap (λ (n : Memory). map.len n) (remove_absent nat_cmp_total map.nat_cmp-IsAntisymmetric m k is)
    go (Some frame) is = map.len-insert nat_cmp_total m k (f frame) ∙ ap (λ o. cond (is_some o) (map.len m) (map.len m + 1)) is

pub changed-missing : (m : Memory) (k : ℕ) (f : Frame → Frame) → map.get m k ≡ None → with_cell m k (option_map f (map.get m k)) ≡ m
changed-missing m k f is = ap (λ o. with_cell m k (option_map f o)) is ∙ remove_absent nat_cmp_total map.nat_cmp-IsAntisymmetric m k is

-- what was read of the rows at an index is the row there
pub row_read : (rows : Rows) (i : ℕ) (row : List (Option Frame)) → i < length rows → row ≡ slice_index_or rows i row → row ≡ slice_index_or rows i []
row_read rows i row within read = read ∙ get_or_default rows i row [] within

pub get-in_row : (rows : Rows) (m : Memory) (k : ℕ) (row : List (Option Frame)) → frames_of rows ≡ m → k / 1024 < length rows → row ≡ slice_index_or rows (k / 1024) row
    → map.get m k ≡ slice_index_or row (k % 1024) None
get-in_row rows m k row seen within read =
    ap (λ (n : Memory). map.get n k) (sym seen) ∙ get-frames_of rows k ∙ ap (λ (r : List (Option Frame)). slice_index_or r (k % 1024) None) (sym (row_read rows (k / 1024) row within read))

pub get-past : (rows : Rows) (m : Memory) (k : ℕ) → frames_of rows ≡ m → length rows ≤ k / 1024 → map.get m k ≡ None
get-past rows m k seen past = ap (λ (n : Memory). map.get n k) (sym seen) ∙ get-frames_of rows k ∙ cell_at-past rows k past

pub set-in_row : (rows : Rows) (m : Memory) (k : ℕ) (row next : List (Option Frame)) (cell : Option Frame) → frames_of rows ≡ m → k / 1024 < length rows
    → row ≡ slice_index_or rows (k / 1024) row → SetsCell row next (k % 1024) cell → frames_of (slice_set rows (k / 1024) next) ≡ with_cell m k cell
set-in_row rows m k row next cell seen within read sets =
    frames-set rows k next cell within (subst (λ (r : List (Option Frame)). SetsCell r next (k % 1024) cell) (row_read rows (k / 1024) row within read) sets)
    ∙ ap (λ (n : Memory). with_cell n k cell) seen

pub changed-in_row : (rows : Rows) (m : Memory) (k : ℕ) (row next : List (Option Frame)) (f : Frame → Frame) → frames_of rows ≡ m → k / 1024 < length rows
    → row ≡ slice_index_or rows (k / 1024) row → next ≡ slice_set row (k % 1024) (option_map f (slice_index_or row (k % 1024) None))
    → frames_of (slice_set rows (k / 1024) next) ≡ with_cell m k (option_map f (map.get m k))
changed-in_row rows m k row next f seen within read put =
    set-in_row rows m k row next (option_map f (slice_index_or row (k % 1024) None)) seen within read
    (subst (λ (r : List (Option Frame)). SetsCell row r (k % 1024) (option_map f (slice_index_or row (k % 1024) None))) (sym put) (SetsCell-changed row (k % 1024) f))
    ∙ ap (λ o. with_cell m k (option_map f o)) (sym (get-in_row rows m k row seen within read))

pub removed-in_row : (rows : Rows) (m : Memory) (k : ℕ) (row next : List (Option Frame)) → frames_of rows ≡ m → k / 1024 < length rows
    → row ≡ slice_index_or rows (k / 1024) row → next ≡ slice_set row (k % 1024) None → frames_of (slice_set rows (k / 1024) next) ≡ map.remove m k
removed-in_row rows m k row next seen within read put =
    set-in_row rows m k row next None seen within read (subst (λ (r : List (Option Frame)). SetsCell row r (k % 1024) None) (sym put) (SetsCell-set row (k % 1024) None (λ past. refl)))

pub row-within : (rows : Rows) (m : Memory) (k : ℕ) → frames_of rows ≡ m → is_some (map.get m k) ≡ true → k / 1024 < length rows
row-within rows m k seen there =
    ⊎_elim (λ (within : k / 1024 < length rows). within) (λ (past : length rows ≤ k / 1024). false_true (sym (ap is_some (get-past rows m k seen past)) ∙ there))
    (cases_lt (k / 1024) (length rows))

counted : (b : Bool) (n : ℕ) → cond b n (n + 1) ≡ n + bool_byte (not b)
counted true n = sym (add-zero n)
counted false n = refl

pub len-inserted : (m : Memory) (k : ℕ) (frame : Frame) (n : ℕ) (had : Bool) → n ≡ map.len m → had ≡ is_some (map.get m k) → n + bool_byte (not had) ≡ map.len (map.insert m k frame)
len-inserted m k frame n had size is =
    (λ i. size i + bool_byte (not (is i))) ∙ sym (counted (is_some (map.get m k)) (map.len m)) ∙ sym (map.len-insert nat_cmp_total m k frame)

pub len-taken : (m : Memory) (k : ℕ) (n : ℕ) → n ≡ map.len m → is_some (map.get m k) ≡ true → n - 1 ≡ map.len (map.remove m k)
len-taken m k n size there = ap (λ i. i - 1) size ∙ sym (map.len-remove nat_cmp_total m k ∙ ap (λ b. cond b (map.len m - 1) (map.len m)) there)

pub none_of : {A : Type 0} (found : Option A) → is_some found ≡ false → found ≡ None
none_of None is = refl
none_of (Some x) is = false_true (sym is)

-- a map that holds a frame is not empty
pub some_len : (m : Memory) (k : ℕ) → is_some (map.get m k) ≡ true → 1 ≤ map.len m
some_len m k there = ⊎_elim (λ (some : 0 < map.len m). some) (λ (none : map.len m ≤ 0). absurd (none_there (omega arith))) (cases_lt 0 (map.len m))
  where
    none_there : map.len m ≡ 0 → ⊥
    none_there size = false_true (sym (ap is_some (ap (λ (n : Memory). map.get n k) (map.empty_of_len m size) ∙ map.get-empty nat_cmp k)) ∙ there)

pub same-in_row : (rows : Rows) (i : ℕ) (row next : List (Option Frame)) → i < length rows → row ≡ slice_index_or rows i row → IsSameCells row next
    → frames_of (slice_set rows i next) ≡ frames_of rows
same-in_row rows i row next within read cells = frames-same rows (slice_set rows i next) (record { same = same })
  where
    same : (q : ℕ) → cell_at (slice_set rows i next) q ≡ cell_at rows q
    same q =
        ⊎_elim
        (λ (here : q / 1024 ≡ i).
        ap (λ (j : ℕ). slice_index_or (slice_index_or (slice_set rows i next) j []) (q % 1024) None) here
        ∙ ap (λ (r : List (Option Frame)). slice_index_or r (q % 1024) None) (get_or-set_same rows i next [] within)
        ∙ cells.same (q % 1024)
        ∙ ap (λ (r : List (Option Frame)). slice_index_or r (q % 1024) None) (row_read rows i row within read)
        ∙ ap (λ (j : ℕ). slice_index_or (slice_index_or rows j []) (q % 1024) None) (sym here))
        (λ (apart : q / 1024 ≡ i → ⊥). ap (λ (r : List (Option Frame)). slice_index_or r (q % 1024) None) (get_or-set_other rows i (q / 1024) next [] apart))
        (cases_eq (q / 1024) i)

pub holds_on_err : {T E : Type 0} (P : Type 0) (r : Result T E) → P → OnErr r P
holds_on_err P (Ok value) holds = tt
holds_on_err P (Err error) holds = holds

pub short-set : (rows : Rows) (i : ℕ) (row : List (Option Frame)) → length rows ≤ 2 ^ 22 → length (slice_set rows i row) ≤ 2 ^ 22
short-set rows i row short = subst (λ n. n ≤ 2 ^ 22) (sym (length-set rows i row)) short

-- what a row's next place says of the table, from a number in that row on
pub row_first : (rows : Rows) (m : Memory) (start number place : ℕ) (row : List (Option Frame)) → frames_of rows ≡ m → number / 1024 < length rows
    → row ≡ slice_index_or rows (number / 1024) row → start ≤ number → ((q : ℕ) → start ≤ q → q < number → cell_at rows q ≡ None)
    → IsFirstPlace row (number % 1024) place → IsFirstPage m start (number - number % 1024 + place)
row_first rows m start number place row seen within read from none next = record {
  from = omega (arith, next.from);
  held =
      ap is_some (ap (λ (n : Memory). map.get n page) (sym seen) ∙ get-frames_of rows page ∙ in_row place next.below
      ∙ ap (λ (r : List (Option Frame)). slice_index_or r place None) (sym (row_read rows (number / 1024) row within read)))
      ∙ next.held;
  first = λ q at before. ap (λ (n : Memory). map.get n q) (sym seen) ∙ get-frames_of rows q ∙ before_it q at before;
}
  where
    page : ℕ
    page = number - number % 1024 + place

    in_row : (k : ℕ) → k < 1024 → cell_at rows (number - number % 1024 + k) ≡ slice_index_or (slice_index_or rows (number / 1024) []) k None
    in_row k below =
        let row_is : (number - number % 1024 + k) / 1024 ≡ number / 1024 = omega arith in
        let place_is : (number - number % 1024 + k) % 1024 ≡ k = omega arith in
        λ i. slice_index_or (slice_index_or rows (row_is i) []) (place_is i) None

    before_it : (q : ℕ) → start ≤ q → q < page → cell_at rows q ≡ None
    before_it q at before =
        ⊎_elim (λ (under : q < number). none q at under)
        (λ (past : number ≤ q).
        let row_is : q / 1024 ≡ number / 1024 = omega (arith, next.below) in
        ap (λ (i : ℕ). slice_index_or (slice_index_or rows i []) (q % 1024) None) row_is
        ∙ ap (λ (r : List (Option Frame)). slice_index_or r (q % 1024) None) (sym (row_read rows (number / 1024) row within read))
        ∙ next.first (q % 1024) (omega arith) (omega arith))
        (cases_lt q number)

pub no_frame : (rows : Rows) (m : Memory) (start number q : ℕ) → frames_of rows ≡ m → length rows ≤ number / 1024
    → ((k : ℕ) → start ≤ k → k < number → cell_at rows k ≡ None) → start ≤ q → map.get m q ≡ None
no_frame rows m start number q seen past none from =
    ap (λ (n : Memory). map.get n q) (sym seen) ∙ get-frames_of rows q
    ∙ ⊎_elim (λ (under : q < number). none q from under) (λ (over : number ≤ q). cell_at-past rows q (omega arith)) (cases_lt q number)
