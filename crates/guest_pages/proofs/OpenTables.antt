-- A table out of which the page of the code was taken.
--     code-there                              the page of code is there, and may be executed
--     get-other, get-code                     look-ups of another page, and of the page of the code
--     load-read                               what was read of a page
--     opened-taken, IsOpen-taken              the page was taken out
--     SetsCell-back, closed                   it was put back
--     opened-stored, IsOpen-stored            a number was stored into another page
--     opened-kept, IsOpen-tried               nothing was; one was, or nothing was
use Rattle.std.proofs.Common.{◌≡◌, ◌≢◌, ℕ, ◌+◌, ◌/◌, ◌%◌, ◌≤◌, ◌<◌, Bool, true, false, cond, List, [], length, refl, sym, ap, subst, ◌∙◌, arith, ⊎_elim, length-set}
use Rattle.std.specs.Prelude.{Option, Some, None, Result, Ok, Err, IfSome, IsTrue, is_some, option_map, slice_index_or, slice_set}
use Rattle.std.specs.Result.{is_ok, result_err}
use Rattle.std.specs.Cmp.{nat_cmp_total}
use Rattle.std.specs.FinMap as map
use Rattle.std.proofs.Math.ListN.{get_or-eq_default}
use Rattle.std.proofs.lemmas.List.{get_or-set_same, get_or-set_other, set-get_or}
use Rattle.std.proofs.lemmas.Bool.{cases_eq, cases_lt}
use Rattle.views.proofs.MapLaws.{get_insert_same, get_insert_other, get_remove_same, insert_remove_same, insert_apart}
use Rattle.plain_process.specs.declared.memory.Frame.{Frame}
use Rattle.plain_process.specs.declared.memory.Right.TheVariants.{Read, Write, Execute}
use Rattle.plain_process.specs.Memory.{Memory, allows, load, store, little_endian, low_bytes}
use Rattle.guest_pages.specs.declared.mem_fault.MemFault.{MemFault}
use Rattle.guest_pages.specs.declared.mem_fault.MemFault.TheVariants.{Rights}
use Rattle.guest_pages.specs.Bytes.{with_piece, IsRead}
use Rattle.guest_pages.specs.Cells.{SetsCell, Writes}
use Rattle.guest_pages.specs.FrameTable.{Rows, cell_at, frames_of, opened, IsTable, IsOpen}
use Rattle.guest_pages.specs.Pages.{IsSpace, IsCode}
use Rattle.guest_pages.specs.Refusals.{granted, refusal}
use Rattle.guest_pages.proofs.FrameTables.{get-frames_of, get-in_row, set-in_row, removed-in_row, row_read, SetsCell-set, short-set}
use Rattle.guest_pages.proofs.InPage.{bytes_at-in_page, bytes_of, refusal-in_page, with_bytes-in_page, length-low_bytes}
use Rattle.guest_pages.proofs.Checks.{store_told}
use Rattle.guest_pages.proofs.Ranges.{false_true}
use Rattle.guest_pages.proofs.Writes.{IsSpace-insert}

-- a page of code is there
pub code-there : (m : Memory) (k : ℕ) → IsCode m k → is_some (map.get m k) ≡ true
code-there m k code = go (map.get m k) code
  where
    go : (found : Option Frame) → is_ok (granted Execute found) ≡ true → is_some found ≡ true
    go None is = false_true is
    go (Some frame) is = refl

code-executable : (m : Memory) (k : ℕ) (code : Frame) → IsCode m k → map.get m k ≡ Some code → allows Execute code.rights ≡ true
code-executable m k code may there = go (allows Execute code.rights) (sym (ap (λ (found : Option Frame). is_ok (granted Execute found)) there) ∙ may)
  where
    go : (b : Bool) → is_ok (cond b (Ok code) (Err Rights)) ≡ true → b ≡ true
    go true is = refl
    go false is = false_true is

pub granted-execute : (code : Frame) → allows Execute code.rights ≡ true → granted Execute (Some code) ≡ Ok code
granted-execute code may = ap (λ b. cond b (Ok code) (Err Rights)) may

differs : (rows : Rows) (k page : ℕ) (frame : Frame) → cell_at rows k ≡ None → map.get (frames_of rows) page ≡ Some frame → page ≢ k
differs rows k page frame absent there is =
    let both : Some frame ≡ None = sym there ∙ ap (map.get (frames_of rows)) is ∙ get-frames_of rows k ∙ absent in cc

pub get-other : (rows : Rows) (start page : ℕ) (code frame : Frame) → cell_at rows (start / 4096) ≡ None → map.get (frames_of rows) page ≡ Some frame
    → map.get (opened rows start code) page ≡ Some frame
get-other rows start page code frame absent there =
    get_insert_other nat_cmp_total map.nat_cmp-IsAntisymmetric (frames_of rows) (start / 4096) code page (differs rows (start / 4096) page frame absent there) ∙ there

pub get-code : (rows : Rows) (start page : ℕ) (code : Frame) → page ≡ start / 4096 → map.get (opened rows start code) page ≡ Some code
get-code rows start page code is =
    ap (map.get (opened rows start code)) is ∙ get_insert_same nat_cmp_total map.nat_cmp-IsAntisymmetric (frames_of rows) (start / 4096) code

-- what is read of the frame of a page is loaded
pub load-read : (m : Memory) (a size : ℕ) (frame : Frame) (found : Option ℕ) → 0 < size → a % 4096 + size ≤ 4096 → map.get m (a / 4096) ≡ Some frame
    → IfSome found (λ value. IsRead frame (a % 4096) size value) → IfSome found (λ value. load m a size ≡ Some value)
load-read m a size frame None some inside there is = is
load-read m a size frame (Some value) some inside there is =
    let may : granted Read (map.get m (a / 4096)) ≡ Ok frame = ap (granted Read) there ∙ ap (λ b. cond b (Ok frame) (Err Rights)) is.allowed in
    ap (option_map little_endian) (bytes_at-in_page m Read a size some inside ∙ ap (bytes_of (a % 4096) size) may) ∙ ap (λ (n : ℕ). Some n) (sym is.spelled)

-- the page at k was taken out of a row
pub opened-taken : (rows : Rows) (m : Memory) (k start : ℕ) (row next : List (Option Frame)) (code : Frame) → frames_of rows ≡ m → start / 4096 ≡ k → k / 1024 < length rows
    → row ≡ slice_index_or rows (k / 1024) row → Some code ≡ slice_index_or row (k % 1024) None → next ≡ slice_set row (k % 1024) None
    → opened (slice_set rows (k / 1024) next) start code ≡ m
opened-taken rows m k start row next code seen is within read taken left =
    let there : map.get m k ≡ Some code = get-in_row rows m k row seen within read ∙ sym taken in
    (λ i. map.insert (removed-in_row rows m k row next seen within read left i) (is i) code)
    ∙ insert_remove_same nat_cmp_total map.nat_cmp-IsAntisymmetric m k code there

place-set : (rows : Rows) (i j n : ℕ) (next : List (Option Frame)) → i < length rows → j ≡ i → n < length next → n < length (slice_index_or (slice_set rows i next) j [])
place-set rows i j n next within is below =
    subst (λ (row : List (Option Frame)). n < length row) (sym (ap (λ (at : ℕ). slice_index_or (slice_set rows i next) at []) is ∙ get_or-set_same rows i next [] within)) below

pub IsOpen-taken : (rows : Rows) (m : Memory) (k start count : ℕ) (row next : List (Option Frame)) (code : Frame) → frames_of rows ≡ m → IsTable rows count → IsSpace m → IsCode m k
    → start % 4096 ≡ 0 → start / 4096 ≡ k → k / 1024 < length rows
    → row ≡ slice_index_or rows (k / 1024) row → Some code ≡ slice_index_or row (k % 1024) None → next ≡ slice_set row (k % 1024) None → k % 1024 < length next
    → IsOpen (slice_set rows (k / 1024) next) count start code
IsOpen-taken rows m k start count row next code seen table space may aligned is within read taken left below =
    let whole = opened-taken rows m k start row next code seen is within read taken left in
    let gone = removed-in_row rows m k row next seen within read left in
    record {
      counted = table.counted ∙ ap (λ (n : Memory). map.len n) (seen ∙ sym whole);
      short = short-set rows (k / 1024) next table.short;
      row = subst (λ n. start / 4096 / 1024 < n) (sym (length-set rows (k / 1024) next)) (subst (λ (p : ℕ). p / 1024 < length rows) (sym is) within);
      place = place-set rows (k / 1024) (start / 4096 / 1024) (start / 4096 % 1024) next within (ap (λ (p : ℕ). p / 1024) is) (subst (λ (p : ℕ). p % 1024 < length next) (sym is) below);
      absent =
          sym (get-frames_of (slice_set rows (k / 1024) next) (start / 4096)) ∙ (λ i. map.get (gone i) (is i))
          ∙ get_remove_same nat_cmp_total map.nat_cmp-IsAntisymmetric m k;
      aligned = aligned;
      executable = code-executable m k code may (get-in_row rows m k row seen within read ∙ sym taken);
      space = subst IsSpace (sym whole) space;
    }

-- a frame that is put at a place which a row has
pub SetsCell-back : (row : List (Option Frame)) (at : ℕ) (cell : Option Frame) → at < length row → SetsCell row (slice_set row at cell) at cell
SetsCell-back row at cell within = SetsCell-set row at cell (λ past. absurd (omega arith))

pub place-in_row : (rows : Rows) (i n : ℕ) (row : List (Option Frame)) → i < length rows → row ≡ slice_index_or rows i row → n < length (slice_index_or rows i []) → n < length row
place-in_row rows i n row within read below = subst (λ (r : List (Option Frame)). n < length r) (sym (row_read rows i row within read)) below

pub closed : (rows : Rows) (k : ℕ) (row next : List (Option Frame)) (code : Frame) → k / 1024 < length rows → row ≡ slice_index_or rows (k / 1024) row
    → k % 1024 < length (slice_index_or rows (k / 1024) []) → next ≡ slice_set row (k % 1024) (Some code)
    → frames_of (slice_set rows (k / 1024) next) ≡ map.insert (frames_of rows) k code
closed rows k row next code within read below put =
    set-in_row rows (frames_of rows) k row next (Some code) refl within read
    (subst (λ (r : List (Option Frame)). SetsCell row r (k % 1024) (Some code)) (sym put) (SetsCell-back row (k % 1024) (Some code) (place-in_row rows (k / 1024) (k % 1024) row within read below)))

-- the frame of another page was written
held : (row : List (Option Frame)) (at : ℕ) (frame : Frame) → slice_index_or row at None ≡ Some frame → at < length row
held row at frame there =
    ⊎_elim (λ (within : at < length row). within)
    (λ (past : length row ≤ at). absurd (nothing past))
    (cases_lt at (length row))
  where
    nothing : length row ≤ at → ⊥
    nothing past = let both : Some frame ≡ None = sym there ∙ get_or-eq_default row None past in cc

written : (rows : Rows) (k : ℕ) (row next : List (Option Frame)) (f : Frame → Frame) → k / 1024 < length rows → row ≡ slice_index_or rows (k / 1024) row
    → (is : Writes row next (k % 1024) f) → frames_of (slice_set rows (k / 1024) next) ≡ map.insert (frames_of rows) k (f is.frame)
written rows k row next f within read is =
    set-in_row rows (frames_of rows) k row next (Some (f is.frame)) refl within read
    (subst (λ (r : List (Option Frame)). SetsCell row r (k % 1024) (Some (f is.frame))) (sym is.put) (SetsCell-back row (k % 1024) (Some (f is.frame)) (held row (k % 1024) is.frame is.there)))

opened-written : (rows : Rows) (start k : ℕ) (code : Frame) (row next : List (Option Frame)) (f : Frame → Frame) → cell_at rows (start / 4096) ≡ None
    → k / 1024 < length rows → row ≡ slice_index_or rows (k / 1024) row → (is : Writes row next (k % 1024) f)
    → opened (slice_set rows (k / 1024) next) start code ≡ map.insert (opened rows start code) k (f is.frame)
opened-written rows start k code row next f absent within read is =
    let there = get-in_row rows (frames_of rows) k row refl within read ∙ is.there in
    ap (λ (m : Memory). map.insert m (start / 4096) code) (written rows k row next f within read is)
    ∙ insert_apart nat_cmp_total map.nat_cmp-IsAntisymmetric (frames_of rows) k (start / 4096) (f is.frame) code (differs rows (start / 4096) k is.frame absent there)

pub opened-stored : (rows : Rows) (start a size value : ℕ) (code : Frame) (row next : List (Option Frame)) → cell_at rows (start / 4096) ≡ None
    → 0 < size → a % 4096 + size ≤ 4096 → a / 4096 / 1024 < length rows → row ≡ slice_index_or rows (a / 4096 / 1024) row
    → Writes row next (a / 4096 % 1024) (λ frame. with_piece frame (a % 4096) (low_bytes size value))
    → store (opened rows start code) a size value ≡ Some (opened (slice_set rows (a / 4096 / 1024) next) start code)
opened-stored rows start a size value code row next absent some inside within read is =
    let m = opened rows start code in
    let f : Frame → Frame = (λ (frame : Frame). with_piece frame (a % 4096) (low_bytes size value)) in
    let there : map.get m (a / 4096) ≡ Some is.frame = get-other rows start (a / 4096) code is.frame absent (get-in_row rows (frames_of rows) (a / 4096) row refl within read ∙ is.there) in
    let fits : a % 4096 + length (low_bytes size value) ≤ 4096 = omega (arith, length-low_bytes size value) in
    let may : granted Write (map.get m (a / 4096)) ≡ Ok is.frame = ap (granted Write) there ∙ ap (λ b. cond b (Ok is.frame) (Err Rights)) is.allowed in
    let free : None ≡ result_err (granted Write (map.get m (a / 4096))) = sym (ap result_err may) in
    let done : Result (Unit {0}) MemFault = Ok tt in
    store_told done m (opened (slice_set rows (a / 4096 / 1024) next) start code) a (low_bytes size value)
    (opened-written rows start (a / 4096) code row next f absent within read is ∙ sym (with_bytes-in_page m a is.frame (low_bytes size value) there fits is.whole))
    (free ∙ sym (refusal-in_page m Write a size some inside) ∙ ap (refusal m Write a) (sym (length-low_bytes size value)))

pub IsOpen-stored : (rows : Rows) (count start k : ℕ) (code : Frame) (row next : List (Option Frame)) (f : Frame → Frame) → IsOpen rows count start code
    → k / 1024 < length rows → row ≡ slice_index_or rows (k / 1024) row → Writes row next (k % 1024) f → IsOpen (slice_set rows (k / 1024) next) count start code
IsOpen-stored rows count start k code row next f open1 within read is =
    let there : map.get (frames_of rows) k ≡ Some is.frame = get-in_row rows (frames_of rows) k row refl within read ∙ is.there in
    let had : is_some (map.get (opened rows start code) k) ≡ true = ap is_some (get-other rows start k code is.frame open1.absent there) in
    let whole = opened-written rows start k code row next f open1.absent within read is in
    let apart = differs rows (start / 4096) k is.frame open1.absent there in
    record {
      counted =
          open1.counted
          ∙ sym (ap (λ (m : Memory). map.len m) whole ∙ map.len-insert nat_cmp_total (opened rows start code) k (f is.frame) ∙ ap (λ b. cond b (map.len (opened rows start code)) (map.len (opened rows start code) + 1)) had);
      short = short-set rows (k / 1024) next open1.short;
      row = subst (λ n. start / 4096 / 1024 < n) (sym (length-set rows (k / 1024) next)) open1.row;
      place = place-kept rows (k / 1024) (start / 4096 / 1024) (start / 4096 % 1024) row next within read (ap (λ (r : List (Option Frame)). length r) is.put ∙ length-set row (k % 1024) (Some (f is.frame))) open1.place;
      absent =
          sym (get-frames_of (slice_set rows (k / 1024) next) (start / 4096)) ∙ ap (λ (m : Memory). map.get m (start / 4096)) (written rows k row next f within read is)
          ∙ get_insert_other nat_cmp_total map.nat_cmp-IsAntisymmetric (frames_of rows) k (f is.frame) (start / 4096) (λ same. apart (sym same))
          ∙ get-frames_of rows (start / 4096) ∙ open1.absent;
      aligned = open1.aligned;
      executable = open1.executable;
      space = subst IsSpace (sym whole) (IsSpace-insert (opened rows start code) k (f is.frame) open1.space had);
    }
  where
    place-kept : (rows : Rows) (i j n : ℕ) (row next : List (Option Frame)) → i < length rows → row ≡ slice_index_or rows i row → length next ≡ length row
        → n < length (slice_index_or rows j []) → n < length (slice_index_or (slice_set rows i next) j [])
    place-kept rows i j n row next within read same below =
        ⊎_elim
        (λ (is : j ≡ i). place-set rows i j n next within is (subst (λ m. n < m) (sym same) (place-in_row rows i n row within read (subst (λ (at : ℕ). n < length (slice_index_or rows at [])) is below))))
        (λ (apart : j ≡ i → ⊥). subst (λ (r : List (Option Frame)). n < length r) (sym (get_or-set_other rows i j next [] apart)) below)
        (cases_eq j i)

-- a row that is as it was
row-kept : (rows : Rows) (i : ℕ) (row next : List (Option Frame)) → i < length rows → row ≡ slice_index_or rows i row → next ≡ row → slice_set rows i next ≡ rows
row-kept rows i row next within read same = ap (slice_set rows i) (same ∙ row_read rows i row within read) ∙ set-get_or rows i []

pub opened-kept : (rows : Rows) (start i : ℕ) (code : Frame) (row next : List (Option Frame)) → i < length rows → row ≡ slice_index_or rows i row → next ≡ row
    → opened (slice_set rows i next) start code ≡ opened rows start code
opened-kept rows start i code row next within read same = ap (λ (r : Rows). opened r start code) (row-kept rows i row next within read same)

-- it may be that nothing was stored
pub IsOpen-tried : (b : Bool) (rows : Rows) (count start k : ℕ) (code : Frame) (row next : List (Option Frame)) (f : Frame → Frame) → IsOpen rows count start code
    → k / 1024 < length rows → row ≡ slice_index_or rows (k / 1024) row → (IsTrue b → Writes row next (k % 1024) f) → (b ≡ false → next ≡ row)
    → IsOpen (slice_set rows (k / 1024) next) count start code
IsOpen-tried true rows count start k code row next f open1 within read made refused = IsOpen-stored rows count start k code row next f open1 within read (made refl)
IsOpen-tried false rows count start k code row next f open1 within read made refused =
    subst (λ (r : Rows). IsOpen r count start code) (sym (row-kept rows (k / 1024) row next within read (refused refl))) open1
