-- At a program's start no page of the heap is there, and the page to which handlers return holds its code.
--     start_heap, start_return
use Rattle.std.proofs.Common.{◌≡◌, ℕ, zero, suc, ◌+◌, ◌*◌, ◌<◌, ◌≤◌, Bool, true, false, cond, ◌||◌, List, [], ◌∷◌, max, refl, sym, ap, ◌∙◌, arith}
use Rattle.std.specs.Prelude.{Some, None, is_some, nat_lt}
use Rattle.std.specs.List.{fold}
use Rattle.std.specs.Ordering.{nat_cmp}
use Rattle.std.specs.Cmp.{nat_cmp_total}
use Rattle.std.specs.FinMap as map
use Rattle.std.proofs.lemmas.Bool.Decides.{nat_tests}
use Rattle.plain_tables.proofs.OfViews.MapLaws.{get_insert_same, get_insert_other, true_false}
use Rattle.plain_tables.specs.OfElf32.declared.program.Program.{Program}
use Rattle.plain_tables.specs.OfElf32.declared.program.Segment.{Segment}
use Rattle.plain_tables.specs.OfElf32.Pages.{touches, is_touched}
use Rattle.plain_tables.specs.OfPlainProcess.declared.memory.Frame.{Frame}
use Rattle.plain_tables.specs.OfPlainProcess.Memory.{Memory}
use Rattle.plain_tables.specs.OfPlainProcess.Start.{page_of, with_pages, segment_page, segment_pages, highest_end, break_of, STACK_PAGE, STACK_PAGES, RETURN_PAGE, PROGRAM_PAGES, return_code, return_bytes, return_frame, start_stack, start_memory}
use Rattle.plain_tables.specs.OfPlainProcess.Valid.{IsHeap}

-- a page that no segment touches
absent_by : (segments : List Segment) (n place : ℕ) (b : Bool) → is_touched segments place ≡ false → is_touched segments n ≡ b → map.get (segment_pages segments n) place ≡ None
    → map.get (cond b (map.insert (segment_pages segments n) n (segment_page segments n)) (segment_pages segments n)) place ≡ None
absent_by segments n place true free at before =
    get_insert_other nat_cmp_total map.nat_cmp-IsAntisymmetric (segment_pages segments n) n (segment_page segments n) place (λ same. true_false (sym at ∙ ap (is_touched segments) (sym same) ∙ free)) ∙ before
absent_by segments n place false free at before = before

segment_page_absent : (segments : List Segment) (n place : ℕ) → is_touched segments place ≡ false → map.get (segment_pages segments n) place ≡ None
unfolding segment_pages
segment_page_absent segments zero place free = map.get-empty nat_cmp place
segment_page_absent segments (suc n) place free = absent_by segments n place (is_touched segments n) free refl (segment_page_absent segments n place free)

-- a page below those that are put
page_before : (memory : Memory) (first n rights : ℕ) (content : List ℕ) (place : ℕ) → place < first → map.get (with_pages memory first n rights content) place ≡ map.get memory place
unfolding with_pages
page_before memory first zero rights content place below = refl
page_before memory first (suc n) rights content place below =
    get_insert_other nat_cmp_total map.nat_cmp-IsAntisymmetric (with_pages memory first n rights content) (first + n) _ place (λ same. omega arith) ∙ page_before memory first n rights content place below

-- one page that is put
page_put : (memory : Memory) (first rights : ℕ) (content : List ℕ) → map.get (with_pages memory first 1 rights content) first ≡ Some (record { rights = rights; page = page_of content })
unfolding with_pages
page_put memory first rights content =
    let frame : Frame = record { rights = rights; page = page_of content } in
    let here : first + 0 ≡ first = omega arith in
    ap (λ place. map.get (map.insert memory place frame) first) here ∙ get_insert_same nat_cmp_total map.nat_cmp-IsAntisymmetric memory first frame

-- each touched page lies below the highest end
fold_rises : (segments : List Segment) (highest : ℕ) → highest ≤ fold (λ h segment. max h (segment.vaddr + segment.memsz)) highest segments
fold_rises [] highest = omega arith
fold_rises (segment ∷ rest) highest = let later = fold_rises rest (max highest (segment.vaddr + segment.memsz)) in omega arith

touches_below : (segment : Segment) (place : ℕ) → touches segment place ≡ true → 4096 * place < segment.vaddr + segment.memsz
touches_below segment place here = grind (arith, nat_tests)

touched_below : (segments : List Segment) (place highest : ℕ) → is_touched segments place ≡ true → 4096 * place < fold (λ h segment. max h (segment.vaddr + segment.memsz)) highest segments
touched_below [] place highest here = cc
touched_below (segment ∷ rest) place highest here =
    elim (touches segment place) as (λ b. touches segment place ≡ b → (b || is_touched rest place) ≡ true → 4096 * place < fold (λ h s. max h (s.vaddr + s.memsz)) (max highest (segment.vaddr + segment.memsz)) rest) [
      | true ↦ λ at _.
          let below = touches_below segment place at in
          let rises = fold_rises rest (max highest (segment.vaddr + segment.memsz)) in
          omega arith
      | false ↦ λ at later. touched_below rest place (max highest (segment.vaddr + segment.memsz)) later
    ] refl here

break_above : (segments : List Segment) → highest_end segments ≤ break_of segments
unfolding break_of
break_above segments = omega arith

free_above : (segments : List Segment) (place : ℕ) → break_of segments ≤ 4096 * place → is_touched segments place ≡ false
free_above segments place above = chosen (is_touched segments place) refl
  where
    chosen : (b : Bool) → is_touched segments place ≡ b → b ≡ false
    chosen true at = let below = touched_below segments place 0 at in let order = break_above segments in absurd (omega arith)
    chosen false at = refl

pub start_heap : (program : Program) (arguments : List ℕ) → IsHeap (start_memory program arguments) (break_of program.segments) (break_of program.segments)
unfolding start_memory
start_heap program arguments place from below =
    let absent = page_before _ RETURN_PAGE 1 5 return_code place (omega arith) ∙ page_before (segment_pages program.segments PROGRAM_PAGES) STACK_PAGE STACK_PAGES 6 (start_stack arguments) place (omega arith)
    ∙ segment_page_absent program.segments PROGRAM_PAGES place (free_above program.segments place from) in
    let past : nat_lt (4096 * place) (break_of program.segments) ≡ false = grind (arith, nat_tests, from) in
    ap is_some absent ∙ sym past

pub start_return : (program : Program) (arguments : List ℕ) → map.get (start_memory program arguments) RETURN_PAGE ≡ Some return_frame
unfolding start_memory return_bytes
start_return program arguments = page_put _ RETURN_PAGE 5 return_code
