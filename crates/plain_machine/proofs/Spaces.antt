-- The calls that add pages and take them away keep memory and break valid: brk, munmap and mmap.
--     break_follows, unmapped_follows, mapped_follows      free_pages      where a mapping is placed
use Rattle.std.proofs.Common.{◌≡◌, ℕ, zero, suc, ◌+◌, ◌-◌, ◌*◌, ◌^◌, ◌<◌, ◌≤◌, Bool, true, false, cond, List, [], length, drop, refl, sym, ap, subst, ◌∙◌, arith, inl, inr, ⊎_elim}
use Rattle.std.specs.Prelude.{◌⊎◌, not, nat_le, nat_lt, Option, Some, None, is_some, find, filter}
use Rattle.std.specs.List.{range_with_len}
use Rattle.std.specs.Cmp.{nat_cmp_total}
use Rattle.std.specs.FinMap as map
use Rattle.std.proofs.lemmas.Bool.{cases_lt}
use Rattle.std.proofs.lemmas.Bool.Decides.{nat_tests}
use Rattle.std.proofs.lemmas.List.Elements.{All-nil}
use Rattle.std.proofs.lemmas.List.Filters.{length-filter_both}
use Rattle.plain_tables.specs.OfViews.Limits.{PAGE_LIMIT}
use Rattle.plain_tables.specs.OfViews.Maps.{retain}
use Rattle.plain_tables.proofs.OfViews.MapLaws.{get_insert_same, get_insert_other, get-retain}
use Rattle.plain_tables.proofs.OfViews.MapValues.{entries-retain, retain-keys}
use Rattle.plain_tables.specs.OfPlainProcess.declared.memory.Frame.{Frame}
use Rattle.plain_tables.specs.OfPlainProcess.declared.user_part.UserPart.{UserPart}
use Rattle.plain_tables.specs.OfPlainProcess.Memory.{Memory}
use Rattle.plain_tables.specs.OfPlainProcess.Start.{page_of, with_pages, RETURN_PAGE}
use Rattle.plain_tables.specs.OfPlainProcess.Pages.{pages_of, is_among, without_pages, is_free, free_run}
use Rattle.plain_tables.specs.OfPlainProcess.Rows.Mappings.{with_memory, heap_to, with_break, room_for}
use Rattle.plain_tables.specs.OfPlainProcess.Valid.{IsByte, IsUser}
use Rattle.plain_tables.proofs.OfPlainProcess.Giving.{Giving, gives, nothing, where_, either}
use Rattle.plain_tables.proofs.OfPlainProcess.MemoryBounds.{IsMemory}
use Rattle.plain_tables.proofs.OfPlainProcess.StartPages.{with_pages_are}
use Rattle.plain_machine.proofs.UserParts.{IsSpace, Follows, user_from, space_of, threads_of, actions_of, waiters_of}

-- pages that are added
module _ (memory : Memory) (first rights : ℕ) (content : List ℕ) where
  pages_beside : (n place : ℕ) → (place < first) ⊎ (first + n ≤ place) → map.get (with_pages memory first n rights content) place ≡ map.get memory place
  unfolding with_pages
  pages_beside zero place apart = refl
  pages_beside (suc n) place (inl below) =
      get_insert_other nat_cmp_total map.nat_cmp-IsAntisymmetric (with_pages memory first n rights content) (first + n) _ place (λ same. omega arith) ∙ pages_beside n place (inl below)
  pages_beside (suc n) place (inr above) =
      get_insert_other nat_cmp_total map.nat_cmp-IsAntisymmetric (with_pages memory first n rights content) (first + n) _ place (λ same. omega arith) ∙ pages_beside n place (inr (omega arith))

  page_added : (n place : ℕ) → first ≤ place → place < first + n → is_some (map.get (with_pages memory first n rights content) place) ≡ true
  unfolding with_pages
  page_added zero place from below = absurd (omega arith)
  page_added (suc n) place from below = ⊎_elim
      (λ (inside : place < first + n).
      ap is_some (get_insert_other nat_cmp_total map.nat_cmp-IsAntisymmetric (with_pages memory first n rights content) (first + n) _ place (λ same. omega arith)) ∙ page_added n place from inside)
      (λ (past : first + n ≤ place).
      let last : first + n ≡ place = omega arith in
      let frame : Frame = record { rights = rights; page = page_of (drop (4096 * n) content) } in
      subst (λ k. is_some (map.get (map.insert (with_pages memory first n rights content) (first + n) frame) k) ≡ true) last
      (ap is_some (get_insert_same nat_cmp_total map.nat_cmp-IsAntisymmetric (with_pages memory first n rights content) (first + n) frame)))
      (cases_lt place (first + n))

pages_more : (memory : Memory) (first n rights : ℕ) → first + n ≤ 2 ^ 20 → rights < 8 → IsMemory memory → map.len memory + n ≤ 2048 → IsMemory (with_pages memory first n rights [])
pages_more memory first n rights low small is few =
    let are = with_pages_are memory (map.len memory) first n rights [] low small (All-nil IsByte) (record { count = omega arith; frames = is.frames }) in
    record { pages = let count = are.count in omega arith; frames = are.frames }

-- pages that are taken away
module _ (memory : Memory) (page n : ℕ) where
  get_left : (place : ℕ) → map.get (without_pages memory page n) place ≡ cond (not (is_among page n place)) (map.get memory place) None
  unfolding without_pages
  get_left place = get-retain nat_cmp_total map.nat_cmp-IsAntisymmetric memory (λ number. not (is_among page n number)) place

  is_beside : (place : ℕ) → (place < page) ⊎ (page + n ≤ place) → not (is_among page n place) ≡ true
  is_beside place (inl below) = grind (arith, nat_tests, below)
  is_beside place (inr above) = grind (arith, nat_tests, above)

  is_inside : (place : ℕ) → page ≤ place → place < page + n → not (is_among page n place) ≡ false
  is_inside place from below = grind (arith, nat_tests, from, below)

  left_beside : (place : ℕ) → (place < page) ⊎ (page + n ≤ place) → map.get (without_pages memory page n) place ≡ map.get memory place
  left_beside place apart = get_left place ∙ ap (λ b. cond b (map.get memory place) None) (is_beside place apart)

  taken : (place : ℕ) → page ≤ place → place < page + n → map.get (without_pages memory page n) place ≡ None
  taken place from below = get_left place ∙ ap (λ b. cond b (map.get memory place) None) (is_inside place from below)

  left_found : (place : ℕ) (frame : Frame) → map.get (without_pages memory page n) place ≡ Some frame → map.get memory place ≡ Some frame
  left_found place frame found = chosen (not (is_among page n place)) (map.get memory place) (sym (get_left place) ∙ found)
    where
      chosen : (b : Bool) (had : Option Frame) → cond b had None ≡ Some frame → had ≡ Some frame
      chosen true had is = is
      chosen false had is = cc

  left_count : map.len (without_pages memory page n) ≤ map.len memory
  unfolding without_pages
  left_count =
      let test = λ (number : ℕ). not (is_among page n number) in
      let kept = λ (e : ℕ × Frame). test e.0 in
      let same : map.len (map.retain_keys memory test) ≡ length (filter kept (map.entries memory)) =
      ap map.len (sym (retain-keys nat_cmp_total map.nat_cmp-IsAntisymmetric test memory)) ∙ map.len-entries (retain (λ k _. test k) memory) ∙ ap length (entries-retain (λ k _. test k) memory) in
      let whole = map.len-entries memory in
      let both = length-filter_both kept (λ e. not (kept e)) (λ e. refl) (map.entries memory) in
      omega arith

  pages_fewer : IsMemory memory → IsMemory (without_pages memory page n)
  pages_fewer is = record { pages = let less = left_count in let few = is.pages in omega arith; frames = λ place frame found. is.frames place frame (left_found place frame found) }

-- the break: a page holds a byte below it if it is among those that it touches
below_break : (bytes place : ℕ) → place < pages_of bytes → nat_lt (4096 * place) bytes ≡ true
below_break bytes place below = let less : 4096 * place < bytes = omega arith in grind (arith, nat_tests, less)

past_break : (bytes place : ℕ) → pages_of bytes ≤ place → nat_lt (4096 * place) bytes ≡ false
past_break bytes place past = let less : bytes ≤ 4096 * place = omega arith in grind (arith, nat_tests, less)

module _ (memory : Memory) (break_start break_end address : ℕ) (is : IsSpace memory break_start break_end) (from : break_start ≤ address) (low : address ≤ 0x40000000)
    (few : map.len memory + pages_of address - pages_of break_end ≤ 2048) where
  grown : pages_of break_end ≤ pages_of address → IsSpace (with_pages memory (pages_of break_end) (pages_of address - pages_of break_end) 6 []) break_start address
  grown more =
      let limit = is.limit in
      let beside = pages_beside memory (pages_of break_end) 6 [] (pages_of address - pages_of break_end) in
      record {
        pages = pages_more memory (pages_of break_end) (pages_of address - pages_of break_end) 6 (omega arith) (omega arith) is.pages (omega arith);
        return_page = beside RETURN_PAGE (inr (omega arith)) ∙ is.return_page;
        aligned = is.aligned;
        order = from;
        limit = low;
        heap = λ place above below. ⊎_elim
            (λ (old : place < pages_of break_end).
            ap is_some (beside place (inl old)) ∙ is.heap place above below ∙ below_break break_end place old ∙ sym (below_break address place (omega arith)))
            (λ (past : pages_of break_end ≤ place). ⊎_elim
            (λ (new : place < pages_of address).
            page_added memory (pages_of break_end) 6 [] (pages_of address - pages_of break_end) place past (omega arith) ∙ sym (below_break address place new))
            (λ (over : pages_of address ≤ place).
            ap is_some (beside place (inr (omega arith))) ∙ is.heap place above below ∙ past_break break_end place past ∙ sym (past_break address place over))
            (cases_lt place (pages_of address)))
            (cases_lt place (pages_of break_end));
      }

  shrunk : pages_of address < pages_of break_end → IsSpace (without_pages memory (pages_of address) (pages_of break_end - pages_of address)) break_start address
  shrunk less =
      let limit = is.limit in
      let beside = left_beside memory (pages_of address) (pages_of break_end - pages_of address) in
      record {
        pages = pages_fewer memory (pages_of address) (pages_of break_end - pages_of address) is.pages;
        return_page = beside RETURN_PAGE (inr (omega arith)) ∙ is.return_page;
        aligned = is.aligned;
        order = from;
        limit = low;
        heap = λ place above below. ⊎_elim
            (λ (new : place < pages_of address).
            ap is_some (beside place (inl new)) ∙ is.heap place above below ∙ below_break break_end place (omega arith) ∙ sym (below_break address place new))
            (λ (past : pages_of address ≤ place). ⊎_elim
            (λ (old : place < pages_of break_end).
            ap is_some (taken memory (pages_of address) (pages_of break_end - pages_of address) place past (omega arith)) ∙ sym (past_break address place past))
            (λ (over : pages_of break_end ≤ place).
            ap is_some (beside place (inr (omega arith))) ∙ is.heap place above below ∙ past_break break_end place over ∙ sym (past_break address place past))
            (cases_lt place (pages_of break_end)))
            (cases_lt place (pages_of address));
      }

  space_to : IsSpace (heap_to memory (pages_of break_end) (pages_of address)) break_start address
  space_to = chosen (nat_le (pages_of break_end) (pages_of address)) refl
    where
      chosen : (b : Bool) → nat_le (pages_of break_end) (pages_of address) ≡ b
          → IsSpace (cond b (with_pages memory (pages_of break_end) (pages_of address - pages_of break_end) 6 []) (without_pages memory (pages_of address) (pages_of break_end - pages_of address))) break_start address
      chosen true at = grown (grind (arith, nat_tests, at))
      chosen false at = shrunk (grind (arith, nat_tests, at))

-- pages above the heap and below the page to which handlers return
above_heap : (memory after : Memory) (break_start break_end page n : ℕ) → IsSpace memory break_start break_end → IsMemory after → 0x40000 ≤ page → page + n ≤ 0x70000
    → ((place : ℕ) → (place < page) ⊎ (page + n ≤ place) → map.get after place ≡ map.get memory place) → IsSpace after break_start break_end
above_heap memory after break_start break_end page n is pages above below beside = record {
  pages = pages;
  return_page = beside RETURN_PAGE (inr (omega arith)) ∙ is.return_page;
  aligned = is.aligned;
  order = is.order;
  limit = is.limit;
  heap = λ place from low. ap is_some (beside place (inl (omega arith))) ∙ is.heap place from low;
}

module _ (user : UserPart) (is : IsUser user) where
  pub break_follows : (address : ℕ) → user.break_start ≤ address → address ≤ 0x40000000 → map.len user.memory + pages_of address - pages_of user.break_end ≤ 2048 → Follows user (with_break user address)
  break_follows address from low few = record {
    user = user_from (with_break user address) (space_to user.memory user.break_start user.break_end address (space_of user is) from low few) (threads_of user is) (actions_of user is) (waiters_of user is);
    threads = λ t. refl;
  }

  mapping_follows : (memory : Memory) → IsSpace memory user.break_start user.break_end → Follows user (with_memory user memory)
  mapping_follows memory space = record { user = user_from (with_memory user memory) space (threads_of user is) (actions_of user is) (waiters_of user is); threads = λ t. refl }

  pub unmapped_follows : (page n : ℕ) → 0x40000 ≤ page → page + n ≤ 0x70000 → Follows user (with_memory user (without_pages user.memory page n))
  unmapped_follows page n above below =
      let space = space_of user is in
      mapping_follows _ (above_heap user.memory _ user.break_start user.break_end page n space (pages_fewer user.memory page n space.pages) above below (left_beside user.memory page n))

  pub mapped_follows : (page n rights : ℕ) → 0x40000 ≤ page → page + n ≤ 0x70000 → rights < 8 → map.len user.memory + n ≤ 2048 → Follows user (with_memory user (with_pages user.memory page n rights []))
  mapped_follows page n rights above below small few =
      let space = space_of user is in
      mapping_follows _ (above_heap user.memory _ user.break_start user.break_end page n space (pages_more user.memory page n rights (omega arith) small space.pages few) above below (pages_beside user.memory page rights [] n))

-- where a mapping is placed
pub record IsPlaced (memory : Memory) (n page : ℕ) : Type 0 where
  pub above : 0x40000 ≤ page
  pub below : page + n ≤ 0x70000
  pub few : map.len memory + n ≤ 2048

found_in_range : (test : ℕ → Bool) (a n : ℕ) → Giving (find test (range_with_len a n)) (λ x. (a ≤ x) × (x < a + n))
found_in_range test a zero = nothing
found_in_range test a (suc n) = either (test a) (λ is. gives a (omega arith)) (λ is. record { each = λ x found. let later = (found_in_range test (a + 1) n).each x found in (omega arith) })

free_pages : (memory : Memory) (n : ℕ) → Giving (free_run memory n) (λ page. (0x40000 ≤ page) × (page + n ≤ 0x70000))
unfolding free_run
free_pages memory n = record { each = λ page found. let range = (found_in_range (λ p. is_free memory p n) 0x40000 (0x70000 - 0x40000 + 1 - n)).each page found in omega arith }

pub room_placed : (memory : Memory) (n : ℕ) → Giving (room_for memory n) (IsPlaced memory n)
room_placed memory n = where_ (nat_le (map.len memory + n) PAGE_LIMIT) (λ few. record {
  each = λ page found. let place = (free_pages memory n).each page found in record { above = place.0; below = place.1; few = grind (arith, nat_tests, few) };
})
