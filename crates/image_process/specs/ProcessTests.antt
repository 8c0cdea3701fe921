-- The tests of single fields of a process's image.
--     is_break_start, is_break_end      the break, from a page boundary on
--     is_heap_page start page      the page lies from the break's start to below 0x40000000
--     is_free_of_break start end page      it doesn't, or it holds a byte below the break
--     is_page_rights, is_page_content page      what a page may be: that to which a signal handler returns is given
--     has_heap, has_return_page      no page lacks
-- Source: docs/FORMATS.md, "Process image", and docs/MACHINE.md for the pages.
use Rattle.std.specs.Prelude.{ℕ, zero, suc, ◌+◌, ◌-◌, ◌*◌, ◌/◌, ◌%◌, ◌^◌, ◌==◌, ◌&&◌, ◌||◌, not, nat_le}
use Rattle.std.specs.Prelude.{nat_lt}
use Rattle.std.specs.Prelude.{Bool, true, false, List, length, slice_get, Option, Some, None, if◌then◌else◌}
use Rattle.std.specs.List.{list_any}
use Rattle.views.specs.Numbers.{Address, ThreadNumber, Byte}
use Rattle.views.specs.Limits.{THREAD_LIMIT, CONTEXT_LIMIT, PAGE_LIMIT, BREAK_LIMIT}
use Rattle.plain_process.specs.Start.{RETURN_PAGE, return_code, page_of}
use Rattle.image_process.specs.declared.page_image.PageImage.{PageImage}
use Rattle.image_format.specs.Fields.{is_bytes, is_within}

abbrev pub RETURN_RIGHTS : ℕ
RETURN_RIGHTS = 5

-- the number of the process, if there is one
abbrev pub is_number : Option ℕ → ℕ → Bool
is_number None n = false
is_number (Some number) n = number == n

abbrev pub is_break_start : Address → Bool
is_break_start start = (start % 4096 == 0) && nat_le start BREAK_LIMIT

abbrev pub is_break_end : Address → Address → Bool
is_break_end start end = is_within start BREAK_LIMIT end

abbrev pub is_page_count : ℕ → Bool
is_page_count count = nat_le count PAGE_LIMIT

abbrev pub is_heap_page : Address → ℕ → Bool
is_heap_page start page = nat_le start (4096 * page) && nat_lt (4096 * page) BREAK_LIMIT

abbrev pub is_free_of_break : Address → Address → ℕ → Bool
is_free_of_break start end page = not (is_heap_page start page) || nat_lt (4096 * page) end

abbrev pub is_above_page : Option PageImage → ℕ → Bool
is_above_page None page = true
is_above_page (Some last) page = nat_lt last.number page

-- a page's number, after those of the pages before it
unfoldable pub is_page_number : Address → Address → List PageImage → ℕ → Bool
is_page_number start end front page =
    is_above_page (slice_get front (length front - 1)) page && nat_lt page (2 ^ 20)
    && is_free_of_break start end page

abbrev pub is_page_rights : ℕ → ℕ → Bool
is_page_rights page rights = if page == RETURN_PAGE then rights == RETURN_RIGHTS else nat_le rights 7

unfoldable pub return_content : List Byte
return_content = page_of return_code

unfoldable pub is_page_content : ℕ → List Byte → Bool
is_page_content page bytes = not (page == RETURN_PAGE) || is_bytes return_content bytes

-- a thread saves at most so many contexts, one for each signal handler that it is in
abbrev pub is_context_count : ℕ → Bool
is_context_count count = nat_le count CONTEXT_LIMIT

-- 1 to 64 threads, as many as the shared image has of the process
abbrev pub is_count_of_threads : List ThreadNumber → ℕ → Bool
is_count_of_threads tids count = is_within 1 THREAD_LIMIT count && (length tids == count)

abbrev pub is_listed : List ℕ → ℕ → Bool
is_listed numbers n = list_any (λ number. number == n) numbers

-- a thread of the process that doesn't wait before
abbrev pub is_waiting : List ThreadNumber → List ThreadNumber → ThreadNumber → Bool
is_waiting tids before tid = is_listed tids tid && not (is_listed before tid)

-- the thread at its place in the shared image
abbrev pub is_thread_at : List ThreadNumber → ℕ → ThreadNumber → Bool
is_thread_at tids place tid = is_number (slice_get tids place) tid

abbrev pub has_page : List PageImage → ℕ → Bool
has_page pages page = list_any (λ p. p.number == page) pages

-- so many pages from a first one on
unfoldable pub has_pages : List PageImage → ℕ → ℕ → Bool
has_pages pages first zero = true
has_pages pages first (suc n) = has_pages pages first n && has_page pages (first + n)

-- how many pages hold a byte from break start to below break
abbrev pub heap_pages : Address → Address → ℕ
heap_pages start end = (end - start + 4095) / 4096

abbrev pub has_heap : Address → Address → List PageImage → Bool
has_heap start end pages = has_pages pages (start / 4096) (heap_pages start end)

abbrev pub has_return_page : List PageImage → Bool
has_return_page pages = has_page pages RETURN_PAGE
