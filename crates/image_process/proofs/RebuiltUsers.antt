-- An image that has a spelling stands for a valid part.
--     text_pages       the bytes of a text's pages are bytes      rebuilt_user      the part
use Rattle.std.proofs.Common.{◌≡◌, ◌≢◌, ℕ, zero, suc, ◌+◌, ◌-◌, ◌*◌, ◌/◌, ◌%◌, ◌^◌, ◌<◌, ◌≤◌, Bool, true, false, cond, ◌&&◌, ◌||◌, not, List, [], ◌∷◌, ◌++◌, length, map as each, refl, sym, ap, subst, ◌∙◌, arith, ⊎_elim}
use Rattle.std.specs.Prelude.{Option, Some, None, is_some, nat_lt, nat_le, ◌==◌, All, slice_get}
use Rattle.std.specs.List.{flat_map}
use Rattle.std.specs.Str.{bytes_eq}
use Rattle.std.specs.Ordering.{nat_cmp, eq_by_cmp}
use Rattle.std.specs.Cmp.{nat_cmp_total}
use Rattle.std.specs.FinMap as map
use Rattle.std.proofs.lemmas.Bool.Decides.{nat_tests}
use Rattle.std.proofs.lemmas.List.{length-map}
use Rattle.std.proofs.lemmas.List.Elements.{All-nil, All-cons}
use Rattle.std.proofs.lemmas.Slice.Eq.{bytes_eq-Decides}
use Rattle.std.proofs.lemmas.Bool.{cases_lt}
use Rattle.views.specs.Limits.{BREAK_LIMIT}
use Rattle.views.proofs.MapLaws.{other_key, key_tied, same_or_other, true_false}
use Rattle.plain_process.specs.declared.memory.Frame.{Frame}
use Rattle.plain_process.specs.declared.user_part.Waiter.{Waiter}
use Rattle.plain_process.specs.Memory.{Memory}
use Rattle.plain_process.specs.Start.{RETURN_PAGE, return_bytes, return_frame}
use Rattle.plain_process.specs.Valid.{Each, IsByte, IsWord, IsFrame, IsThread, IsWaiter, IsHeap, IsUser}
use Rattle.image_process.specs.declared.page_image.PageImage.{PageImage}
use Rattle.image_process.specs.declared.thread_image.ThreadImage.{ThreadImage}
use Rattle.image_process.specs.declared.process_image.ProcImage.{ProcImage}
use Rattle.image_format.specs.Format.{number_text, n8, n32}
use Rattle.image_format.specs.Texts.{EachFrom}
use Rattle.image_process.specs.UserParts.{page_entry, thread_entry, user_of}
use Rattle.image_process.specs.ProcessTests.{is_heap_page, is_free_of_break, is_above_page, is_page_number, is_page_content, return_content, has_page, has_pages, has_heap, has_return_page, heap_pages, is_listed, is_context_count}
use Rattle.image_process.specs.ProcessImages.{SpellsProcess, PROCESS_MAGIC, is_whole_process}
use Rattle.image_process.specs.ProcessFits.{IsPage, IsThreadImage, ThreadWords, WaiterWords}
use Rattle.image_process.specs.ProcessTexts.{list_text, page_text, action_text, waiter_text, thread_text}
use Rattle.image_process.specs.ProcessTexts.{process_text}
use Rattle.image_process.proofs.DistinctWaiters.{waiters_among, waiters_apart}
use Rattle.image_process.proofs.ThreadKeys.{parts_there}
use Rattle.image_process.proofs.ProcessFiles.{text_of}
use Rattle.image_process.proofs.Owners.{same_tids}
use Rattle.image_process.proofs.FittingParts.{page_there, image_few, from_eq, from_le, from_lt, and_first, and_second, first_of}
use Rattle.plain_process.proofs.StartPages.{all_tail}

-- the bytes of pages in a text
left_of : (P : ℕ → Type 0) (xs ys : List ℕ) → All P (xs ++ ys) → All P xs
left_of P [] ys are = All-nil P
left_of P (x ∷ xs) ys are = All-cons P x xs (first_of P x (xs ++ ys) are) (left_of P xs ys (all_tail P x (xs ++ ys) are))

right_of : (P : ℕ → Type 0) (xs ys : List ℕ) → All P (xs ++ ys) → All P ys
right_of P [] ys are = are
right_of P (x ∷ xs) ys are = right_of P xs ys (all_tail P x (xs ++ ys) are)

pages_bytes : (pages : List PageImage) → All IsByte (flat_map page_text pages) → All (λ page. All IsByte page.frame.page) pages
unfolding page_text
pages_bytes [] are = All-nil _
pages_bytes (p ∷ pages) are =
    All-cons (λ page. All IsByte page.frame.page) p pages
    (right_of IsByte (number_text n32 p.number ++ number_text n8 p.frame.rights) p.frame.page (left_of IsByte ((number_text n32 p.number ++ number_text n8 p.frame.rights) ++ p.frame.page) (flat_map page_text pages) are))
    (pages_bytes pages (right_of IsByte ((number_text n32 p.number ++ number_text n8 p.frame.rights) ++ p.frame.page) (flat_map page_text pages) are))

listed_bytes : (pages : List PageImage) → All IsByte (list_text page_text pages) → All (λ page. All IsByte page.frame.page) pages
unfolding list_text
listed_bytes pages are = pages_bytes pages (right_of IsByte (number_text n32 (length pages)) (flat_map page_text pages) are)

pub text_pages : (p : ProcImage) → All IsByte (process_text p) → All (λ page. All IsByte page.frame.page) p.pages
unfolding process_text
text_pages p are =
    let head = ((PROCESS_MAGIC ++ number_text n32 p.pid.0) ++ number_text n32 p.break_start) ++ number_text n32 p.break_end in
    let pages = list_text page_text p.pages in
    let actions = flat_map action_text p.actions in
    let waiters = list_text waiter_text p.waiters in
    let threads = list_text thread_text p.threads in
    listed_bytes p.pages (right_of IsByte head pages (left_of IsByte (head ++ pages) actions (left_of IsByte ((head ++ pages) ++ actions) waiters (left_of IsByte (((head ++ pages) ++ actions) ++ waiters) threads are))))

-- the entries of a map that lists make
found_in : {X : Type 0} (P : ℕ → X → Type 0) (es : List (ℕ × X)) (q : ℕ) (v : X) → All (λ e. P e.0 e.1) es → map.find nat_cmp q es ≡ Some v → P q v
found_in P [] q v are found = cc
found_in P (e ∷ es) q v are found = ⊎_elim
    (λ (here : q ≡ e.0).
    let there : map.find nat_cmp q (e ∷ es) ≡ Some e.1 = ap (λ b. cond b (Some e.1) (map.find nat_cmp q es)) (ap (λ k. eq_by_cmp nat_cmp k e.0) here ∙ key_tied nat_cmp_total map.nat_cmp-IsAntisymmetric e.0) in
    let value : e.1 ≡ v = cc in
    subst (P q) value (subst (λ k. P k e.1) (sym here) (first_of (λ e. P e.0 e.1) e es are)))
    (λ (other : q ≢ e.0).
    found_in P es q v (all_tail (λ e. P e.0 e.1) e es are) (sym (ap (λ b. cond b (Some e.1) (map.find nat_cmp q es)) (other_key nat_cmp_total map.nat_cmp-IsAntisymmetric q e.0 other)) ∙ found))
    (same_or_other nat_cmp_total map.nat_cmp-IsAntisymmetric q e.0)

each_of : {X : Type 0} (P : ℕ → X → Type 0) (es : List (ℕ × X)) → All (λ e. P e.0 e.1) es → Each (map.from_entries {R = nat_cmp} es) P
each_of P es are q v found = found_in P es q v are (sym (map.get-from_entries nat_cmp_total es q) ∙ found)

no_more_than : {X : Type 0} (es : List (ℕ × X)) → map.len (map.from_entries {R = nat_cmp} es) ≤ length es
no_more_than {X} [] = let none = map.len-empty nat_cmp X in omega arith
no_more_than (e ∷ es) =
    let before = no_more_than es in
    counted (is_some (map.get (map.from_entries {R = nat_cmp} es) e.0)) (map.len-insert nat_cmp_total (map.from_entries es) e.0 e.1) before
  where
    counted : (b : Bool) → map.len (map.insert (map.from_entries {R = nat_cmp} es) e.0 e.1) ≡ cond b (map.len (map.from_entries {R = nat_cmp} es)) (map.len (map.from_entries {R = nat_cmp} es) + 1)
        → map.len (map.from_entries {R = nat_cmp} es) ≤ length es → map.len (map.insert (map.from_entries {R = nat_cmp} es) e.0 e.1) ≤ suc (length es)
    counted true is before = omega arith
    counted false is before = omega arith

-- a page
record IsGiven (start end place : ℕ) (frame : Frame) : Type 0 where
  pub valid : IsFrame place frame
  pub free : is_free_of_break start end place ≡ true
  pub return_page : place ≡ RETURN_PAGE → frame ≡ return_frame

small_rights : (b : Bool) (rights : ℕ) → cond b (rights == 5) (nat_le rights 7) ≡ true → rights < 8
small_rights true rights is = let same = from_eq rights 5 is in omega arith
small_rights false rights is = let less = from_le rights 7 is in omega arith

same_content : (bytes : List ℕ) → bytes_eq bytes return_content ≡ true → bytes ≡ return_bytes
unfolding return_bytes return_content
same_content bytes is = (bytes_eq-Decides bytes return_content).0 is

given_page : (start end : ℕ) (before : List PageImage) (p : PageImage) → IsPage start end before p → All IsByte p.frame.page → IsGiven start end p.number p.frame
unfolding is_page_number is_page_content
given_page start end before p is bytes =
    let above = is_above_page (slice_get before (length before - 1)) p.number in
    let low : p.number < 2 ^ 20 = from_lt p.number (2 ^ 20) (and_second above (nat_lt p.number (2 ^ 20)) (and_first (above && nat_lt p.number (2 ^ 20)) (is_free_of_break start end p.number) is.number)) in
    record {
      valid = record { number = low; rights = small_rights (p.number == RETURN_PAGE) p.frame.rights is.rights; size = is.size; bytes = bytes };
      free = and_second (above && nat_lt p.number (2 ^ 20)) (is_free_of_break start end p.number) is.number;
      return_page = λ here.
          let tested : (p.number == RETURN_PAGE) ≡ true = grind (arith, nat_tests, here) in
          let rights : p.frame.rights ≡ 5 = from_eq p.frame.rights 5 (sym (ap (λ b. cond b (p.frame.rights == 5) (nat_le p.frame.rights 7)) tested) ∙ is.rights) in
          let content : p.frame.page ≡ return_bytes = same_content p.frame.page (sym (ap (λ b. not b || bytes_eq p.frame.page return_content) tested) ∙ is.content) in
          λ i. record { rights = rights i; page = content i };
    }

given_pages : (start end : ℕ) (before pages : List PageImage) → EachFrom (IsPage start end) before pages → All (λ page. All IsByte page.frame.page) pages → All (λ e. IsGiven start end e.0 e.1) (each page_entry pages)
unfolding EachFrom
given_pages start end before [] are bytes = All-nil _
given_pages start end before (p ∷ pages) are bytes =
    All-cons (λ e. IsGiven start end e.0 e.1) (page_entry p) (each page_entry pages) (given_page start end before p are.0 (first_of (λ page. All IsByte page.frame.page) p pages bytes))
    (given_pages start end (before ++ p ∷ []) pages are.1 (all_tail (λ page. All IsByte page.frame.page) p pages bytes))

-- which pages are there
has_each : (pages : List PageImage) (first n k : ℕ) → has_pages pages first n ≡ true → k < n → has_page pages (first + k) ≡ true
unfolding has_pages
has_each pages first zero k are below = absurd (omega arith)
has_each pages first (suc n) k are below = ⊎_elim
    (λ (earlier : k < n). has_each pages first n k (and_first (has_pages pages first n) (has_page pages (first + n)) are) earlier)
    (λ (last : n ≤ k). let same : n ≡ k = omega arith in subst (λ j. has_page pages (first + j) ≡ true) same (and_second (has_pages pages first n) (has_page pages (first + n)) are))
    (cases_lt k n)

in_pages : (pages : List PageImage) (place : ℕ) → has_page pages place ≡ is_some (map.get (map.from_entries {R = nat_cmp} (each page_entry pages)) place)
in_pages pages place = page_there place pages ∙ ap is_some (sym (map.get-from_entries nat_cmp_total (each page_entry pages) place))

heap_number : (start end place : ℕ) → start % 4096 ≡ 0 → start ≤ 4096 * place → 4096 * place < end → (start / 4096 + (place - start / 4096) ≡ place) × (place - start / 4096 < (end - start + 4095) / 4096)
heap_number start end place whole from below = (omega arith, omega arith)

free_true : (inside other : Bool) → (not inside || other) ≡ true → inside ≡ true → other ≡ true
free_true true other is at = is
free_true false other is at = cc

module _ (start end : ℕ) (pages : List PageImage) (whole : start % 4096 ≡ 0) (are : All (λ e. IsGiven start end e.0 e.1) (each page_entry pages)) (heap : has_heap start end pages ≡ true) where
  abbrev memory : Memory
  memory = map.from_entries (each page_entry pages)

  heap_page : (place : ℕ) → start ≤ 4096 * place → place < 0x40000 → is_heap_page start place ≡ true
  heap_page place from below = grind (arith, nat_tests, from, below)

  present : (place : ℕ) → start ≤ 4096 * place → 4096 * place < end → is_some (map.get memory place) ≡ true
  present place from below =
      let number = heap_number start end place whole from below in
      sym (in_pages pages place) ∙ subst (λ k. has_page pages k ≡ true) number.0 (has_each pages (start / 4096) (heap_pages start end) (place - start / 4096) heap number.1)

  absent : (place : ℕ) (found : Option Frame) → map.get memory place ≡ found → start ≤ 4096 * place → place < 0x40000 → nat_lt (4096 * place) end ≡ false → is_some found ≡ false
  absent place None there from below past = refl
  absent place (Some frame) there from below past =
      let given = each_of (IsGiven start end) (each page_entry pages) are place frame there in
      true_false (sym (free_true (is_heap_page start place) (nat_lt (4096 * place) end) given.free (heap_page place from below)) ∙ past)

  by_break : (place : ℕ) (b : Bool) → nat_lt (4096 * place) end ≡ b → start ≤ 4096 * place → place < 0x40000 → is_some (map.get memory place) ≡ b
  by_break place true at from below = present place from (from_lt (4096 * place) end at)
  by_break place false at from below = absent place (map.get memory place) refl from below at

  heap_is : IsHeap memory start end
  heap_is place from below = by_break place (nat_lt (4096 * place) end) refl from below

  return_by : (found : Option Frame) → map.get memory RETURN_PAGE ≡ found → is_some found ≡ true → found ≡ Some return_frame
  return_by None there is = cc
  return_by (Some frame) there is = ap (λ (f : Frame). Some f) ((each_of (IsGiven start end) (each page_entry pages) are RETURN_PAGE frame there).return_page refl)

  return_is : has_return_page pages ≡ true → map.get memory RETURN_PAGE ≡ Some return_frame
  return_is has = return_by (map.get memory RETURN_PAGE) refl (sym (in_pages pages RETURN_PAGE) ∙ has)

-- threads
few_contexts : (n : ℕ) → is_context_count n ≡ true → n ≤ 64
few_contexts n is = from_le n 64 is

given_thread : (tids : List ℕ) (before : List ThreadImage) (t : ThreadImage) → IsThreadImage tids before t → ThreadWords t → IsThread t.part
given_thread tids before t is words = record {
  regs = record { count = is.registers.size; zero = is.registers.zero; words = words.x; pc = words.pc };
  mask = words.mask;
  clear_tid = words.clear_tid;
  count = few_contexts (length t.part.contexts) is.context_count;
  contexts = λ k d inside.
      let registers = is.contexts k d inside in
      let more = words.contexts k d inside in
      (record { count = registers.size; zero = registers.zero; words = more.x; pc = more.pc }, more.mask);
}

given_threads : (tids : List ℕ) (before threads : List ThreadImage) → EachFrom (IsThreadImage tids) before threads → All ThreadWords threads → All (λ e. IsWord e.0 × IsThread e.1) (each thread_entry threads)
unfolding EachFrom
given_threads tids before [] are words = All-nil _
given_threads tids before (t ∷ threads) are words =
    let first = first_of ThreadWords t threads words in
    All-cons (λ e. IsWord e.0 × IsThread e.1) (thread_entry t) (each thread_entry threads) (first.tid, given_thread tids before t are.0 first)
    (given_threads tids (before ++ t ∷ []) threads are.1 (all_tail ThreadWords t threads words))

-- who waits is one of the threads
given_waiter : (threads : List ThreadImage) (waiter : Waiter) → is_listed (each (λ (t : ThreadImage). t.tid) threads) waiter.tid ≡ true → WaiterWords waiter → IsWaiter (map.from_entries (each thread_entry threads)) waiter
given_waiter threads waiter there words = record { thread = parts_there threads waiter.tid ∙ there; address = words.address }

pub rebuilt_user : (pid : Option ℕ) (tids text : List ℕ) (p : ProcImage) → SpellsProcess pid tids text p → All IsByte text → IsUser (user_of p)
unfolding user_of is_whole_process
rebuilt_user pid tids text p spells bytes =
    let spelled = text_of pid tids text p spells in
    let fields = spelled.keeps.fields in
    let words = spelled.words in
    let whole : p.break_start % 4096 ≡ 0 = from_eq (p.break_start % 4096) 0 (and_first (p.break_start % 4096 == 0) (nat_le p.break_start BREAK_LIMIT) fields.break_start) in
    let order : p.break_start ≤ p.break_end = from_le p.break_start p.break_end (and_first (nat_le p.break_start p.break_end) (nat_le p.break_end BREAK_LIMIT) fields.break_end) in
    let limit : p.break_end ≤ BREAK_LIMIT = from_le p.break_end BREAK_LIMIT (and_second (nat_le p.break_start p.break_end) (nat_le p.break_end BREAK_LIMIT) fields.break_end) in
    let are = given_pages p.break_start p.break_end [] p.pages fields.pages (text_pages p (subst (All IsByte) spelled.text_is bytes)) in
    let heap = and_first (has_heap p.break_start p.break_end p.pages) (has_return_page p.pages) spelled.keeps.whole in
    let back = and_second (has_heap p.break_start p.break_end p.pages) (has_return_page p.pages) spelled.keeps.whole in
    let threads = given_threads tids [] p.threads fields.threads words.threads in
    let page_total = no_more_than (each page_entry p.pages) in
    let thread_total = no_more_than (each thread_entry p.threads) in
    let pages_few : length p.pages ≤ 2048 = image_few pid tids p spelled.keeps in
    let threads_few : length p.threads ≤ 64 = from_le (length p.threads) 64 (and_second (nat_le 1 (length p.threads)) (nat_le (length p.threads) 64) (and_first _ (length tids == length p.threads) fields.thread_count)) in
    let waiting = subst (λ (numbers : List ℕ). All (λ (waiter : Waiter). is_listed numbers waiter.tid ≡ true) p.waiters) (same_tids pid tids p spelled.keeps) (waiters_among tids p.waiters fields.waiters) in
    let page_size = length-map p.pages page_entry in
    let thread_size = length-map p.threads thread_entry in
    record {
      pages = omega arith;
      memory = λ place frame found. (each_of (IsGiven p.break_start p.break_end) (each page_entry p.pages) are place frame found).valid;
      return_page = return_is p.break_start p.break_end p.pages whole are heap back;
      break_start = whole;
      break_order = order;
      break_limit = limit;
      heap = heap_is p.break_start p.break_end p.pages whole are heap;
      thread_count = omega arith;
      thread_numbers = λ t thread found. (each_of (λ tid part. IsWord tid × IsThread part) (each thread_entry p.threads) threads t thread found).0;
      threads = λ t thread found. (each_of (λ tid part. IsWord tid × IsThread part) (each thread_entry p.threads) threads t thread found).1;
      actions = fields.actions;
      handlers = λ k d inside. let action = words.actions k d inside in record { handler = action.handler; flags = action.flags; mask = action.mask };
      waiters = λ k d inside. given_waiter p.threads _ (waiting k d inside) (words.waiters k d inside);
      waiters_apart = waiters_apart tids p.waiters fields.waiters;
    }
