-- The image of a valid part that has a thread has a spelling: each condition on its fields holds.
--     each_entry       a fact of each value of a map is one of each of its entries
--     image_fits       the whole image      image_numbers, image_few      of the pages of an image that has a spelling
use Rattle.std.proofs.Common.{◌≡◌, ◌≢◌, ℕ, zero, suc, ◌+◌, ◌-◌, ◌*◌, ◌/◌, ◌%◌, ◌^◌, ◌<◌, ◌≤◌, Bool, true, false, cond, ◌&&◌, ◌||◌, not, List, [], ◌∷◌, ◌++◌, length, map as each, refl, sym, ap, subst, ◌∙◌, arith, ⊎_elim, length-append, append_assoc, T}
use Rattle.std.specs.Prelude.{Option, Some, is_some, nat_lt, nat_le, ◌==◌, All, slice_get}
use Rattle.std.specs.Str.{bytes_eq}
use Rattle.std.specs.Ordering.{nat_cmp, eq_by_cmp, is_lt}
use Rattle.std.specs.Cmp.{nat_cmp_total}
use Rattle.std.specs.FinMap as map
use Rattle.std.specs.FinMap.Entries.{is_sorted, below_all}
use Rattle.std.proofs.lemmas.Bool.Decides.{nat_tests}
use Rattle.std.proofs.lemmas.List.{length-map}
use Rattle.std.proofs.lemmas.List.Elements.{All-nil, All-cons}
use Rattle.views.specs.Limits.{BREAK_LIMIT}
use Rattle.views.proofs.MapLaws.{key_tied, other_key, same_or_other}
use Rattle.plain_process.specs.declared.memory.Frame.{Frame}
use Rattle.plain_process.specs.declared.user_part.UserPart.{UserPart}
use Rattle.plain_process.specs.Start.{RETURN_PAGE, return_bytes, return_frame}
use Rattle.plain_process.specs.Valid.{Each, IsFrame, IsThread, IsUser}
use Rattle.image_process.specs.declared.page_image.PageImage.{PageImage}
use Rattle.image_process.specs.declared.thread_image.ThreadImage.{ThreadImage}
use Rattle.image_process.specs.declared.process_image.ProcImage.{ProcImage}
use Rattle.image_format.specs.Texts.{EachFrom}
use Rattle.image_process.specs.UserParts.{page_entry, thread_entry}
use Rattle.image_process.specs.ProcessTests.{is_number, is_listed, is_heap_page, is_free_of_break, is_above_page, is_page_number, is_page_content, return_content, has_page, has_pages, has_heap}
use Rattle.image_process.specs.ProcessImages.{is_whole_process}
use Rattle.image_process.specs.ProcessFits.{IsPage, IsWaiter, IsThreadImage, threads_of, IsImage, HasImage}
use Rattle.image_process.proofs.DistinctWaiters.{waiters_fit}
use Rattle.image_process.proofs.ThreadKeys.{keys_there, part_keys}
use Rattle.image_process.proofs.RisingKeys.{front, back, rising, past_front, lt_true}
use Rattle.plain_process.proofs.StartPages.{all_tail}

-- entries
found_after : {X : Type 0} (k q : ℕ) (v : X) (es : List (ℕ × X)) → T (below_all nat_cmp k es) → map.find nat_cmp q es ≡ Some v → k < q
found_after k q v [] below found = cc
found_after k q v (e ∷ es) below found =
    let first : k < e.0 = rising k e.0 (front (is_lt (nat_cmp k e.0)) (below_all nat_cmp k es) below) in
    ⊎_elim (λ (here : q ≡ e.0). omega arith)
    (λ other. found_after k q v es (back (is_lt (nat_cmp k e.0)) (below_all nat_cmp k es) below)
    (sym (ap (λ b. cond b (Some e.1) (map.find nat_cmp q es)) (other_key nat_cmp_total map.nat_cmp-IsAntisymmetric q e.0 other)) ∙ found))
    (same_or_other nat_cmp_total map.nat_cmp-IsAntisymmetric q e.0)

entries_all : {X : Type 0} (P : ℕ → X → Type 0) (es : List (ℕ × X)) → T (is_sorted nat_cmp es) → ((q : ℕ) (v : X) → map.find nat_cmp q es ≡ Some v → P q v) → All (λ e. P e.0 e.1) es
entries_all P [] sorted holds = All-nil _
entries_all P (e ∷ es) sorted holds =
    All-cons (λ e. P e.0 e.1) e es
    (holds e.0 e.1 (ap (λ b. cond b (Some e.1) (map.find nat_cmp e.0 es)) (key_tied nat_cmp_total map.nat_cmp-IsAntisymmetric e.0)))
    (entries_all P es (back (below_all nat_cmp e.0 es) (is_sorted nat_cmp es) sorted)
    (λ q v found. holds q v (past_front q e es (found_after e.0 q v es (front (below_all nat_cmp e.0 es) (is_sorted nat_cmp es) sorted) found) ∙ found)))

pub each_entry : {X : Type 0} (P : ℕ → X → Type 0) (m : map.FinMap nat_cmp X) → Each m P → All (λ e. P e.0 e.1) (map.entries m)
each_entry P m holds = entries_all P (map.entries m) (map.entries_sorted m) (λ q v found. holds q v (map.get-entries m q ∙ found))

pub first_of : {X : Type 0} (P : X → Type 0) (x : X) (xs : List X) → All P (x ∷ xs) → P x
first_of P x xs are = are 0 x (omega arith)

-- tests
both_true : (a b : Bool) → a ≡ true → b ≡ true → (a && b) ≡ true
both_true true true first second = refl
both_true true false first second = cc
both_true false b first second = cc

same_bytes : (bytes : List ℕ) → bytes_eq bytes bytes ≡ true
same_bytes [] = refl
same_bytes (byte ∷ rest) = both_true (byte == byte) (bytes_eq rest rest) (same_number byte) (same_bytes rest)
  where
    same_number : (n : ℕ) → (n == n) ≡ true
    same_number n = grind (arith, nat_tests)

eq_true : (m n : ℕ) → m ≡ n → (m == n) ≡ true
eq_true m n is = grind (arith, nat_tests, is)

pub from_eq : (m n : ℕ) → (m == n) ≡ true → m ≡ n
from_eq m n is = grind (arith, nat_tests, is)

le_true : (m n : ℕ) → m ≤ n → nat_le m n ≡ true
le_true m n less = grind (arith, nat_tests, less)

pub from_le : (m n : ℕ) → nat_le m n ≡ true → m ≤ n
from_le m n is = grind (arith, nat_tests, is)

pub from_lt : (m n : ℕ) → nat_lt m n ≡ true → m < n
from_lt m n is = grind (arith, nat_tests, is)

-- a page
pub record IsKept (start end place : ℕ) (frame : Frame) : Type 0 where
  pub valid : IsFrame place frame
  pub free : is_free_of_break start end place ≡ true
  pub return_page : place ≡ RETURN_PAGE → frame ≡ return_frame

pub and_first : (a b : Bool) → (a && b) ≡ true → a ≡ true
and_first true b is = refl
and_first false b is = is

pub and_second : (a b : Bool) → (a && b) ≡ true → b ≡ true
and_second true b is = is
and_second false b is = cc

free_by : (b : Bool) (other : Bool) → (b ≡ true → other ≡ true) → (not b || other) ≡ true
free_by true other holds = holds refl
free_by false other holds = refl

pages_kept : (user : UserPart) → IsUser user → Each user.memory (IsKept user.break_start user.break_end)
pages_kept user is place frame found = record {
  valid = is.memory place frame found;
  free = free_by (is_heap_page user.break_start place) (nat_lt (4096 * place) user.break_end) (λ inside.
      let from : user.break_start ≤ 4096 * place = from_le _ _ (and_first (nat_le user.break_start (4096 * place)) (nat_lt (4096 * place) BREAK_LIMIT) inside) in
      let below : 4096 * place < BREAK_LIMIT = from_lt _ _ (and_second (nat_le user.break_start (4096 * place)) (nat_lt (4096 * place) BREAK_LIMIT) inside) in
      sym (is.heap place from (omega arith)) ∙ ap is_some found);
  return_page = λ here.
      let there : map.get user.memory RETURN_PAGE ≡ Some frame = ap (map.get user.memory) (sym here) ∙ found in
      let known = is.return_page in cc;
}

rights_by : (b : Bool) (rights : ℕ) → (b ≡ true → rights ≡ 5) → rights < 8 → cond b (rights == 5) (nat_le rights 7) ≡ true
rights_by true rights known small = eq_true rights 5 (known refl)
rights_by false rights known small = le_true rights 7 (omega arith)

content_is : (bytes : List ℕ) → bytes ≡ return_bytes → bytes_eq bytes return_content ≡ true
unfolding return_bytes return_content
content_is bytes is = ap (λ xs. bytes_eq xs return_content) is ∙ same_bytes return_content

page_fits : (start end : ℕ) (before : List PageImage) (p : PageImage) → is_above_page (slice_get before (length before - 1)) p.number ≡ true → IsKept start end p.number p.frame → IsPage start end before p
unfolding is_page_number is_page_content
page_fits start end before p above kept = record {
  number = both_true _ _ (both_true _ _ above (lt_true p.number (2 ^ 20) kept.valid.number)) kept.free;
  rights = rights_by (p.number == RETURN_PAGE) p.frame.rights (λ here. ap (λ (f : Frame). f.rights) (kept.return_page (from_eq p.number RETURN_PAGE here))) kept.valid.rights;
  size = kept.valid.size;
  content = free_by (p.number == RETURN_PAGE) (bytes_eq p.frame.page return_content) (λ here. content_is p.frame.page (ap (λ (f : Frame). f.page) (kept.return_page (from_eq p.number RETURN_PAGE here))));
}

-- pages in order
last_at : (before : List PageImage) (p : PageImage) → slice_get (before ++ p ∷ []) (length before) ≡ Some p
last_at [] p = refl
last_at (q ∷ before) p = last_at before p

last_of : (before : List PageImage) (p : PageImage) → slice_get (before ++ p ∷ []) (length (before ++ p ∷ []) - 1) ≡ Some p
last_of before p =
    let size : length (before ++ p ∷ []) - 1 ≡ length before = let sum = length-append before (p ∷ []) in omega arith in
    ap (slice_get (before ++ p ∷ [])) size ∙ last_at before p

abbrev IsNext : List PageImage → List PageImage → Type 0
IsNext before [] = Unit {0}
IsNext before (p ∷ pages) = is_above_page (slice_get before (length before - 1)) p.number ≡ true

next_is : (before : List PageImage) (p : PageImage) (pages : List PageImage) → T (below_all nat_cmp p.number (each page_entry pages)) → IsNext (before ++ p ∷ []) pages
next_is before p [] below = tt
next_is before p (q ∷ pages) below =
    ap (λ last. is_above_page last q.number) (last_of before p) ∙ lt_true p.number q.number (rising p.number q.number (front (is_lt (nat_cmp p.number q.number)) (below_all nat_cmp p.number (each page_entry pages)) below))

pages_fit : (start end : ℕ) (before pages : List PageImage) → IsNext before pages → T (is_sorted nat_cmp (each page_entry pages)) → All (λ e. IsKept start end e.0 e.1) (each page_entry pages) → EachFrom (IsPage start end) before pages
unfolding EachFrom
pages_fit start end before [] next sorted are = tt
pages_fit start end before (p ∷ pages) next sorted are = (
  page_fits start end before p next (first_of (λ e. IsKept start end e.0 e.1) (page_entry p) (each page_entry pages) are),
  pages_fit start end (before ++ p ∷ []) pages (next_is before p pages (front (below_all nat_cmp p.number (each page_entry pages)) (is_sorted nat_cmp (each page_entry pages)) sorted))
      (back (below_all nat_cmp p.number (each page_entry pages)) (is_sorted nat_cmp (each page_entry pages)) sorted) (all_tail (λ e. IsKept start end e.0 e.1) (page_entry p) (each page_entry pages) are),
)

pages_fit_all : (user : UserPart) (pages : List PageImage) → IsUser user → each page_entry pages ≡ map.entries user.memory → EachFrom (IsPage user.break_start user.break_end) [] pages
pages_fit_all user pages is same =
    pages_fit user.break_start user.break_end [] pages (first_next pages) (subst (λ es. T (is_sorted nat_cmp es)) (sym same) (map.entries_sorted user.memory))
    (subst (λ es. All (λ e. IsKept user.break_start user.break_end e.0 e.1) es) (sym same) (each_entry (IsKept user.break_start user.break_end) user.memory (pages_kept user is)))
  where
    first_next : (pages : List PageImage) → IsNext [] pages
    first_next [] = tt
    first_next (p ∷ pages) = refl

-- which pages are there
pub page_there : (n : ℕ) (pages : List PageImage) → has_page pages n ≡ is_some (map.find nat_cmp n (each page_entry pages))
page_there n [] = refl
page_there n (p ∷ pages) = ⊎_elim
    (λ (here : n ≡ p.number).
    ap (λ b. b || has_page pages n) (eq_true p.number n (sym here))
    ∙ sym (ap (λ b. is_some (cond b (Some p.frame) (map.find nat_cmp n (each page_entry pages)))) (ap (λ k. eq_by_cmp nat_cmp k p.number) here ∙ key_tied nat_cmp_total map.nat_cmp-IsAntisymmetric p.number)))
    (λ (other : n ≢ p.number).
    ap (λ b. b || has_page pages n) (differ p.number n other) ∙ page_there n pages
    ∙ sym (ap (λ b. is_some (cond b (Some p.frame) (map.find nat_cmp n (each page_entry pages)))) (other_key nat_cmp_total map.nat_cmp-IsAntisymmetric n p.number other)))
    (same_or_other nat_cmp_total map.nat_cmp-IsAntisymmetric n p.number)
  where
    differ : (m n : ℕ) → n ≢ m → (m == n) ≡ false
    differ m n other = elim (m == n) as (λ b. (m == n) ≡ b → b ≡ false) [ true ↦ λ is. absurd (other (sym (from_eq m n is))) | false ↦ λ is. refl ] refl

pages_there : (first n : ℕ) (pages : List PageImage) → ((k : ℕ) → k < n → has_page pages (first + k) ≡ true) → has_pages pages first n ≡ true
unfolding has_pages
pages_there first zero pages each_there = refl
pages_there first (suc n) pages each_there =
    both_true (has_pages pages first n) (has_page pages (first + n)) (pages_there first n pages (λ k below. each_there k (omega arith))) (each_there n (omega arith))

in_memory : (user : UserPart) (pages : List PageImage) (place : ℕ) → each page_entry pages ≡ map.entries user.memory → has_page pages place ≡ is_some (map.get user.memory place)
in_memory user pages place same = page_there place pages ∙ ap (λ es. is_some (map.find nat_cmp place es)) same ∙ ap is_some (sym (map.get-entries user.memory place))

heap_place : (start end k : ℕ) → start % 4096 ≡ 0 → start ≤ end → end ≤ 0x40000000 → k < (end - start + 4095) / 4096
    → (start ≤ 4096 * (start / 4096 + k)) × (start / 4096 + k < 0x40000) × (4096 * (start / 4096 + k) < end)
heap_place start end k whole order limit below = (omega arith, omega arith, omega arith)

heap_there : (user : UserPart) (pages : List PageImage) → IsUser user → each page_entry pages ≡ map.entries user.memory → has_heap user.break_start user.break_end pages ≡ true
heap_there user pages is same =
    pages_there (user.break_start / 4096) ((user.break_end - user.break_start + 4095) / 4096) pages (λ k below.
    let at = heap_place user.break_start user.break_end k is.break_start is.break_order is.break_limit below in
    in_memory user pages (user.break_start / 4096 + k) same ∙ is.heap (user.break_start / 4096 + k) at.0 at.1 ∙ lt_true _ _ at.2)

-- threads and waiters
abbrev tids_in : List ThreadImage → List ℕ
tids_in threads = each (λ (t : ThreadImage). t.tid) threads

thread_fits : (tids : List ℕ) (before : List ThreadImage) (t : ThreadImage) → slice_get tids (length before) ≡ Some t.tid → IsThread t.part → IsThreadImage tids before t
thread_fits tids before t here is = record {
  tid = ap (λ number. is_number number t.tid) here ∙ eq_true t.tid t.tid refl;
  registers = record { size = is.regs.count; zero = is.regs.zero };
  context_count = le_true (length t.part.contexts) 64 is.count;
  contexts = λ k d inside. let context = is.contexts k d inside in record { size = context.0.count; zero = context.0.zero };
}

tid_at : (before : List ThreadImage) (t : ThreadImage) (rest : List ThreadImage) → slice_get (tids_in (before ++ t ∷ rest)) (length before) ≡ Some t.tid
tid_at [] t rest = refl
tid_at (u ∷ before) t rest = tid_at before t rest

threads_fit : (tids : List ℕ) (before threads : List ThreadImage) → tids ≡ tids_in (before ++ threads) → All (λ e. IsThread e.1) (each thread_entry threads) → EachFrom (IsThreadImage tids) before threads
unfolding EachFrom
threads_fit tids before [] all are = tt
threads_fit tids before (t ∷ threads) all are = (
  thread_fits tids before t (ap (λ numbers. slice_get numbers (length before)) all ∙ tid_at before t threads) (first_of (λ e. IsThread e.1) (thread_entry t) (each thread_entry threads) are),
  threads_fit tids (before ++ t ∷ []) threads (all ∙ sym (ap tids_in (append_assoc before (t ∷ []) threads))) (all_tail (λ e. IsThread e.1) (thread_entry t) (each thread_entry threads) are),
)

-- a thread of the part is one of its image
among_threads : (image : ProcImage) (user : UserPart) (t : ℕ) → each thread_entry image.threads ≡ map.entries user.threads → is_some (map.get user.threads t) ≡ is_listed (threads_of image) t
among_threads image user t same =
    ap is_some (map.get-entries user.threads t) ∙ ap (λ es. is_some (map.find nat_cmp t es)) (sym same) ∙ keys_there (each thread_entry image.threads) t
    ∙ ap (λ numbers. is_listed numbers t) (part_keys image.threads)

waiters_fit_all : (image : ProcImage) (user : UserPart) → IsUser user → each thread_entry image.threads ≡ map.entries user.threads → image.waiters ≡ user.waiters → EachFrom (IsWaiter (threads_of image)) [] image.waiters
waiters_fit_all image user is threads same =
    subst (λ waiters. EachFrom (IsWaiter (threads_of image)) [] waiters) (sym same)
    (waiters_fit (threads_of image) user.waiters (λ k d inside. sym (among_threads image user _ threads) ∙ (is.waiters k d inside).thread) is.waiters_apart)

pub record IsImageOf (image : ProcImage) (user : UserPart) : Type 0 where
  pub pages : each page_entry image.pages ≡ map.entries user.memory
  pub threads : each thread_entry image.threads ≡ map.entries user.threads
  pub break_start : image.break_start ≡ user.break_start
  pub break_end : image.break_end ≡ user.break_end
  pub actions : image.actions ≡ user.actions
  pub waiters : image.waiters ≡ user.waiters

as_long : {A B : Type 0} (f : A → B) (xs : List A) (ys : List B) → each f xs ≡ ys → length xs ≡ length ys
as_long f xs ys is = sym (length-map xs f) ∙ ap length is

pub image_fits : (image : ProcImage) (user : UserPart) → IsImageOf image user → IsUser user → 1 ≤ map.len user.threads → HasImage image
unfolding is_whole_process
image_fits image user of is some =
    let start = of.break_start in
    let end = of.break_end in
    let page_total : length image.pages ≡ map.len user.memory = as_long page_entry image.pages (map.entries user.memory) of.pages ∙ sym (map.len-entries user.memory) in
    let thread_total : length image.threads ≡ map.len user.threads = as_long thread_entry image.threads (map.entries user.threads) of.threads ∙ sym (map.len-entries user.threads) in
    let few_threads = is.thread_count in
    let whole = is.break_start in
    let order = is.break_order in
    let limit = is.break_limit in
    let few = is.pages in
    record {
      fields = record {
        number = eq_true image.pid.0 image.pid.0 refl;
        break_start = both_true _ _ (eq_true (image.break_start % 4096) 0 (ap (λ n. n % 4096) start ∙ whole)) (le_true image.break_start BREAK_LIMIT (omega arith));
        break_end = both_true _ _ (le_true image.break_start image.break_end (omega arith)) (le_true image.break_end BREAK_LIMIT (omega arith));
        page_count = le_true (length image.pages) 2048 (omega arith);
        pages = subst (λ s. EachFrom (IsPage s image.break_end) [] image.pages) (sym start) (subst (λ e. EachFrom (IsPage user.break_start e) [] image.pages) (sym end) (pages_fit_all user image.pages is of.pages));
        actions = ap length of.actions ∙ is.actions;
        waiters = waiters_fit_all image user is of.threads of.waiters;
        thread_count = both_true _ _ (both_true _ _ (le_true 1 (length image.threads) (omega arith)) (le_true (length image.threads) 64 (omega arith)))
            (eq_true (length (threads_of image)) (length image.threads) (length-map image.threads (λ t. t.tid)));
        threads = threads_fit (threads_of image) [] image.threads refl (subst (λ es. All (λ e. IsThread e.1) es) (sym of.threads) (each_entry (λ t thread. IsThread thread) user.threads is.threads));
      };
      whole = both_true _ _
          (ap (λ s. has_heap s image.break_end image.pages) start ∙ ap (λ e. has_heap user.break_start e image.pages) end ∙ heap_there user image.pages is of.pages)
          (in_memory user image.pages RETURN_PAGE of.pages ∙ ap is_some is.return_page);
    }

-- what an image that has a spelling keeps, as the one that makes a guest of it needs it
numbers_of : (start end : ℕ) (before pages : List PageImage) → EachFrom (IsPage start end) before pages → All (λ page. page.number < 2 ^ 20) pages
unfolding EachFrom is_page_number
numbers_of start end before [] are = All-nil _
numbers_of start end before (p ∷ pages) are =
    let low : p.number < 2 ^ 20 = from_lt p.number (2 ^ 20) (and_second _ _ (and_first (is_above_page (slice_get before (length before - 1)) p.number && nat_lt p.number (2 ^ 20)) (is_free_of_break start end p.number) are.0.number)) in
    All-cons (λ page. page.number < 2 ^ 20) p pages low (numbers_of start end (before ++ p ∷ []) pages are.1)

pub image_numbers : (pid : Option ℕ) (tids : List ℕ) (image : ProcImage) → IsImage pid tids image → All (λ page. page.number < 2 ^ 20) image.pages
image_numbers pid tids image is = numbers_of image.break_start image.break_end [] image.pages is.fields.pages

pub image_few : (pid : Option ℕ) (tids : List ℕ) (image : ProcImage) → IsImage pid tids image → length image.pages ≤ 2048
image_few pid tids image is = from_le (length image.pages) 2048 is.fields.page_count
