-- The memory of a program at its start is valid: at most 1,536 pages of the program, 64 of the stack and one to return from handlers, each of 4,096 bytes.
--     segment_pages_are      the program's pages      with_pages_are      pages filled with a content      start_memory_is      all
use Rattle.std.proofs.Common.{◌≡◌, ℕ, zero, suc, ◌+◌, ◌-◌, ◌*◌, ◌^◌, ◌<◌, ◌≤◌, Bool, true, false, cond, List, [], ◌∷◌, ◌++◌, length, take, drop, replicate, refl, sym, ap, subst, ◌∙◌, arith, ⊎_elim, length-append, add-one}
use Rattle.std.specs.Prelude.{Option, Some, None, is_some, All, find, bit_or}
use Rattle.std.specs.List.{fold, count_by, range_with_len}
use Rattle.std.specs.Ordering.{nat_cmp}
use Rattle.std.specs.Cmp.{nat_cmp_total}
use Rattle.std.specs.FinMap as map
use Rattle.std.proofs.lemmas.List.{length-replicate, length-take-le}
use Rattle.std.proofs.lemmas.List.Elements.{All-append, All-cons, All-nil, All-replicate, All-take, All-drop}
use Rattle.std.proofs.lemmas.Nat.{or_lt}
use Rattle.std.proofs.Math.Nat.{le_trans}
use Rattle.elf32.proofs.OfViews.MapLaws.{get_insert_same, get_insert_other, same_or_other}
use Rattle.elf32.specs.declared.program.Program.{Program}
use Rattle.elf32.specs.declared.program.Segment.{Segment}
use Rattle.elf32.specs.Pages.{is_touched, touches, rights_at, pages_below}
use Rattle.elf32.specs.Programs.{IsWellPlaced}
use Rattle.plain_process.specs.declared.memory.Frame.{Frame}
use Rattle.plain_process.specs.Memory.{Memory, low_bytes}
use Rattle.plain_process.specs.Start.{page_of, with_pages, is_in, byte_of_segment, segment_byte, segment_bytes, segment_page, segment_pages, PROGRAM_PAGES, STACK_PAGE, STACK_PAGES, RETURN_PAGE, return_code, argument_places, start_words, words_bytes, strings_start, start_sp, start_stack, start_memory, STACK_START, IsLoadable}
use Rattle.plain_process.specs.Valid.{IsByte, IsFrame, Each}
use Rattle.plain_process.proofs.Giving.{Giving, gives, nothing, either}
use Rattle.plain_process.proofs.MemoryBounds.{IsMemory, byte_of, low_bytes_are}

pub all_tail : {X : Type 0} (P : X → Type 0) (x : X) (xs : List X) → All P (x ∷ xs) → All P xs
all_tail P x xs are = λ k d inside. are (suc k) d (omega arith)

-- so many pages at most, and each valid
pub record ArePages (most : ℕ) (memory : Memory) : Type 0 where
  pub count : map.len memory ≤ most
  pub frames : Each memory IsFrame

no_pages : ArePages 0 map.empty
no_pages = record { count = let none = map.len-empty nat_cmp Frame in omega arith; frames = λ place frame found. let none : map.get (map.empty {X = Frame} {R = nat_cmp}) place ≡ None = map.get-empty nat_cmp place in cc }

one_more : (most : ℕ) (memory : Memory) (place : ℕ) (frame : Frame) → ArePages most memory → IsFrame place frame → ArePages (suc most) (map.insert memory place frame)
one_more most memory place frame are is = record {
  count = counted (is_some (map.get memory place)) (map.len-insert nat_cmp_total memory place frame);
  frames = λ q other found. ⊎_elim
      (λ here.
      let there : map.get (map.insert memory place frame) place ≡ Some other = subst (λ k. map.get (map.insert memory place frame) k ≡ Some other) here found in
      let same : frame ≡ other = let put = get_insert_same nat_cmp_total map.nat_cmp-IsAntisymmetric memory place frame in cc in
      subst (λ k. IsFrame k other) (sym here) (subst (IsFrame place) same is))
      (λ apart. are.frames q other (sym (get_insert_other nat_cmp_total map.nat_cmp-IsAntisymmetric memory place frame q apart) ∙ found))
      (same_or_other nat_cmp_total map.nat_cmp-IsAntisymmetric q place);
}
  where
    counted : (b : Bool) → map.len (map.insert memory place frame) ≡ cond b (map.len memory) (map.len memory + 1) → map.len (map.insert memory place frame) ≤ suc most
    counted true is = let small = are.count in omega arith
    counted false is = let small = are.count in omega arith

-- what segments give a page
found_all : {X : Type 0} (P : X → Type 0) (test : X → Bool) (xs : List X) → All P xs → Giving (find test xs) P
found_all P test [] are = nothing
found_all P test (x ∷ xs) are = either (test x) (λ is. gives x (are 0 x (omega arith))) (λ is. found_all P test xs (all_tail P x xs are))

segment_byte_by : (address : ℕ) (found : Option Segment) → Giving found (λ segment. All IsByte segment.bytes) → IsByte (byte_of_segment address found)
segment_byte_by address None are = omega arith
segment_byte_by address (Some segment) are = byte_of segment.bytes (address - segment.vaddr) (are.each segment refl)

segment_byte_is : (segments : List Segment) (address : ℕ) → All (λ segment. All IsByte segment.bytes) segments → IsByte (segment_byte segments address)
unfolding segment_byte
segment_byte_is segments address are = segment_byte_by address _ (found_all (λ segment. All IsByte segment.bytes) (is_in address) segments are)

segment_bytes_are : (segments : List Segment) (address n : ℕ) → All (λ segment. All IsByte segment.bytes) segments → All IsByte (segment_bytes segments address n)
unfolding segment_bytes
segment_bytes_are segments address zero are = All-nil IsByte
segment_bytes_are segments address (suc n) are =
    All-append IsByte _ _ (segment_bytes_are segments address n are) (All-cons IsByte _ [] (segment_byte_is segments (address + n) are) (All-nil IsByte))

segment_bytes_length : (segments : List Segment) (address n : ℕ) → length (segment_bytes segments address n) ≡ n
unfolding segment_bytes
segment_bytes_length segments address zero = refl
segment_bytes_length segments address (suc n) = length-append (segment_bytes segments address n) _ ∙ ap (λ k. k + 1) (segment_bytes_length segments address n) ∙ add-one n

rights_from : (segments : List Segment) (p rights : ℕ) → All IsWellPlaced segments → rights < 2 ^ 3 → fold (λ r s. bit_or r (rights_at s p)) rights segments < 2 ^ 3
rights_from [] p rights are small = small
rights_from (s ∷ rest) p rights are small = rights_from rest p _ (all_tail IsWellPlaced s rest are) (or_lt 3 rights (rights_at s p) small (one (touches s p) (are 0 s (omega arith))))
  where
    one : (b : Bool) → IsWellPlaced s → cond b s.rights 0 < 2 ^ 3
    one true is = let small = is.rights in omega arith
    one false is = omega arith

page_is : (segments : List Segment) (n : ℕ) → n < 2 ^ 20 → All IsWellPlaced segments → All (λ segment. All IsByte segment.bytes) segments → IsFrame n (segment_page segments n)
page_is segments n low placed are = record {
  number = low;
  rights = rights_from segments n 0 placed (omega arith);
  size = segment_bytes_length segments (4096 * n) 4096;
  bytes = segment_bytes_are segments (4096 * n) 4096 are;
}

-- one more number, counted where it passes
abbrev counting : (ℕ → Bool) → ℕ → ℕ → ℕ
counting p count x = count + cond (p x) 1 0

count_more : (p : ℕ → Bool) (count a n : ℕ) → fold (counting p) count (range_with_len a (suc n)) ≡ fold (counting p) count (range_with_len a n) + cond (p (a + n)) 1 0
count_more p count a zero = ap (λ x. count + cond (p x) 1 0) (let same : a ≡ a + 0 = omega arith in same)
count_more p count a (suc n) =
    count_more p (count + cond (p a) 1 0) (a + 1) n
    ∙ ap (λ x. fold (counting p) (count + cond (p a) 1 0) (range_with_len (a + 1) n) + cond (p x) 1 0) (let same : (a + 1) + n ≡ a + suc n = omega arith in same)

count_below : List Segment → ℕ → ℕ
count_below segments n = count_by (is_touched segments) (range_with_len 0 n)

count_none : (segments : List Segment) → count_below segments 0 ≡ 0
unfolding count_below
count_none segments = refl

count_one_more : (segments : List Segment) (n : ℕ) → count_below segments (suc n) ≡ count_below segments n + cond (is_touched segments n) 1 0
unfolding count_below
count_one_more segments n =
    count_more (is_touched segments) 0 0 n ∙ ap (λ x. fold (counting (is_touched segments)) 0 (range_with_len 0 n) + cond (is_touched segments x) 1 0) (let same : 0 + n ≡ n = omega arith in same)

count_rises : (segments : List Segment) (n k : ℕ) → count_below segments n ≤ count_below segments (n + k)
count_rises segments n zero = let same : count_below segments n ≡ count_below segments (n + 0) = ap (count_below segments) (let sum : n ≡ n + 0 = omega arith in sum) in omega arith
count_rises segments n (suc k) =
    let before = count_rises segments n k in
    let more = count_one_more segments (n + k) in
    let same : count_below segments (suc (n + k)) ≡ count_below segments (n + suc k) = ap (count_below segments) (let sum : suc (n + k) ≡ n + suc k = omega arith in sum) in
    omega arith

touched_more : (segments : List Segment) (n : ℕ) (b : Bool) → ArePages (count_below segments n) (segment_pages segments n) → IsFrame n (segment_page segments n)
    → ArePages (count_below segments n + cond b 1 0) (cond b (map.insert (segment_pages segments n) n (segment_page segments n)) (segment_pages segments n))
touched_more segments n true before is = subst (λ most. ArePages most (map.insert (segment_pages segments n) n (segment_page segments n))) (let same : suc (count_below segments n) ≡ count_below segments n + 1 = omega arith in same) (one_more _ _ n _ before is)
touched_more segments n false before is = subst (λ most. ArePages most (segment_pages segments n)) (let same : count_below segments n ≡ count_below segments n + 0 = omega arith in same) before

segment_pages_are : (segments : List Segment) (n : ℕ) → n ≤ 2 ^ 20 → All IsWellPlaced segments → All (λ segment. All IsByte segment.bytes) segments → ArePages (count_below segments n) (segment_pages segments n)
unfolding segment_pages
segment_pages_are segments zero low placed are = subst (λ most. ArePages most map.empty) (sym (count_none segments)) no_pages
segment_pages_are segments (suc n) low placed are =
    subst (λ most. ArePages most (cond (is_touched segments n) (map.insert (segment_pages segments n) n (segment_page segments n)) (segment_pages segments n))) (sym (count_one_more segments n))
    (touched_more segments n (is_touched segments n) (segment_pages_are segments n (omega arith) placed are) (page_is segments n (omega arith) placed are))

-- pages filled with a content
padded_length : (size : ℕ) (content zeros : List ℕ) → length zeros ≡ size → size ≤ length (content ++ zeros)
padded_length size content zeros is = let sum = length-append content zeros in omega arith

content_page : (size : ℕ) (content : List ℕ) → All IsByte content → All IsByte (take size (content ++ replicate size 0)) × (length (take size (content ++ replicate size 0)) ≡ size)
content_page size content are = (
  All-take IsByte size _ (All-append IsByte content (replicate size 0) are (All-replicate IsByte size 0 (omega arith))),
  length-take-le size _ (padded_length size content (replicate size 0) (length-replicate size 0)),
)

pub with_pages_are : (memory : Memory) (most first n rights : ℕ) (content : List ℕ) → first + n ≤ 2 ^ 20 → rights < 8 → All IsByte content → ArePages most memory → ArePages (most + n) (with_pages memory first n rights content)
unfolding with_pages
with_pages_are memory most first zero rights content low small are before = subst (λ k. ArePages k memory) (let same : most ≡ most + 0 = omega arith in same) before
with_pages_are memory most first (suc n) rights content low small are before =
    let page = content_page 4096 (drop (4096 * n) content) (All-drop IsByte (4096 * n) content are) in
    subst (λ k. ArePages k (map.insert (with_pages memory first n rights content) (first + n) (record { rights = rights; page = page_of (drop (4096 * n) content) }))) (let same : suc (most + n) ≡ most + suc n = omega arith in same)
    (one_more _ _ (first + n) _ (with_pages_are memory most first n rights content (omega arith) small are before) (record { number = omega arith; rights = small; size = page.1; bytes = page.0 }))

-- the stack
words_are : (words : List ℕ) → All IsByte (words_bytes words)
words_are [] = All-nil IsByte
words_are (word ∷ rest) = All-append IsByte (low_bytes 4 word) _ (low_bytes_are 4 word) (words_are rest)

stack_is : (arguments : List ℕ) → All IsByte arguments → All IsByte (start_stack arguments)
unfolding start_stack
stack_is arguments are =
    let words = words_bytes (start_words (argument_places arguments)) in
    let low = replicate (start_sp arguments - STACK_START) 0 in
    let high = replicate (strings_start arguments - (start_sp arguments + length words)) 0 in
    All-append IsByte (low ++ words ++ high) arguments (All-append IsByte (low ++ words) high (All-append IsByte low words (zeros _) (words_are (start_words (argument_places arguments)))) (zeros _)) are
  where
    zeros : (n : ℕ) → All IsByte (replicate n 0)
    zeros n = All-replicate IsByte n 0 (omega arith)

few_below : (segments : List Segment) (n m few : ℕ) → n ≤ m → pages_below m segments ≤ few → count_below segments n ≤ few
unfolding pages_below count_below
few_below segments n m few less are =
    let rises = count_rises segments n (m - n) in
    let same : count_below segments (n + (m - n)) ≡ count_below segments m = ap (count_below segments) (let sum : n + (m - n) ≡ m = omega arith in sum) in
    le_trans (subst (λ k. count_below segments n ≤ k) same rises) are

pub start_memory_is : (program : Program) (arguments : List ℕ) → IsLoadable program → All (λ segment. All IsByte segment.bytes) program.segments → All IsByte arguments → IsMemory (start_memory program arguments)
unfolding start_memory
start_memory_is program arguments loadable bytes are =
    let few = few_below program.segments PROGRAM_PAGES (2 ^ 20) 1536 (omega arith) loadable.pages in
    let pages = with_pages_are _ _ RETURN_PAGE 1 5 return_code (omega arith) (omega arith) (All-append IsByte (low_bytes 4 0x08B00893) (low_bytes 4 0x00000073) (low_bytes_are 4 0x08B00893) (low_bytes_are 4 0x00000073))
    (with_pages_are _ _ STACK_PAGE STACK_PAGES 6 (start_stack arguments) (omega arith) (omega arith) (stack_is arguments are)
    (segment_pages_are program.segments PROGRAM_PAGES (omega arith) loadable.placed bytes)) in
    record { pages = let count = pages.count in omega arith; frames = pages.frames }
