-- The pages of a program at its start, one by one.
use Rattle.std.proofs.Common.{◌≡◌, ℕ, zero, suc, ◌+◌, ◌-◌, ◌*◌, ◌^◌, ◌≤◌, List, [], ◌∷◌, ◌++◌, length, take, drop, replicate, refl, sym, ap, subst, ◌∙◌, Bool, true, false, cond, arith, if◌then◌else◌, length-append, length-drop}
use Rattle.std.proofs.lemmas.List.{take-append-le}
use Rattle.std.specs.Ordering.{nat_cmp}
use Rattle.std.specs.Cmp.{nat_cmp_total}
use Rattle.std.specs.FinMap as map
use Rattle.elf32.specs.declared.program.Segment.{Segment}
use Rattle.elf32.specs.Pages.{is_touched, pages_below, page_count}
use Rattle.elf32.proofs.PageCounts.{pages_below-suc}
use Rattle.plain_process.specs.declared.memory.Frame.{Frame}
use Rattle.plain_process.specs.Memory.{Memory}
use Rattle.plain_process.specs.Start.{segment_byte, segment_bytes, segment_page, segment_pages, page_of, with_pages}

pub no_bytes : (segments : List Segment) (address : ℕ) → [] ≡ segment_bytes segments address 0
unfolding segment_bytes
no_bytes segments address = refl

pub one_byte : (segments : List Segment) (address n byte : ℕ) (bytes bytes' : List ℕ) → bytes ≡ segment_bytes segments address n → byte ≡ segment_byte segments (address + n)
    → bytes' ≡ bytes ++ byte ∷ [] → bytes' ≡ segment_bytes segments address (n + 1)
unfolding segment_bytes
one_byte segments address n byte bytes bytes' before is pushed =
    let more : n + 1 ≡ suc n = omega arith in
    pushed ∙ ap (λ xs. xs ++ byte ∷ []) before ∙ ap (λ b. segment_bytes segments address n ++ b ∷ []) is ∙ ap (segment_bytes segments address) (sym more)

-- an insert adds one page at most
pub len_insert : (m : Memory) (k : ℕ) (v : Frame) → map.len (map.insert m k v) ≤ map.len m + 1
len_insert m k v = rw (map.len-insert nat_cmp_total m k v) (at_most (map.contains_key m k) (map.len m))
  where
    at_most : (b : Bool) (n : ℕ) → cond b n (n + 1) ≤ n + 1
    at_most true n = omega arith
    at_most false n = omega arith

-- the pages below a number, and how many there are at most
pub record SegmentPages (segments : List Segment) (n : ℕ) (space : Memory) : Type 0 where
  pub pages : space ≡ segment_pages segments n
  pub few : map.len space ≤ pages_below n segments

pub no_pages : (segments : List Segment) (space : Memory) → space ≡ map.empty → SegmentPages segments 0 space
unfolding segment_pages
no_pages segments space is = record {
  pages = is;
  few = let none : map.len space ≡ 0 = ap map.len is ∙ map.len-empty nat_cmp Frame in omega arith;
}

pub not_touched : (segments : List Segment) (n : ℕ) (space : Memory) → SegmentPages segments n space → is_touched segments n ≡ false → SegmentPages segments (n + 1) space
unfolding segment_pages
not_touched segments n space before out =
    let more : suc n ≡ n + 1 = omega arith in
    let counted = pages_below-suc n segments in
    subst (λ k. SegmentPages segments k space) more (record {
      pages = before.pages ∙ sym (ap (λ b. if b then map.insert (segment_pages segments n) n (segment_page segments n) else segment_pages segments n) out);
      few = let less = before.few in omega (arith, counted);
    })

pub touched : (segments : List Segment) (n : ℕ) (space space' : Memory) (frame : Frame) → SegmentPages segments n space → is_touched segments n ≡ true → frame ≡ segment_page segments n
    → space' ≡ map.insert space n frame → SegmentPages segments (n + 1) space'
unfolding segment_pages
touched segments n space space' frame before in_it is put =
    let more : suc n ≡ n + 1 = omega arith in
    let counted = pages_below-suc n segments ∙ ap (λ b. pages_below n segments + cond b 1 0) in_it in
    let longer : map.len space' ≤ map.len space + 1 = subst (λ m. map.len m ≤ map.len space + 1) (sym put) (len_insert space n frame) in
    subst (λ k. SegmentPages segments k space') more (record {
      pages = put ∙ ap (λ m. map.insert m n frame) before.pages ∙ ap (map.insert (segment_pages segments n) n) is
          ∙ sym (ap (λ b. if b then map.insert (segment_pages segments n) n (segment_page segments n) else segment_pages segments n) in_it);
      few = let less = before.few in omega (arith, counted);
    })

-- fewer pages lie below a lower number
fewer : (segments : List Segment) (n d : ℕ) → pages_below n segments ≤ pages_below (n + d) segments
fewer segments n zero = let same : n + 0 ≡ n = omega arith in subst (λ k. pages_below n segments ≤ pages_below k segments) (sym same) (omega arith)
fewer segments n (suc d) =
    let more : n + suc d ≡ suc (n + d) = omega arith in
    let counted = pages_below-suc (n + d) segments in
    let less = fewer segments n d in
    subst (λ k. pages_below n segments ≤ pages_below k segments) (sym more) (omega (arith, counted, less))

pub below_all : (segments : List Segment) (n : ℕ) → n ≤ 2 ^ 20 → page_count segments ≤ 1536 → pages_below n segments ≤ 1536
below_all segments n low few =
    let whole : n + (2 ^ 20 - n) ≡ 2 ^ 20 = omega arith in
    let less = subst (λ k. pages_below n segments ≤ pages_below k segments) whole (fewer segments n (2 ^ 20 - n)) in
    omega (arith, less, few)

length-one : (xs : List ℕ) (x : ℕ) → length (xs ++ x ∷ []) ≡ length xs + 1
length-one xs x = simp length-append (omega arith)

pub length-segment_bytes : (segments : List Segment) (address n : ℕ) → length (segment_bytes segments address n) ≡ n
unfolding segment_bytes
length-segment_bytes segments address zero = refl
length-segment_bytes segments address (suc n) =
    let before = length-segment_bytes segments address n in
    let more : suc n ≡ n + 1 = omega arith in
    length-one (segment_bytes segments address n) (segment_byte segments (address + n)) ∙ ap (λ k. k + 1) before ∙ sym more

-- the pages of a content, the first n of them, put onto those that were there
pub record ContentPages (memory : Memory) (first rights : ℕ) (content : List ℕ) (n : ℕ) (space : Memory) : Type 0 where
  pub pages : space ≡ with_pages memory first n rights content
  pub room : map.len space ≤ map.len memory + n

pub no_content : (memory : Memory) (first rights : ℕ) (content : List ℕ) → ContentPages memory first rights content 0 memory
unfolding with_pages
no_content memory first rights content = record { pages = refl; room = omega arith }

full_page : (content : List ℕ) (place : ℕ) → place + 4096 ≤ length content → take 4096 (drop place content) ≡ page_of (drop place content)
full_page content place fits =
    let long : 4096 ≤ length (drop place content) = simp length-drop (omega arith) in
    sym (take-append-le 4096 (drop place content) (replicate 4096 0) long)

pub one_page : (memory : Memory) (first rights : ℕ) (content : List ℕ) (n place : ℕ) (space space' : Memory) (page : List ℕ) → ContentPages memory first rights content n space → place ≡ 4096 * n
    → place + 4096 ≤ length content → page ≡ take 4096 (drop place content) → space' ≡ map.insert space (first + n) (record { rights = rights; page = page })
    → ContentPages memory first rights content (n + 1) space'
unfolding with_pages
one_page memory first rights content n place space space' page before at fits is put =
    let more : suc n ≡ n + 1 = omega arith in
    let longer : map.len space' ≤ map.len space + 1 = subst (λ m. map.len m ≤ map.len space + 1) (sym put) (len_insert space (first + n) (record { rights = rights; page = page })) in
    let room = before.room in
    let page_is : page ≡ page_of (drop (4096 * n) content) = is ∙ full_page content place fits ∙ ap (λ k. page_of (drop k content)) at in
    subst (λ k. ContentPages memory first rights content k space') more (record {
      pages = put ∙ ap (λ m. map.insert m (first + n) (record { rights = rights; page = page })) before.pages
          ∙ ap (λ p. map.insert (with_pages memory first n rights content) (first + n) (record { rights = rights; page = p })) page_is;
      room = omega (arith, longer, room);
    })

pub whole_slice : (content : List ℕ) (n : ℕ) → take (4096 * n + 4096 - 4096 * n) (drop (4096 * n) content) ≡ take 4096 (drop (4096 * n) content)
whole_slice content n =
    let size : 4096 * n + 4096 - 4096 * n ≡ 4096 = omega arith in ap (λ k. take k (drop (4096 * n) content)) size
