-- The pages of an address space against the list of pages of an image.
--     CopiesPages, copies_none, copies_more, pages_few      copies in rising order of their numbers
--     FillsSpace, fills_start, fills_more, fills_end        a space of an image's pages, of which the last ones are put in first
use Rattle.std.proofs.Common.{◌≡◌, ℕ, ◌+◌, ◌^◌, ◌<◌, ◌≤◌, Bool, true, false, cond, List, [], ◌∷◌, ◌++◌, length, map as each, sym, ap, subst, ◌∙◌, arith, length-append}
use Rattle.std.specs.Prelude.{Option, Some, None, is_some, find, All}
use Rattle.std.specs.Ordering.{nat_cmp}
use Rattle.std.specs.Cmp.{nat_cmp_total}
use Rattle.std.specs.FinMap as map
use Rattle.std.proofs.lemmas.List.{map-append, length-map}
use Rattle.std.proofs.lemmas.List.Elements.{All-pop, All-nil, All-cons, All-append}
use Rattle.views.specs.NumberMap.{is_above}
use Rattle.plain_process.specs.declared.memory.Frame.{Frame}
use Rattle.plain_process.specs.Memory.{Memory}
use Rattle.image_process.specs.declared.page_image.PageImage.{PageImage}
use Rattle.image_process.specs.UserParts.{page_entry}
use Rattle.image_process.proofs.EntryLists.{above, each_above, one_more_entry, with_entries, all_put, none_put, one_of}

-- so many of the pages are put into a space, the last ones first
pub record FillsSpace (pages left : List PageImage) (space : Memory) : Type 0 where
  pub whole : with_entries (each page_entry left) space ≡ map.from_entries (each page_entry pages)
  pub numbers : All (λ page. page.number < 2 ^ 20) left
  pub room : map.len space + length left ≤ 2048

pub fills_start : (pages left : List PageImage) (space : Memory) → left ≡ pages → space ≡ map.empty → All (λ page. page.number < 2 ^ 20) pages → length pages ≤ 2048 → FillsSpace pages left space
fills_start pages left space same blank numbers few = record {
  whole = ap (λ m. with_entries (each page_entry left) m) blank ∙ ap (λ xs. with_entries (each page_entry xs) map.empty) same ∙ all_put (each page_entry pages);
  numbers = subst (λ xs. All (λ page. page.number < 2 ^ 20) xs) (sym same) numbers;
  room = let none : map.len space ≡ 0 = ap map.len blank ∙ map.len-empty nat_cmp Frame in let size = ap length same in omega arith;
}

pub fills_more : (pages before after : List PageImage) (page : PageImage) (space next : Memory) → FillsSpace pages before space → before ≡ after ++ page ∷ [] → next ≡ map.insert space page.number page.frame → FillsSpace pages after next
fills_more pages before after page space next fills is put = record {
  whole = ap (λ m. with_entries (each page_entry after) m) put ∙ sym (one_of page_entry before after page space is) ∙ fills.whole;
  numbers = (All-pop (λ page. page.number < 2 ^ 20) before after (Some page) is fills.numbers).0;
  room =
      let size = ap length is ∙ length-append after (page ∷ []) in
      let room = fills.room in
      let grown = counted (is_some (map.get space page.number)) (ap map.len put ∙ map.len-insert nat_cmp_total space page.number page.frame) in
      omega arith;
}
  where
    counted : (b : Bool) → map.len next ≡ cond b (map.len space) (map.len space + 1) → map.len next ≤ map.len space + 1
    counted true is = omega arith
    counted false is = omega arith

pub fills_end : (pages left : List PageImage) (space : Memory) → FillsSpace pages left space → length left ≡ 0 → space ≡ map.from_entries (each page_entry pages)
fills_end pages [] space fills none = sym (none_put space) ∙ fills.whole
fills_end pages (page ∷ left) space fills none = absurd (omega arith)

-- the pages so far
pub record CopiesPages (m : Memory) (pages : List PageImage) (last : Option ℕ) : Type 0 where
  pub entries : each page_entry pages ++ above last (map.entries m) ≡ map.entries m
  pub numbers : All (λ page. page.number < 2 ^ 20) pages

pub copies_none : (m : Memory) (pages : List PageImage) → pages ≡ [] → CopiesPages m pages None
copies_none m pages none = record {
  entries = ap (λ xs. each page_entry xs ++ above None (map.entries m)) none ∙ each_above (map.entries m);
  numbers = subst (λ xs. All (λ page. page.number < 2 ^ 20) xs) (sym none) (All-nil _);
}

pages_more : (m : Memory) (pages after : List PageImage) (page : PageImage) (last : Option ℕ) (n : ℕ) → each page_entry pages ++ above last (map.entries m) ≡ map.entries m → find (is_above last) (map.keys m) ≡ Some n
    → page.number ≡ n → map.get m n ≡ Some page.frame → after ≡ pages ++ page ∷ [] → each page_entry after ++ above (Some n) (map.entries m) ≡ map.entries m
pages_more m pages after page last n so_far is number frame pushed =
    let entry : page_entry page ≡ (n, page.frame) = ap (λ k. (k, page.frame)) number in
    ap (λ xs. each page_entry xs ++ above (Some n) (map.entries m)) pushed
    ∙ ap (λ es. es ++ above (Some n) (map.entries m)) (map-append page_entry pages (page ∷ []))
    ∙ ap (λ e. (each page_entry pages ++ e ∷ []) ++ above (Some n) (map.entries m)) entry
    ∙ one_more_entry m (each page_entry pages) last n page.frame so_far is frame

pub copies_more : (m : Memory) (pages after : List PageImage) (page : PageImage) (last : Option ℕ) (n : ℕ) → CopiesPages m pages last → find (is_above last) (map.keys m) ≡ Some n → n < 2 ^ 20
    → page.number ≡ n → map.get m n ≡ Some page.frame → after ≡ pages ++ page ∷ [] → CopiesPages m after (Some n)
copies_more m pages after page last n copies is low number frame pushed = record {
  entries = pages_more m pages after page last n copies.entries is number frame pushed;
  numbers = subst (λ xs. All (λ page. page.number < 2 ^ 20) xs) (sym pushed)
      (All-append (λ page. page.number < 2 ^ 20) pages (page ∷ []) copies.numbers (All-cons (λ page. page.number < 2 ^ 20) page [] (omega arith) (All-nil _)));
}

pub pages_few : (m : Memory) (pages : List PageImage) (count : ℕ) → count ≡ map.len m → count ≤ 2048 → each page_entry pages ≡ map.entries m → length pages ≤ 2048
pages_few m pages count counted few is = let size = map.len-entries m in let same = ap length is in let mapped = length-map pages page_entry in omega arith
