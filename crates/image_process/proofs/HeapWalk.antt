-- A walk over pages in rising order that counts up finds whether all pages of a range are there
use Rattle.std.proofs.Common.{◌≡◌, ℕ, zero, suc, ◌+◌, ◌-◌, ◌<◌, ◌≤◌, ◌==◌, ◌&&◌, ◌⊎◌, inl, inr, nat_lt, Bool, true, false, List, [], ◌∷◌, ◌++◌, length, drop, get_or, Option, Some, None, refl, sym, ap, subst, ◌∙◌, ◌/◌, arith, length-append, add-zero}
use Rattle.std.specs.Prelude.{slice_get, if◌then◌else◌}
use Rattle.std.proofs.lemmas.List.{at_drop_more, at_drop_all}
use Rattle.std.proofs.lemmas.Bool.{cases_lt, cases_eq}
use Rattle.std.proofs.lemmas.Bool.Decides.{nat_tests}
use Rattle.image_process.specs.declared.page_image.PageImage.{PageImage}
use Rattle.image_process.specs.ProcessTests.{is_above_page, is_page_number, has_page, has_pages, has_heap, heap_pages}
use Rattle.image_process.specs.ProcessFits.{IsPage}
use Rattle.image_format.specs.Texts.{EachFrom}

-- the number that is looked for, after these pages
abbrev pub step : ℕ → ℕ → PageImage → ℕ
step limit next p = if nat_lt next limit && (p.number == next) then next + 1 else next

unfoldable pub walk : ℕ → ℕ → List PageImage → ℕ
walk limit next [] = next
walk limit next (p ∷ pages) = walk limit (step limit next p) pages

-- pages in rising order, from this number on
unfoldable pub Rising : ℕ → List PageImage → Type 0
Rising low [] = Unit {0}
Rising low (p ∷ pages) = (low ≤ p.number) × Rising (p.number + 1) pages

abbrev after : Option PageImage → ℕ
after None = 0
after (Some p) = p.number + 1

slice_get_at : (front : List PageImage) (p : PageImage) → slice_get (front ++ p ∷ []) (length front) ≡ Some p
slice_get_at [] p = refl
slice_get_at (q ∷ front) p = slice_get_at front p

slice_get_last : (front : List PageImage) (p : PageImage) → slice_get (front ++ p ∷ []) (length (front ++ p ∷ []) - 1) ≡ Some p
slice_get_last front p =
    let size : length (front ++ p ∷ []) - 1 ≡ length front = omega (arith, length-append front (p ∷ [])) in
    rw size (slice_get_at front p)

above_after : (last : Option PageImage) (n : ℕ) → is_above_page last n ≡ true → after last ≤ n
above_after None n h = omega arith
above_after (Some p) n h = grind (arith, nat_tests)

and_first : (a b c : Bool) → (a && b && c) ≡ true → a ≡ true
and_first true b c h = refl
and_first false b c h = h

pub rising : (start end : ℕ) (front pages : List PageImage) → EachFrom (IsPage start end) front pages → Rising (after (slice_get front (length front - 1))) pages
unfolding EachFrom Rising is_page_number
rising start end front [] h = tt
rising start end front (p ∷ pages) h =
    let more = rising start end (front ++ p ∷ []) pages h.1 in
    (above_after _ _ (and_first _ _ _ h.0.number), subst (λ (last : Option PageImage). Rising (after last) pages) (slice_get_last front p) more)

missing : (pages : List PageImage) (low n : ℕ) → Rising low pages → n < low → has_page pages n ≡ false
unfolding Rising
missing [] low n r h = refl
missing (p ∷ pages) low n r h =
    let rest = missing pages (p.number + 1) n r.1 (omega (arith, r.0)) in
    let other : (p.number == n) ≡ false = grind (arith, nat_tests, r.0) in
    rw (other, rest) refl

no_first : (pages : List PageImage) (first m : ℕ) → has_page pages first ≡ false → has_pages pages first (suc m) ≡ false
unfolding has_pages
no_first pages first zero h = ap (has_page pages) (add-zero first) ∙ h
no_first pages first (suc m) h = rw (no_first pages first m h) refl

-- a page in front that is none of the range
passed : (p : PageImage) (pages : List PageImage) (first m : ℕ) → p.number < first → has_pages (p ∷ pages) first m ≡ has_pages pages first m
unfolding has_pages
passed p pages first zero h = refl
passed p pages first (suc m) h =
    let other : (p.number == first + m) ≡ false = grind (arith, nat_tests) in
    rw (passed p pages first m h, other) refl

-- a page in front that is the range's first
taken : (p : PageImage) (pages : List PageImage) (m : ℕ) → has_pages (p ∷ pages) p.number (suc m) ≡ has_pages pages (p.number + 1) m
unfolding has_pages
taken p pages zero =
    let same : (p.number == p.number + 0) ≡ true = grind (arith, nat_tests) in
    rw same refl
taken p pages (suc m) =
    let other : (p.number == p.number + suc m) ≡ false = grind (arith, nat_tests) in
    let same : p.number + suc m ≡ p.number + 1 + m = omega arith in
    rw (taken p pages m, other) (ap (λ (n : ℕ). has_pages pages (p.number + 1) m && has_page pages n) same)

none_there : (first n : ℕ) → 0 < n → has_pages [] first n ≡ false
none_there first zero h = absurd (omega arith)
none_there first (suc m) h = no_first [] first m refl

all_there : (pages : List PageImage) (first : ℕ) → has_pages pages first 0 ≡ true
unfolding has_pages
all_there pages first = refl

stays : (limit next : ℕ) (p : PageImage) → (nat_lt next limit ≡ false) ⊎ ((p.number == next) ≡ false) → step limit next p ≡ next
stays limit next p (inl h) = rw h refl
stays limit next p (inr h) = other (nat_lt next limit) (p.number == next) h
  where
    other : (a b : Bool) → b ≡ false → (if a && b then next + 1 else next) ≡ next
    other true b e = rw e refl
    other false b e = refl

counts_up : (limit next : ℕ) (p : PageImage) → nat_lt next limit ≡ true → (p.number == next) ≡ true → step limit next p ≡ next + 1
counts_up limit next p h e = rw (h, e) refl

pub walk_finds : (limit : ℕ) (pages : List PageImage) (low next : ℕ) → Rising low pages → next ≤ limit → (walk limit next pages == limit) ≡ has_pages pages next (limit - next)
unfolding walk Rising
walk_finds limit [] low next r h =
    elim (cases_lt next limit) [
      | inl less ↦
          let other : (next == limit) ≡ false = grind (arith, nat_tests) in
          other ∙ sym (none_there next (limit - next) (omega arith))
      | inr end ↦
          let same : (next == limit) ≡ true = grind (arith, nat_tests) in
          let none : limit - next ≡ 0 = omega arith in
          same ∙ sym (ap (has_pages [] next) none ∙ all_there [] next)
    ]
walk_finds limit (p ∷ pages) low next r h =
    elim (cases_lt next limit) [
      | inr end ↦
          let none : limit - next ≡ 0 = omega arith in
          let stay : step limit next p ≡ next = stays limit next p (inl (grind (arith, nat_tests))) in
          ap (λ (n : ℕ). walk limit n pages == limit) stay ∙ walk_finds limit pages (p.number + 1) next r.1 h
          ∙ ap (has_pages pages next) none ∙ all_there pages next ∙ sym (ap (has_pages (p ∷ pages) next) none ∙ all_there (p ∷ pages) next)
      | inl less ↦
          elim (cases_eq p.number next) [
            | inl same ↦
                let up : step limit next p ≡ next + 1 = counts_up limit next p (grind (arith, nat_tests)) (grind (arith, nat_tests)) in
                let one_more : limit - next ≡ suc (limit - (next + 1)) = omega arith in
                let front : has_pages (p ∷ pages) next (suc (limit - (next + 1))) ≡ has_pages pages (next + 1) (limit - (next + 1)) =
                subst (λ (n : ℕ). has_pages (p ∷ pages) n (suc (limit - (next + 1))) ≡ has_pages pages (n + 1) (limit - (next + 1))) same (taken p pages (limit - (next + 1))) in
                ap (λ (n : ℕ). walk limit n pages == limit) up ∙ walk_finds limit pages (p.number + 1) (next + 1) r.1 (omega arith)
                ∙ sym front ∙ sym (ap (has_pages (p ∷ pages) next) one_more)
            | inr differs ↦
                let stay : step limit next p ≡ next = stays limit next p (inr (grind (arith, nat_tests))) in
                ap (λ (n : ℕ). walk limit n pages == limit) stay ∙ walk_finds limit pages (p.number + 1) next r.1 h
                ∙ elim (cases_lt p.number next) as (λ _. has_pages pages next (limit - next) ≡ has_pages (p ∷ pages) next (limit - next)) [
                  | inl below ↦ sym (passed p pages next (limit - next) below)
                  | inr above ↦
                      let one_more : limit - next ≡ suc (limit - (next + 1)) = omega arith in
                      let apart : next < p.number + 1 = omega arith in
                      let lacks : has_page pages next ≡ false = missing pages (p.number + 1) next r.1 apart in
                      let other : (p.number == next) ≡ false = grind (arith, nat_tests) in
                      let lacks_both : has_page (p ∷ pages) next ≡ false = rw (other, lacks) refl in
                      ap (has_pages pages next) one_more ∙ no_first pages next (limit - (next + 1)) lacks
                      ∙ sym (ap (has_pages (p ∷ pages) next) one_more ∙ no_first (p ∷ pages) next (limit - (next + 1)) lacks_both)
                ]
          ]
    ]

pub walk_more : (limit next : ℕ) (pages : List PageImage) (i : ℕ) (d : PageImage) → i < length pages → walk limit (step limit next (get_or pages i d)) (drop (i + 1) pages) ≡ walk limit next (drop i pages)
unfolding walk
walk_more limit next pages i d h = sym (at_drop_more (walk limit next) pages i d h)

pub walk_all : (limit next : ℕ) (pages : List PageImage) (i : ℕ) → length pages ≤ i → walk limit next (drop i pages) ≡ next
unfolding walk
walk_all limit next pages i h = at_drop_all (walk limit next) pages i h

-- the heap of pages that were read
pub heap_found : (start end limit next : ℕ) (pages : List PageImage) → EachFrom (IsPage start end) [] pages → limit ≡ start / 4096 + heap_pages start end → next ≡ walk limit (start / 4096) pages → (next == limit) ≡ has_heap start end pages
heap_found start end limit next pages h is_limit is_next =
    let found = walk_finds limit pages 0 (start / 4096) (rising start end [] pages h) (omega arith) in
    let count : limit - start / 4096 ≡ heap_pages start end = omega arith in
    ap (λ (n : ℕ). n == limit) is_next ∙ found ∙ ap (has_pages pages (start / 4096)) count
