-- How many pages one more segment adds.
use Rattle.std.proofs.Common.{◌≡◌, ℕ, ◌+◌, ◌-◌, ◌*◌, ◌<◌, ◌≤◌, zero, suc, Bool, true, false, cond, ◌||◌, List, [], ◌∷◌, ◌++◌, refl, ◌∙◌, ap, sym, subst, arith, add-zero, add-suc, zero-add}
use Rattle.std.proofs.lemmas.List.Folds.{list_any-append}
use Rattle.std.proofs.lemmas.List.Sums.{sum_by-append}
use Rattle.std.proofs.Math.Bool.{or-false}
use Rattle.std.proofs.lemmas.Bool.Decides.{nat_tests}
use Rattle.std.specs.List.{list_any, count_by, range_with_len}
use Rattle.elf32.specs.declared.program.Segment.{Segment}
use Rattle.elf32.specs.declared.range.AddressRange.{AddressRange}
use Rattle.elf32.specs.Ranges.{meets}
use Rattle.elf32.specs.Pages.{range_of, page_range, touches, is_touched, untouched, pages_below}

-- the memory begins in the first of these pages, and ends in the last
pub record Spans (memory : AddressRange) (first last : ℕ) : Type 0 where
  pub first_above : 4096 * first ≤ memory.start
  pub first_below : memory.start < 4096 * first + 4096
  pub last_above : 4096 * last < memory.end
  pub last_below : memory.end ≤ 4096 * last + 4096
  pub some : memory.start < memory.end

range_with_len-push : (a n : ℕ) → range_with_len a (suc n) ≡ range_with_len a n ++ (a + n) ∷ []
range_with_len-push a zero = rw add-zero refl
range_with_len-push a (suc n) =
    let same : a + 1 + n ≡ a + suc n = omega arith in
    ap (λ (xs : List ℕ). a ∷ xs)
    (subst (λ (k : ℕ). range_with_len (a + 1) (suc n) ≡ range_with_len (a + 1) n ++ k ∷ []) same (range_with_len-push (a + 1) n))

count_by-range : (p : ℕ → Bool) (a n : ℕ) → count_by p (range_with_len a (suc n)) ≡ count_by p (range_with_len a n) + cond (p (a + n)) 1 0
count_by-range p a n =
    ap (λ (xs : List ℕ). count_by p xs) (range_with_len-push a n)
    ∙ sum_by-append (λ x. cond (p x) 1 0) (range_with_len a n) ((a + n) ∷ [])
    ∙ ap (λ (k : ℕ). count_by p (range_with_len a n) + k) (zero-add _)

pub pages_below-suc : (n : ℕ) (segments : List Segment) → pages_below (suc n) segments ≡ pages_below n segments + cond (is_touched segments n) 1 0
unfolding pages_below
pages_below-suc n segments =
    subst (λ k. count_by (is_touched segments) (range_with_len 0 (suc n)) ≡ count_by (is_touched segments) (range_with_len 0 n) + cond (is_touched segments k) 1 0)
    (zero-add n) (count_by-range (is_touched segments) 0 n)

pub pages_below-empty : (n : ℕ) → pages_below n [] ≡ 0
unfolding pages_below
pages_below-empty zero = refl
pages_below-empty (suc n) = omega (arith, pages_below-suc n [], pages_below-empty n)

is_touched-push : (segments : List Segment) (segment : Segment) (p : ℕ) → is_touched (segments ++ segment ∷ []) p ≡ (is_touched segments p || touches segment p)
is_touched-push segments segment p = list_any-append _ segments (segment ∷ []) ∙ ap (λ b. is_touched segments p || b) (or-false (touches segment p))

-- one page further: it counts anew where the segment alone touches it
step : (n : ℕ) (segments : List Segment) (segment : Segment) (k j : ℕ) →
    pages_below n (segments ++ segment ∷ []) ≡ pages_below n segments + k →
    cond (is_touched segments n || touches segment n) 1 0 ≡ cond (is_touched segments n) 1 0 + j →
    pages_below (suc n) (segments ++ segment ∷ []) ≡ pages_below (suc n) segments + (k + j)
step n segments segment k j below here =
    let before = pages_below-suc n segments in
    let after = pages_below-suc n (segments ++ segment ∷ []) in
    let both : cond (is_touched (segments ++ segment ∷ []) n) 1 0 ≡ cond (is_touched segments n || touches segment n) 1 0 = ap {B = ℕ} (λ b. cond b 1 0) (is_touched-push segments segment n) in
    omega (arith, before, after, both)

step_outside : (n : ℕ) (segments : List Segment) (segment : Segment) (k : ℕ) →
    pages_below n (segments ++ segment ∷ []) ≡ pages_below n segments + k → touches segment n ≡ false →
    pages_below (suc n) (segments ++ segment ∷ []) ≡ pages_below (suc n) segments + k
step_outside n segments segment k below out = rw (add-zero k) at (step n segments segment k 0 below (rw out (grind arith)))

step_inside : (n : ℕ) (segments : List Segment) (segment : Segment) (k : ℕ) →
    pages_below n (segments ++ segment ∷ []) ≡ pages_below n segments + k → touches segment n ≡ true →
    pages_below (suc n) (segments ++ segment ∷ []) ≡ pages_below (suc n) segments + (k + untouched segments n)
step_inside n segments segment k below within = step n segments segment k (untouched segments n) below (rw within (grind arith))

touches-inside : (memory : AddressRange) (first last p : ℕ) → Spans memory first last → first ≤ p → p ≤ last → meets memory (page_range p) ≡ true
touches-inside memory first last p spans above below =
    let starts : memory.start < 4096 * p + 4096 = omega (arith, spans.first_below) in
    let ends : 4096 * p < memory.end = omega (arith, spans.last_above) in
    grind (arith, nat_tests)

touches-before : (memory : AddressRange) (first last p : ℕ) → Spans memory first last → p < first → meets memory (page_range p) ≡ false
touches-before memory first last p spans below =
    let starts : 4096 * p + 4096 ≤ memory.start = omega (arith, spans.first_above) in
    grind (arith, nat_tests)

touches-after : (memory : AddressRange) (first last p : ℕ) → Spans memory first last → last < p → meets memory (page_range p) ≡ false
touches-after memory first last p spans above =
    let ends : memory.end ≤ 4096 * p = omega (arith, spans.last_below) in
    grind (arith, nat_tests)

or-false_left : (a b : Bool) → (a || b) ≡ false → a ≡ false
or-false_left true b h = h
or-false_left false b h = refl

or-false_right : (a b : Bool) → (a || b) ≡ false → b ≡ false
or-false_right true b h = cc
or-false_right false b h = h

-- a page between the first and the last is full of the memory
meets-between : (memory other : AddressRange) (first last p : ℕ) → Spans memory first last → first < p → p < last →
    meets other memory ≡ false → meets other (page_range p) ≡ false
meets-between memory other first last p spans above below apart =
    let starts : memory.start ≤ 4096 * p = omega (arith, spans.first_below) in
    let ends : 4096 * p + 4096 ≤ memory.end = omega (arith, spans.last_above) in
    grind (arith, nat_tests)

is_touched-between : (memory : AddressRange) (segments : List Segment) (first last p : ℕ) → Spans memory first last → first < p → p < last →
    list_any (λ s. meets (range_of s) memory) segments ≡ false → is_touched segments p ≡ false
is_touched-between memory [] first last p spans above below apart = refl
is_touched-between memory (s ∷ segments) first last p spans above below apart =
    let here = meets-between memory (range_of s) first last p spans above below (or-false_left _ _ apart) in
    let more = is_touched-between memory segments first last p spans above below (or-false_right _ _ apart) in
    rw (here, more) refl

-- of the pages below n, the one more segment adds k
abbrev Adds : List Segment → Segment → ℕ → ℕ → Type 0
Adds segments segment n k = pages_below n (segments ++ segment ∷ []) ≡ pages_below n segments + k

adds-before : (segments : List Segment) (segment : Segment) (first last n : ℕ) → Spans (range_of segment) first last → n ≤ first → Adds segments segment n 0
unfolding pages_below
adds-before segments segment first last zero spans below = refl
adds-before segments segment first last (suc n) spans below =
    step_outside n segments segment 0 (adds-before segments segment first last n spans (omega arith)) (touches-before (range_of segment) first last n spans (omega arith))

adds-first : (segments : List Segment) (segment : Segment) (first last : ℕ) → Spans (range_of segment) first last → first ≤ last →
    Adds segments segment (suc first) (untouched segments first)
adds-first segments segment first last spans order =
    rw (zero-add (untouched segments first)) at
    (step_inside first segments segment 0 (adds-before segments segment first last first spans (omega arith)) (touches-inside (range_of segment) first last first spans (omega arith) order))

adds-between : (segments : List Segment) (segment : Segment) (first last k j : ℕ) → Spans (range_of segment) first last → suc first + j ≤ last →
    list_any (λ s. meets (range_of s) (range_of segment)) segments ≡ false → Adds segments segment (suc first) k → Adds segments segment (suc first + j) (k + j)
adds-between segments segment first last k zero spans order apart start = rw (add-zero (suc first), add-zero k) start
adds-between segments segment first last k (suc j) spans order apart start =
    let p = suc first + j in
    let before = adds-between segments segment first last k j spans (omega arith) apart start in
    let alone = is_touched-between (range_of segment) segments first last p spans (omega arith) (omega arith) apart in
    let within = touches-inside (range_of segment) first last p spans (omega arith) (omega arith) in
    let once : untouched segments p ≡ 1 = rw alone refl in
    let here = step_inside p segments segment (k + j) before within in
    rw (add-suc (suc first) j, add-suc k j) (here ∙ ap (λ n. pages_below (suc p) segments + n) (omega (arith, once)))

adds-after : (segments : List Segment) (segment : Segment) (first last k j : ℕ) → Spans (range_of segment) first last →
    Adds segments segment (suc last) k → Adds segments segment (suc last + j) k
adds-after segments segment first last k zero spans start = rw (add-zero (suc last)) start
adds-after segments segment first last k (suc j) spans start =
    rw (add-suc (suc last) j)
    (step_outside (suc last + j) segments segment k (adds-after segments segment first last k j spans start)
    (touches-after (range_of segment) first last (suc last + j) spans (omega arith)))

adds-all : (segments : List Segment) (segment : Segment) (first last k n : ℕ) → Spans (range_of segment) first last → last < n →
    Adds segments segment (suc last) k → Adds segments segment n k
adds-all segments segment first last k n spans below start =
    let same : suc last + (n - suc last) ≡ n = omega arith in
    subst (λ (m : ℕ). Adds segments segment m k) same (adds-after segments segment first last k (n - suc last) spans start)

-- a segment in one page
adds-one : (segments : List Segment) (segment : Segment) (page n : ℕ) → Spans (range_of segment) page page → page < n →
    pages_below n (segments ++ segment ∷ []) ≡ pages_below n segments + untouched segments page
adds-one segments segment page n spans below =
    adds-all segments segment page page _ n spans below (adds-first segments segment page page spans (omega arith))

-- a segment in several pages
adds-several : (segments : List Segment) (segment : Segment) (first last n : ℕ) → Spans (range_of segment) first last → first < last → last < n →
    list_any (λ s. meets (range_of s) (range_of segment)) segments ≡ false →
    pages_below n (segments ++ segment ∷ []) ≡ pages_below n segments + (untouched segments first + (last - first - 1) + untouched segments last)
adds-several segments segment first last n spans order below apart =
    let k = untouched segments first + (last - first - 1) in
    let same : suc first + (last - first - 1) ≡ last = omega arith in
    let between : Adds segments segment last k =
    subst (λ (m : ℕ). Adds segments segment m k) same
    (adds-between segments segment first last (untouched segments first) (last - first - 1) spans (omega arith) apart
    (adds-first segments segment first last spans (omega arith))) in
    adds-all segments segment first last _ n spans below
    (step_inside last segments segment k between (touches-inside (range_of segment) first last last spans (omega arith) (omega arith)))

pub page_count-one : (segments : List Segment) (segment : Segment) (memory : AddressRange) (page n r : ℕ) → range_of segment ≡ memory →
    Spans memory page page → page < n → r ≡ untouched segments page →
    pages_below n (segments ++ segment ∷ []) ≡ pages_below n segments + r
page_count-one segments segment memory page n r same spans below is =
    let here : Spans (range_of segment) page page = subst (λ (m : AddressRange). Spans m page page) (sym same) spans in
    rw is (adds-one segments segment page n here below)

pub page_count-several : (segments : List Segment) (segment : Segment) (memory : AddressRange) (first last n r q : ℕ) → range_of segment ≡ memory →
    Spans memory first last → first < last → last < n → list_any (λ s. meets (range_of s) memory) segments ≡ false →
    r ≡ untouched segments first → q ≡ untouched segments last →
    pages_below n (segments ++ segment ∷ []) ≡ pages_below n segments + (r + (last - first - 1) + q)
page_count-several segments segment memory first last n r q same spans order below apart is is' =
    let here : Spans (range_of segment) first last = subst (λ (m : AddressRange). Spans m first last) (sym same) spans in
    let alone : list_any (λ s. meets (range_of s) (range_of segment)) segments ≡ false =
    subst (λ (m : AddressRange). list_any (λ s. meets (range_of s) m) segments ≡ false) (sym same) apart in
    rw (is, is') (adds-several segments segment first last n here order below alone)
