-- Runs of pages, one page after the other.
--     with_none, with_more           zeroed pages
--     without_none, without_more     pages taken away
--     get_inside, get_outside, place      a look-up there, and where a page may be
--     free_none, free_more, free_held      the test of a run
--     place_none, place_more, place_found      the first place that passes it
--     find_place, find_nowhere      the first of some numbers that passes a test, or none
use Rattle.std.proofs.Common.{◌≡◌, ◌≢◌, ℕ, zero, suc, ◌+◌, ◌-◌, ◌*◌, ◌≤◌, ◌<◌, Bool, true, false, cond, ◌&&◌, List, [], ◌∷◌, take, drop, refl, sym, ap, ◌∙◌, arith, ⊎_elim, inl, inr, add-suc, add-one}
use Rattle.std.specs.Prelude.{Some, None, ◌⊎◌, is_some, find, not, nat_le, nat_lt, replicate}
use Rattle.std.specs.List.{range_with_len}
use Rattle.std.specs.Cmp.{nat_cmp_total}
use Rattle.std.specs.FinMap as map
use Rattle.std.proofs.lemmas.Bool.{cases_eq, cases_lt}
use borrow.Author.Tests.{le-leb, lt-leb, lt-ltb, le-ltb}
use Rattle.elf32.proofs.OfViews.MapLaws.{get_remove_same, get_remove_other, get-retain}
use Rattle.plain_process.specs.Memory.{Memory}
use Rattle.plain_process.specs.Start.{with_pages, page_of}
use Rattle.plain_process.specs.Pages.{is_among, is_free, without_pages, free_run}

-- ---- zeroed pages

drop-nothing : (n : ℕ) → ◌≡◌ {A = List ℕ} (drop {A = ℕ} n []) []
drop-nothing zero = refl
drop-nothing (suc n) = refl

take-replicate : (n : ℕ) → take n (replicate {A = ℕ} n 0) ≡ replicate {A = ℕ} n 0
take-replicate zero = refl
take-replicate (suc n) = ap (λ xs. 0 ∷ xs) (take-replicate n)

zeroed_page : (n : ℕ) → page_of (drop (4096 * n) []) ≡ replicate 4096 0
zeroed_page n = ap page_of (drop-nothing (4096 * n)) ∙ take-replicate 4096

pub with_none : (m : Memory) (page rights : ℕ) → with_pages m page 0 rights [] ≡ m
unfolding with_pages
with_none m page rights = refl

pub with_more : (m : Memory) (page n rights : ℕ) → map.insert (with_pages m page n rights []) (page + n) (record { rights = rights; page = replicate 4096 0 }) ≡ with_pages m page (n + 1) rights []
unfolding with_pages
with_more m page n rights =
    (λ i. map.insert (with_pages m page n rights []) (page + n) (record { rights = rights; page = sym (zeroed_page n) i }))
    ∙ ap (λ k. with_pages m page k rights []) (sym (add-one n))

-- ---- pages taken away

inside : (page n q : ℕ) → page ≤ q → q < page + n → is_among page n q ≡ true
inside page n q from below = λ i. le-leb page q from i && lt-ltb q (page + n) below i

pub and_false : (b : Bool) → b && false ≡ false
and_false true = refl
and_false false = refl

outside : (page n q : ℕ) → (q < page) ⊎ (page + n ≤ q) → is_among page n q ≡ false
outside page n q (inl below) = ap (λ b. b && nat_lt q (page + n)) (lt-leb page q below)
outside page n q (inr above) = ap (λ b. nat_le page q && b) (le-ltb q (page + n) above) ∙ and_false (nat_le page q)

pub get_inside : (m : Memory) (page n q : ℕ) → page ≤ q → q < page + n → map.get (without_pages m page n) q ≡ None
unfolding without_pages
get_inside m page n q from below =
    get-retain nat_cmp_total map.nat_cmp-IsAntisymmetric m (λ number. not (is_among page n number)) q
    ∙ ap (λ b. cond (not b) (map.get m q) None) (inside page n q from below)

pub get_outside : (m : Memory) (page n q : ℕ) → (q < page) ⊎ (page + n ≤ q) → map.get (without_pages m page n) q ≡ map.get m q
unfolding without_pages
get_outside m page n q away =
    get-retain nat_cmp_total map.nat_cmp-IsAntisymmetric m (λ number. not (is_among page n number)) q
    ∙ ap (λ b. cond (not b) (map.get m q) None) (outside page n q away)

-- a page is one of a run, or not
pub place : (page n q : ℕ) → ((page ≤ q) × (q < page + n)) ⊎ ((q < page) ⊎ (page + n ≤ q))
place page n q =
    ⊎_elim (λ (below : q < page). inr (inl below))
    (λ (from : page ≤ q). ⊎_elim (λ (within : q < page + n). inl (from, within)) (λ (above : page + n ≤ q). inr (inr above)) (cases_lt q (page + n)))
    (cases_lt q page)

pub without_none : (m : Memory) (page : ℕ) → without_pages m page 0 ≡ m
without_none m page = map.same_map nat_cmp_total map.nat_cmp-IsAntisymmetric _ _ (λ q. get_outside m page 0 q (away q))
  where
    away : (q : ℕ) → (q < page) ⊎ (page + 0 ≤ q)
    away q = ⊎_elim (λ (below : q < page). inl below) (λ (from : page ≤ q). inr (omega arith)) (cases_lt q page)

pub without_more : (m : Memory) (page n : ℕ) → map.remove (without_pages m page n) (page + n) ≡ without_pages m page (n + 1)
without_more m page n = map.same_map nat_cmp_total map.nat_cmp-IsAntisymmetric _ _ same
  where
    removed : (q : ℕ) → q ≢ page + n → map.get (map.remove (without_pages m page n) (page + n)) q ≡ map.get (without_pages m page n) q
    removed q differ = get_remove_other nat_cmp_total map.nat_cmp-IsAntisymmetric (without_pages m page n) (page + n) q differ

    beside : (q : ℕ) → (q ≡ page + n → ⊥) → ((page ≤ q) × (q < page + n)) ⊎ ((q < page) ⊎ (page + n ≤ q)) → map.get (map.remove (without_pages m page n) (page + n)) q ≡ map.get (without_pages m page (n + 1)) q
    beside q differ (inl among) = removed q differ ∙ get_inside m page n q among.0 among.1 ∙ sym (get_inside m page (n + 1) q among.0 (omega arith))
    beside q differ (inr (inl below)) = removed q differ ∙ get_outside m page n q (inl below) ∙ sym (get_outside m page (n + 1) q (inl below))
    beside q differ (inr (inr above)) = removed q differ ∙ get_outside m page n q (inr above) ∙ sym (get_outside m page (n + 1) q (inr (omega arith)))

    same : (q : ℕ) → map.get (map.remove (without_pages m page n) (page + n)) q ≡ map.get (without_pages m page (n + 1)) q
    same q =
        ⊎_elim
        (λ (last : q ≡ page + n).
        ap (map.get (map.remove (without_pages m page n) (page + n))) last ∙ get_remove_same nat_cmp_total map.nat_cmp-IsAntisymmetric (without_pages m page n) (page + n)
        ∙ sym (get_inside m page (n + 1) q (omega arith) (omega arith)))
        (λ (differ : q ≡ page + n → ⊥). beside q differ (place page n q))
        (cases_eq q (page + n))

-- ---- free runs

pub free_none : (m : Memory) (page : ℕ) → is_free m page 0 ≡ true
unfolding is_free
free_none m page = refl

after_one : (m : Memory) (page n : ℕ) → is_free m page (n + 1) ≡ (is_free m page n && not (is_some (map.get m (page + n))))
unfolding is_free
after_one m page n = ap (is_free m page) (add-one n)

pub free_more : (m : Memory) (page n : ℕ) → is_free m page n ≡ true → is_some (map.get m (page + n)) ≡ false → is_free m page (n + 1) ≡ true
free_more m page n before free = after_one m page n ∙ (λ i. before i && not (free i))

held_past : (m : Memory) (page n k : ℕ) → is_free m page n ≡ false → is_free m page (n + k) ≡ false
unfolding is_free
held_past m page n zero held = ap (is_free m page) (let same : n + 0 ≡ n = omega arith in same) ∙ held
held_past m page n (suc k) held =
    ap (is_free m page) (add-suc n k) ∙ ap (λ b. b && not (is_some (map.get m (page + (n + k))))) (held_past m page n k held)

pub free_held : (m : Memory) (page n count : ℕ) → n < count → is_some (map.get m (page + n)) ≡ true → is_free m page count ≡ false
free_held m page n count below held =
    let whole : count ≡ n + 1 + (count - (n + 1)) = omega arith in
    ap (is_free m page) whole
    ∙ held_past m page (n + 1) (count - (n + 1)) (after_one m page n ∙ ap (λ b. is_free m page n && not b) held ∙ and_false (is_free m page n))

-- ---- the first place

-- the places before this one hold no free run
abbrev pub NoneBefore : Memory → ℕ → ℕ → ℕ → Type 0
NoneBefore m count start n = (q : ℕ) → start ≤ q → q < start + n → is_free m q count ≡ false

pub place_none : (m : Memory) (count start : ℕ) → NoneBefore m count start 0
place_none m count start q from below = absurd (omega arith)

pub place_more : (m : Memory) (count start n : ℕ) → NoneBefore m count start n → is_free m (start + n) count ≡ false → NoneBefore m count start (n + 1)
place_more m count start n none held q from below =
    ⊎_elim (λ (last : q ≡ start + n). ap (λ (p : ℕ). is_free m p count) last ∙ held)
    (λ (other : q ≡ start + n → ⊥). none q from (omega arith))
    (cases_eq q (start + n))

pub find_place : (p : ℕ → Bool) (a n place : ℕ) → a ≤ place → place < a + n → ((q : ℕ) → a ≤ q → q < place → p q ≡ false) → p place ≡ true
    → find p (range_with_len a n) ≡ Some place
find_place p a zero place from below fails passes = absurd (omega arith)
find_place p a (suc n) place from below fails passes =
    ⊎_elim
    (λ (here : a ≡ place). ap (λ b. cond b (Some a) (find p (range_with_len (a + 1) n))) (ap p here ∙ passes) ∙ ap (λ k. Some k) here)
    (λ (other : a ≡ place → ⊥).
    ap (λ b. cond b (Some a) (find p (range_with_len (a + 1) n))) (fails a (omega arith) (omega arith))
    ∙ find_place p (a + 1) n place (omega arith) (omega arith) (λ q start before. fails q (omega arith) before) passes)
    (cases_eq a place)

pub find_nowhere : (p : ℕ → Bool) (a n : ℕ) → ((q : ℕ) → a ≤ q → q < a + n → p q ≡ false) → find p (range_with_len a n) ≡ None
find_nowhere p a zero fails = refl
find_nowhere p a (suc n) fails =
    ap (λ b. cond b (Some a) (find p (range_with_len (a + 1) n))) (fails a (omega arith) (omega arith))
    ∙ find_nowhere p (a + 1) n (λ q from below. fails q (omega arith) (omega arith))

pub place_found : (m : Memory) (count n places : ℕ) → places ≡ 196609 - count → n < places → NoneBefore m count 262144 n → is_free m (262144 + n) count ≡ true
    → free_run m count ≡ Some (262144 + n)
unfolding free_run
place_found m count n places many below none free =
    find_place (λ q. is_free m q count) 262144 (196609 - count) (262144 + n) (omega arith) (omega arith) none free

pub place_nowhere : (m : Memory) (count n places : ℕ) → places ≡ 196609 - count → places ≤ n → NoneBefore m count 262144 n → free_run m count ≡ None
unfolding free_run
place_nowhere m count n places many all none =
    find_nowhere (λ q. is_free m q count) 262144 (196609 - count) (λ q from below. none q from (omega arith))
