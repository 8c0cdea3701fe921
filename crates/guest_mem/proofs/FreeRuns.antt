-- The lowest run of free pages.
--     free_true, true_free, free_false      what the test of a run says
use Rattle.std.proofs.Common.{◌≡◌, ℕ, zero, suc, ◌+◌, ◌-◌, ◌≤◌, ◌<◌, Bool, true, false, ◌&&◌, refl, sym, ap, ◌∙◌, arith, ⊎_elim}
use Rattle.std.specs.Prelude.{Some, None, is_some, not}
use Rattle.std.specs.FinMap as map
use Rattle.std.proofs.lemmas.Bool.{cases_eq, cases_lt}
use Rattle.plain_process.specs.Memory.{Memory}
use Rattle.plain_process.specs.Pages.{IsFree, is_free, free_run}
use Rattle.guest_mem.specs.Runs.{IsTaken}
use Rattle.plain_process.proofs.PageByPage.{and_false, find_place, find_nowhere}

both : (a b : Bool) → a ≡ true → b ≡ true → a && b ≡ true
both a b first second = λ i. first i && second i

pub free_true : (m : Memory) (page n : ℕ) → IsFree m page n → is_free m page n ≡ true
unfolding is_free
free_true m page zero free = refl
free_true m page (suc n) free =
    both (is_free m page n) (not (is_some (map.get m (page + n)))) (free_true m page n (λ q from below. free q from (omega arith)))
    (ap (λ found. not (is_some found)) (free (page + n) (omega arith) (omega arith)))

pub free_false : (m : Memory) (page n taken : ℕ) → IsTaken m page n taken → is_free m page n ≡ false
unfolding is_free
free_false m page zero taken is = absurd (omega (arith, is.from, is.below))
free_false m page (suc n) taken is =
    ⊎_elim
    (λ (last : taken ≡ page + n).
    ap (λ b. is_free m page n && not b) (ap (λ (q : ℕ). is_some (map.get m q)) (sym last) ∙ is.held) ∙ and_false (is_free m page n))
    (λ (other : taken ≡ page + n → ⊥).
    ap (λ b. b && not (is_some (map.get m (page + n)))) (free_false m page n taken (record { from = is.from; below = omega (arith, is.below, other); held = is.held })))
    (cases_eq taken (page + n))

-- the walk of a space: runs from so many pages on are not free
pub record IsWalk (memory : Memory) (count start page : ℕ) : Type 0 where
  pub taken : (q : ℕ) → start ≤ q → q < page → is_free memory q count ≡ false
  pub from : start ≤ page

pub walk_start : (m : Memory) (count start : ℕ) → IsWalk m count start start
walk_start m count start = record { taken = λ q from below. absurd (omega arith); from = omega arith }

pub walk_more : (m : Memory) (count start page taken : ℕ) → IsWalk m count start page → IsTaken m page count taken → IsWalk m count start (taken + 1)
walk_more m count start page taken walk is = record {
  taken = λ q from below. ⊎_elim
      (λ (before : q < page). walk.taken q from before)
      (λ (at : page ≤ q). free_false m q count taken (record { from = omega (arith, is.from); below = omega (arith, is.below); held = is.held }))
      (cases_lt q page);
  from = omega (arith, is.from, walk.from);
}

pub walk_found : (m : Memory) (count page : ℕ) → IsWalk m count 262144 page → page + count ≤ 458752 → IsFree m page count → Some page ≡ free_run m count
unfolding free_run
walk_found m count page walk within free =
    sym (find_place (λ q. is_free m q count) 262144 (196609 - count) page walk.from (omega (arith, walk.from)) walk.taken (free_true m page count free))

pub walk_over : (m : Memory) (count page : ℕ) → IsWalk m count 262144 page → 458752 < page + count → None ≡ free_run m count
unfolding free_run
walk_over m count page walk over =
    sym (find_nowhere (λ q. is_free m q count) 262144 (196609 - count) (λ q from below. walk.taken q from (omega arith)))
