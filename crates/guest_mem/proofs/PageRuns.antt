-- Runs of pages.
--     get-with_pages_other, len-with_pages        zeroed pages at numbers where there were none
--     insert_one_more                             a page put adds one at most
--     without-with                                pages taken away that were just put there
--     without_skip, without_next                  more taken away, where none of these is there, or only the last one is
use Rattle.std.proofs.Common.{◌≡◌, ◌≢◌, ℕ, zero, suc, ◌+◌, ◌-◌, ◌≤◌, ◌<◌, true, false, cond, List, refl, sym, ap, ◌∙◌, arith, ⊎_elim, inl, inr, add-zero}
use Rattle.std.specs.Prelude.{None, ◌⊎◌, is_some}
use Rattle.std.specs.Cmp.{nat_cmp_total}
use Rattle.std.specs.FinMap as map
use Rattle.std.proofs.lemmas.Bool.{cases_lt}
use Rattle.views.proofs.MapLaws.{get_insert_other}
use Rattle.plain_process.specs.declared.memory.Frame.{Frame}
use Rattle.plain_process.specs.Memory.{Memory}
use Rattle.plain_process.specs.Start.{with_pages}
use Rattle.guest_mem.specs.Runs.{IsFree, without_pages}
use Rattle.plain_process.proofs.PageByPage.{get_inside, get_outside, place, without_more}

pub get-with_pages_other : (m : Memory) (page n rights : ℕ) (content : List ℕ) (q : ℕ) → (q < page) ⊎ (page + n ≤ q) → map.get (with_pages m page n rights content) q ≡ map.get m q
unfolding with_pages
get-with_pages_other m page zero rights content q outside = refl
get-with_pages_other m page (suc n) rights content q outside =
    get_insert_other nat_cmp_total map.nat_cmp-IsAntisymmetric (with_pages m page n rights content) (page + n) _ q (differs outside)
    ∙ get-with_pages_other m page n rights content q (outer outside)
  where
    differs : (q < page) ⊎ (page + suc n ≤ q) → q ≢ page + n
    differs (inl below) is = omega arith
    differs (inr above) is = omega arith

    outer : (q < page) ⊎ (page + suc n ≤ q) → (q < page) ⊎ (page + n ≤ q)
    outer (inl below) = inl below
    outer (inr above) = inr (omega arith)

pub len-with_pages : (m : Memory) (page n rights : ℕ) (content : List ℕ) → IsFree m page n → map.len (with_pages m page n rights content) ≡ map.len m + n
unfolding with_pages
len-with_pages m page zero rights content free = sym (add-zero (map.len m))
len-with_pages m page (suc n) rights content free =
    map.len-insert nat_cmp_total (with_pages m page n rights content) (page + n) _
    ∙ ap (λ found. cond (is_some found) (map.len (with_pages m page n rights content)) (map.len (with_pages m page n rights content) + 1))
    (get-with_pages_other m page n rights content (page + n) (inr (omega arith)) ∙ free (page + n) (omega arith) (omega arith))
    ∙ ap (λ k. k + 1) (len-with_pages m page n rights content (λ number from below. free number from (omega arith)))
    ∙ omega arith

-- one page more at most
pub insert_one_more : (m : Memory) (page : ℕ) (frame : Frame) (limit : ℕ) → map.len m ≤ limit → map.len (map.insert m page frame) ≤ limit + 1
insert_one_more m page frame limit within =
    rw (map.len-insert nat_cmp_total m page frame)
    (elim (is_some (map.get m page)) as (λ found. cond found (map.len m) (map.len m + 1) ≤ limit + 1) [ true ↦ omega arith | false ↦ omega arith ])

pub without_skip : (m : Memory) (page n k : ℕ) → n ≤ k → ((q : ℕ) → page + n ≤ q → q < page + k → map.get (without_pages m page n) q ≡ None)
    → without_pages m page n ≡ without_pages m page k
without_skip m page n k more none = map.same_map nat_cmp_total map.nat_cmp-IsAntisymmetric _ _ (λ q. same q (place page k q))
  where
    before : (q : ℕ) → page ≤ q → q < page + k → map.get (without_pages m page n) q ≡ None
    before q from below =
        ⊎_elim (λ (taken : q < page + n). get_inside m page n q from taken) (λ (left : page + n ≤ q). none q left below) (cases_lt q (page + n))

    same : (q : ℕ) → ((page ≤ q) × (q < page + k)) ⊎ ((q < page) ⊎ (page + k ≤ q)) → map.get (without_pages m page n) q ≡ map.get (without_pages m page k) q
    same q (inl among) = before q among.0 among.1 ∙ sym (get_inside m page k q among.0 among.1)
    same q (inr (inl below)) = get_outside m page n q (inl below) ∙ sym (get_outside m page k q (inl below))
    same q (inr (inr above)) = get_outside m page n q (inr (omega arith)) ∙ sym (get_outside m page k q (inr above))

pub without_next : (m : Memory) (page n next k : ℕ) → page + n ≤ next → page + k ≡ next + 1
    → ((q : ℕ) → page + n ≤ q → q < next → map.get (without_pages m page n) q ≡ None) → map.remove (without_pages m page n) next ≡ without_pages m page k
without_next m page n next k from last none =
    let at : next ≡ page + (next - page) = omega arith in
    let count : (next - page) + 1 ≡ k = omega arith in
    ap (λ (w : Memory). map.remove w next) (without_skip m page n (next - page) (omega arith) (λ q start below. none q start (omega arith)))
    ∙ ap (map.remove (without_pages m page (next - page))) at
    ∙ without_more m page (next - page)
    ∙ ap (without_pages m page) count

pub without-with : (m : Memory) (page n rights : ℕ) (content : List ℕ) → IsFree m page n → without_pages (with_pages m page n rights content) page n ≡ m
without-with m page n rights content free = map.same_map nat_cmp_total map.nat_cmp-IsAntisymmetric _ _ (λ q. same q (place page n q))
  where
    same : (q : ℕ) → ((page ≤ q) × (q < page + n)) ⊎ ((q < page) ⊎ (page + n ≤ q)) → map.get (without_pages (with_pages m page n rights content) page n) q ≡ map.get m q
    same q (inl among) = get_inside (with_pages m page n rights content) page n q among.0 among.1 ∙ sym (free q among.0 among.1)
    same q (inr away) = get_outside (with_pages m page n rights content) page n q away ∙ get-with_pages_other m page n rights content q away
