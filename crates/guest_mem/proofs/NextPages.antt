-- The next page: the first place of its row at which there is a frame, in the first row with such a place, is the least key from there on.
--     find-next                   the first number at which a frame stands is the first such key
use Rattle.std.proofs.Common.{Less, Equal, Greater, ◌≡◌, ℕ, ◌≤◌, ◌<◌, Bool, true, false, cond, ◌&&◌, List, [], ◌∷◌, refl, sym, ap, ◌∙◌, arith, ⊎_elim, T}
use Rattle.std.specs.Prelude.{Option, Some, None, ◌⊎◌, is_some, find, nat_lt, ◌==◌, map as mapped}
use Rattle.std.specs.Ordering.{nat_cmp, is_lt}
use Rattle.std.specs.Cmp.{nat_cmp_total}
use Rattle.std.specs.FinMap as map
use Rattle.std.specs.FinMap.Entries.{is_sorted, below_all}
use Rattle.std.proofs.lemmas.Bool.{cases_lt, cases_order}
use borrow.Author.Tests.{lt-ltb, le-ltb, ltb-true}
use Rattle.views.specs.NumberMap.{is_above}
use Rattle.views.proofs.MapLaws.{key_tied, other_key}
use Rattle.plain_process.specs.declared.memory.Frame.{Frame}
use Rattle.plain_process.specs.Memory.{Memory}
use Rattle.guest_mem.specs.Runs.{start_of}
use Rattle.guest_pages.specs.FrameTable.{IsNextPage}
use Rattle.guest_pages.proofs.Ranges.{false_true}

first : (a b : Bool) → T (a && b) → T a
first true b both = tt
first false b both = absurd both

second : (a b : Bool) → T (a && b) → T b
second true b both = both
second false b both = absurd both

less : (x y : ℕ) → T (is_lt (nat_cmp x y)) → x < y
less x y is = elim (nat_lt x y) as (λ b. nat_lt x y ≡ b → T (is_lt (cond b Less (cond (x == y) Equal Greater))) → x < y) [
  | true ↦ λ e h. ltb-true x y e
  | false ↦ λ e h. absurd (elim (x == y) as (λ b. T (is_lt (cond b Equal Greater)) → ⊥) [ true ↦ λ h. h | false ↦ λ h. h ] h)
] refl is

-- a key below the first of a sorted list is not in it
find_below : (q : ℕ) (e : ℕ × Frame) (es : List (ℕ × Frame)) → q < e.0 → T (is_sorted nat_cmp (e ∷ es)) → map.find nat_cmp q (e ∷ es) ≡ None
find_below q e [] under sorted = ap (λ b. cond b (Some e.1) None) (other_key nat_cmp_total map.nat_cmp-IsAntisymmetric q e.0 (λ is. omega arith))
find_below q e (f ∷ es) under sorted =
    let rest = second (below_all nat_cmp e.0 (f ∷ es)) (is_sorted nat_cmp (f ∷ es)) sorted in
    let step : e.0 < f.0 = less e.0 f.0 (first (is_lt (nat_cmp e.0 f.0)) (below_all nat_cmp e.0 es) (first (below_all nat_cmp e.0 (f ∷ es)) (is_sorted nat_cmp (f ∷ es)) sorted)) in
    ap (λ b. cond b (Some e.1) (map.find nat_cmp q (f ∷ es))) (other_key nat_cmp_total map.nat_cmp-IsAntisymmetric q e.0 (λ is. omega arith))
    ∙ find_below q f es (omega arith) rest

find_first : (e : ℕ × Frame) (es : List (ℕ × Frame)) → map.find nat_cmp e.0 (e ∷ es) ≡ Some e.1
find_first e es = ap (λ b. cond b (Some e.1) (map.find nat_cmp e.0 es)) (key_tied nat_cmp_total map.nat_cmp-IsAntisymmetric e.0)

find_past : (q : ℕ) (e : ℕ × Frame) (es : List (ℕ × Frame)) → e.0 < q → map.find nat_cmp q (e ∷ es) ≡ map.find nat_cmp q es
find_past q e es over = ap (λ b. cond b (Some e.1) (map.find nat_cmp q es)) (other_key nat_cmp_total map.nat_cmp-IsAntisymmetric q e.0 (λ is. omega arith))

clash : {A B : Type 0} (found : Option A) (x : A) → found ≡ Some x → found ≡ None → B
clash found x some none = false_true (sym (ap is_some none) ∙ ap is_some some)

-- the least key from a start on, where p passes just there
no_key : (p : ℕ → Bool) (start : ℕ) (es : List (ℕ × Frame)) → ((n : ℕ) → n < start → p n ≡ false)
    → ((q : ℕ) → start ≤ q → map.find nat_cmp q es ≡ None) → T (is_sorted nat_cmp es) → find p (mapped (λ e. e.0) es) ≡ None
no_key p start [] fails none sorted = refl
no_key p start (e ∷ es) fails none sorted =
    ⊎_elim
    (λ (under : e.0 < start). ap (λ b. cond b (Some e.0) (find p (mapped (λ e. e.0) es))) (fails e.0 under)
    ∙ no_key p start es fails (λ q from. sym (find_past q e es (omega arith)) ∙ none q from) (second (below_all nat_cmp e.0 es) (is_sorted nat_cmp es) sorted))
    (λ (from : start ≤ e.0). clash (map.find nat_cmp e.0 (e ∷ es)) e.1 (find_first e es) (none e.0 from))
    (cases_lt e.0 start)

least_key : (p : ℕ → Bool) (start n : ℕ) (es : List (ℕ × Frame)) → ((k : ℕ) → k < start → p k ≡ false) → ((k : ℕ) → start ≤ k → p k ≡ true)
    → start ≤ n → is_some (map.find nat_cmp n es) ≡ true → ((q : ℕ) → start ≤ q → q < n → map.find nat_cmp q es ≡ None) → T (is_sorted nat_cmp es)
    → find p (mapped (λ e. e.0) es) ≡ Some n
least_key p start n [] fails passes from held none sorted = false_true held
least_key p start n (e ∷ es) fails passes from held none sorted =
    ⊎_elim
    (λ (under : e.0 < start). ap (λ b. cond b (Some e.0) (find p (mapped (λ e. e.0) es))) (fails e.0 under)
    ∙ least_key p start n es fails passes from (ap is_some (sym (find_past n e es (omega arith))) ∙ held)
    (λ q at before. sym (find_past q e es (omega arith)) ∙ none q at before) (second (below_all nat_cmp e.0 es) (is_sorted nat_cmp es) sorted))
    (λ (at : start ≤ e.0). ap (λ b. cond b (Some e.0) (find p (mapped (λ e. e.0) es))) (passes e.0 at) ∙ ap (λ k. Some k) (same at))
    (cases_lt e.0 start)
  where
    same : start ≤ e.0 → e.0 ≡ n
    same at =
        ⊎_elim (λ (is : e.0 ≡ n). is)
        (λ (apart : (e.0 < n) ⊎ (n < e.0)).
        ⊎_elim (λ (before : e.0 < n). clash (map.find nat_cmp e.0 (e ∷ es)) e.1 (find_first e es) (none e.0 at before))
        (λ (after : n < e.0). false_true (sym (ap is_some (find_below n e es after sorted)) ∙ held)) apart)
        (cases_order e.0 n)

fails_before : (above : Option ℕ) (n : ℕ) → n < start_of above → is_above above n ≡ false
fails_before None n before = absurd (omega arith)
fails_before (Some page) n before = le-ltb page n (omega arith)

passes_from : (above : Option ℕ) (n : ℕ) → start_of above ≤ n → is_above above n ≡ true
passes_from None n from = refl
passes_from (Some page) n from = lt-ltb page n (omega arith)

pub find-next : (m : Memory) (above : Option ℕ) (start : ℕ) (next : Option ℕ) → start ≡ start_of above → IsNextPage m start next → next ≡ find (is_above above) (map.keys m)
find-next m above start None starts none =
    sym (no_key (is_above above) start (map.entries m) (λ n before. fails_before above n (omega arith)) (λ q from. sym (map.get-entries m q) ∙ none q from) (map.entries_sorted m))
find-next m above start (Some number) starts next =
    sym (least_key (is_above above) start number (map.entries m) (λ n before. fails_before above n (omega arith)) (λ n from. passes_from above n (omega arith))
    next.from (ap is_some (sym (map.get-entries m number)) ∙ next.held) (λ q from before. sym (map.get-entries m q) ∙ next.first q from before) (map.entries_sorted m))
