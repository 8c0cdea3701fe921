-- Who waits in an image: threads of the process, each once, so no more than there are.
--     few_waiters      how many they are at most
--     waiters_among, waiters_apart      the tests of the waiters tell that they are distinct threads of the process
--     waiters_fit      and distinct threads of the process pass the tests
use Rattle.std.proofs.Common.{◌≡◌, ◌≢◌, ℕ, suc, ◌+◌, ◌≤◌, ◌==◌, ◌&&◌, ◌||◌, not, Bool, true, false, cond, IsTrue, List, [], ◌∷◌, ◌++◌, length, map as each, refl, sym, ap, ◌∙◌, arith}
use Rattle.std.specs.Prelude.{All, AllPairs}
use Rattle.std.specs.List.{count_by}
use Rattle.std.proofs.lemmas.Bool.Decides.{nat_tests}
use Rattle.std.proofs.lemmas.List.{map-append}
use Rattle.std.proofs.lemmas.List.Elements.{All-nil, All-cons, All-head, All-tail}
use Rattle.std.proofs.lemmas.List.Kept.{AllPairs-cons}
use Rattle.std.proofs.lemmas.List.Sums.{count_by-le-length, sum_by-cons}
use Rattle.views.proofs.MapLaws.{true_false}
use Rattle.plain_process.specs.declared.user_part.Waiter.{Waiter}
use Rattle.image_format.specs.Texts.{EachFrom}
use Rattle.image_process.specs.ProcessTests.{is_listed}
use Rattle.image_process.specs.ProcessFits.{IsWaiter}

abbrev tids : List Waiter → List ℕ
tids waiters = each (λ waiter. waiter.tid) waiters

both_true : (a b : Bool) → IsTrue (a && b) → IsTrue a × IsTrue b
both_true true true h = (refl, refl)
both_true true false h = cc
both_true false b h = cc

true_both : (a b : Bool) → IsTrue a → IsTrue b → IsTrue (a && b)
true_both true b h g = g
true_both false b h g = cc

is_not : (b : Bool) → IsTrue (not b) → b ≡ false
is_not true h = cc
is_not false h = refl

among_push : (numbers : List ℕ) (t n : ℕ) → is_listed (numbers ++ t ∷ []) n ≡ (is_listed numbers n || (t == n))
among_push [] t n = last (t == n)
  where
    last : (b : Bool) → (b || false) ≡ b
    last true = refl
    last false = refl
among_push (x ∷ numbers) t n = ap (λ b. (x == n) || b) (among_push numbers t n) ∙ regrouped (x == n) (is_listed numbers n) (t == n)
  where
    regrouped : (a b c : Bool) → (a || (b || c)) ≡ ((a || b) || c)
    regrouped true b c = refl
    regrouped false b c = refl

tids_push : (front : List Waiter) (waiter : Waiter) (n : ℕ) → is_listed (tids (front ++ waiter ∷ [])) n ≡ (is_listed (tids front) n || (waiter.tid == n))
tids_push front waiter n =
    ap (λ (numbers : List ℕ). is_listed numbers n) (map-append (λ (w : Waiter). w.tid) front (waiter ∷ [])) ∙ among_push (tids front) waiter.tid n

-- how many of the threads don't wait yet
free : List ℕ → (ℕ → Bool) → ℕ
free threads waits = count_by (λ tid. not (waits tid)) threads

free_none : (waits : ℕ → Bool) → free [] waits ≡ 0
unfolding free
free_none waits = refl

free_step : (x : ℕ) (threads : List ℕ) (waits : ℕ → Bool) → free (x ∷ threads) waits ≡ cond (not (waits x)) 1 0 + free threads waits
unfolding free
free_step x threads waits = sum_by-cons (λ tid. cond (not (waits tid)) 1 0) x threads

abbrev WaitsToo : (ℕ → Bool) → ℕ → (ℕ → Bool) → Type 0
WaitsToo before t after = (n : ℕ) → after n ≡ (before n || (t == n))

no_more : (a e c : Bool) → c ≡ (a || e) → cond (not c) 1 0 ≤ cond (not a) 1 0
no_more true e c is = rw is (omega arith)
no_more false true c is = rw is (omega arith)
no_more false false c is = rw is (omega arith)

free_no_more : (threads : List ℕ) (before after : ℕ → Bool) (t : ℕ) → WaitsToo before t after → free threads after ≤ free threads before
free_no_more [] before after t too = omega (arith, free_none before, free_none after)
free_no_more (x ∷ threads) before after t too =
    omega (arith, free_step x threads before, free_step x threads after, no_more (before x) (t == x) (after x) (too x), free_no_more threads before after t too)

one_less : (threads : List ℕ) (before after : ℕ → Bool) (t : ℕ) → WaitsToo before t after → IsTrue (is_listed threads t) → before t ≡ false → free threads after + 1 ≤ free threads before
one_less [] before after t too there idle = cc
one_less (x ∷ threads) before after t too there idle =
    elim (x == t) as (λ b. (x == t) ≡ b → (b || is_listed threads t) ≡ true → free (x ∷ threads) after + 1 ≤ free (x ∷ threads) before) [
      | true ↦ λ e _.
          let same : x ≡ t = grind (arith, nat_tests) in
          let was : before x ≡ false = ap before same ∙ idle in
          let here : (t == x) ≡ true = grind (arith, nat_tests) in
          let is : after x ≡ true = too x ∙ (λ i. was i || here i) in
          let one : cond (not (after x)) 1 0 + 1 ≡ cond (not (before x)) 1 0 = rw (is, was) refl in
          omega (arith, free_step x threads before, free_step x threads after, one, free_no_more threads before after t too)
      | false ↦ λ e later. omega (arith, free_step x threads before, free_step x threads after, no_more (before x) (t == x) (after x) (too x), one_less threads before after t too later idle)
    ] refl there

few_from : (threads : List ℕ) (front waiters : List Waiter) → EachFrom (IsWaiter threads) front waiters → length waiters ≤ free threads (is_listed (tids front))
unfolding EachFrom
few_from threads front [] h = omega arith
few_from threads front (waiter ∷ waiters) h =
    let (there, idle) = both_true _ _ h.0 in
    let less = one_less threads (is_listed (tids front)) (is_listed (tids (front ++ waiter ∷ []))) waiter.tid (tids_push front waiter) there (is_not _ idle) in
    omega (arith, few_from threads (front ++ waiter ∷ []) waiters h.1, less)

pub few_waiters : (threads : List ℕ) (waiters : List Waiter) → EachFrom (IsWaiter threads) [] waiters → length waiters ≤ length threads
unfolding free
few_waiters threads waiters h = omega (arith, few_from threads [] waiters h, count_by-le-length (λ tid. not (is_listed [] tid)) threads)

-- what the tests tell

among_from : (threads : List ℕ) (front waiters : List Waiter) → EachFrom (IsWaiter threads) front waiters → All (λ waiter. IsTrue (is_listed threads waiter.tid)) waiters
unfolding EachFrom
among_from threads front [] h = All-nil _
among_from threads front (waiter ∷ waiters) h =
    All-cons (λ w. IsTrue (is_listed threads w.tid)) waiter waiters (both_true _ _ h.0).0 (among_from threads (front ++ waiter ∷ []) waiters h.1)

pub waiters_among : (threads : List ℕ) (waiters : List Waiter) → EachFrom (IsWaiter threads) [] waiters → All (λ waiter. IsTrue (is_listed threads waiter.tid)) waiters
waiters_among threads waiters h = among_from threads [] waiters h

or_first : (a b : Bool) → a ≡ true → (a || b) ≡ true
or_first true b h = refl
or_first false b h = cc

or_second : (a b : Bool) → b ≡ true → (a || b) ≡ true
or_second true b h = refl
or_second false b h = h

others_after : (threads : List ℕ) (t : ℕ) (front waiters : List Waiter) → is_listed (tids front) t ≡ true → EachFrom (IsWaiter threads) front waiters → All (λ later. t ≢ later.tid) waiters
unfolding EachFrom
others_after threads t front [] waits h = All-nil _
others_after threads t front (waiter ∷ waiters) waits h =
    let idle = is_not _ (both_true _ _ h.0).1 in
    let differ : t ≢ waiter.tid = λ same. true_false (sym (ap (is_listed (tids front)) (sym same) ∙ waits) ∙ idle) in
    All-cons (λ later. t ≢ later.tid) waiter waiters differ
    (others_after threads t (front ++ waiter ∷ []) waiters (tids_push front waiter t ∙ or_first _ _ waits) h.1)

apart_from : (threads : List ℕ) (front waiters : List Waiter) → EachFrom (IsWaiter threads) front waiters → AllPairs (λ waiter later. waiter.tid ≢ later.tid) waiters
unfolding EachFrom
apart_from threads front [] h = λ i j d before inside. absurd (omega arith)
apart_from threads front (waiter ∷ waiters) h =
    let same : (waiter.tid == waiter.tid) ≡ true = same_number waiter.tid in
    AllPairs-cons (λ w later. w.tid ≢ later.tid) waiter waiters
    (others_after threads waiter.tid (front ++ waiter ∷ []) waiters (tids_push front waiter waiter.tid ∙ or_second _ _ same) h.1)
    (apart_from threads (front ++ waiter ∷ []) waiters h.1)
  where
    same_number : (n : ℕ) → (n == n) ≡ true
    same_number n = grind (arith, nat_tests)

pub waiters_apart : (threads : List ℕ) (waiters : List Waiter) → EachFrom (IsWaiter threads) [] waiters → AllPairs (λ waiter later. waiter.tid ≢ later.tid) waiters
waiters_apart threads waiters h = apart_from threads [] waiters h

-- and what passes them

pairs_head : (waiter : Waiter) (waiters : List Waiter) → AllPairs (λ w later. w.tid ≢ later.tid) (waiter ∷ waiters) → All (λ later. waiter.tid ≢ later.tid) waiters
pairs_head waiter waiters h k d inside = h 0 (suc k) d (omega arith) (omega arith)

pairs_tail : (waiter : Waiter) (waiters : List Waiter) → AllPairs (λ w later. w.tid ≢ later.tid) (waiter ∷ waiters) → AllPairs (λ w later. w.tid ≢ later.tid) waiters
pairs_tail waiter waiters h i j d before inside = h (suc i) (suc j) d (omega arith) (omega arith)

still_idle : (front : List Waiter) (waiter : Waiter) (waiters : List Waiter) → All (λ later. waiter.tid ≢ later.tid) waiters → All (λ w. is_listed (tids front) w.tid ≡ false) waiters
    → All (λ w. is_listed (tids (front ++ waiter ∷ [])) w.tid ≡ false) waiters
still_idle front waiter [] apart idle = All-nil _
still_idle front waiter (later ∷ waiters) apart idle =
    let differ : (waiter.tid == later.tid) ≡ false = differs waiter.tid later.tid (All-head (λ w. waiter.tid ≢ w.tid) later waiters apart) in
    All-cons (λ w. is_listed (tids (front ++ waiter ∷ [])) w.tid ≡ false) later waiters
    (tids_push front waiter later.tid ∙ (λ i. All-head (λ w. is_listed (tids front) w.tid ≡ false) later waiters idle i || differ i))
    (still_idle front waiter waiters (All-tail (λ w. waiter.tid ≢ w.tid) later waiters apart) (All-tail (λ w. is_listed (tids front) w.tid ≡ false) later waiters idle))
  where
    differs : (a b : ℕ) → a ≢ b → (a == b) ≡ false
    differs a b other = elim (a == b) as (λ c. (a == b) ≡ c → c ≡ false) [ true ↦ λ e. absurd (other (grind (arith, nat_tests))) | false ↦ λ e. refl ] refl

fit_from : (threads : List ℕ) (front waiters : List Waiter) → All (λ waiter. IsTrue (is_listed threads waiter.tid)) waiters → AllPairs (λ waiter later. waiter.tid ≢ later.tid) waiters
    → All (λ w. is_listed (tids front) w.tid ≡ false) waiters → EachFrom (IsWaiter threads) front waiters
unfolding EachFrom
fit_from threads front [] there apart idle = tt
fit_from threads front (waiter ∷ waiters) there apart idle =
    let first : is_listed (tids front) waiter.tid ≡ false = All-head (λ w. is_listed (tids front) w.tid ≡ false) waiter waiters idle in
    let rest = All-tail (λ w. is_listed (tids front) w.tid ≡ false) waiter waiters idle in (
      true_both _ _ (All-head (λ w. IsTrue (is_listed threads w.tid)) waiter waiters there) (ap not first),
      fit_from threads (front ++ waiter ∷ []) waiters (All-tail (λ w. IsTrue (is_listed threads w.tid)) waiter waiters there) (pairs_tail waiter waiters apart)
          (still_idle front waiter waiters (pairs_head waiter waiters apart) rest),
    )

pub waiters_fit : (threads : List ℕ) (waiters : List Waiter) → All (λ waiter. IsTrue (is_listed threads waiter.tid)) waiters → AllPairs (λ waiter later. waiter.tid ≢ later.tid) waiters → EachFrom (IsWaiter threads) [] waiters
waiters_fit threads waiters there apart = fit_from threads [] waiters there apart (λ k d inside. refl)
