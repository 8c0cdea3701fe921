-- The test of a waiter's thread, made of two searches
use Rattle.std.proofs.Common.{◌≡◌, ℕ, ◌==◌, ◌&&◌, ◌||◌, not, Bool, true, false, List, [], ◌∷◌, map, refl, sym, ap, ◌∙◌}
use Rattle.std.specs.List.{list_any}
use Rattle.plain_process.specs.declared.user_part.Waiter.{Waiter}
use Rattle.shared_items.specs.declared.shared.ThreadEntry.{ThreadEntry}
use Rattle.image_process.specs.ProcessImages.{tids_of}
use Rattle.image_process.specs.ProcessTests.{is_listed, is_waiting}

among_threads : (threads : List ThreadEntry) (n : ℕ) → is_listed (tids_of threads) n ≡ list_any (λ thread. thread.tid == n) threads
among_threads [] n = refl
among_threads (thread ∷ threads) n = ap (λ (b : Bool). (thread.tid == n) || b) (among_threads threads n)

among_waiters : (waiters : List Waiter) (n : ℕ) → is_listed (map (λ waiter. waiter.tid) waiters) n ≡ list_any (λ waiter. waiter.tid == n) waiters
among_waiters [] n = refl
among_waiters (waiter ∷ waiters) n = ap (λ (b : Bool). (waiter.tid == n) || b) (among_waiters waiters n)

pub waiting_is : (threads : List ThreadEntry) (before : List Waiter) (n : ℕ) (a b : Bool) → a ≡ list_any (λ thread. thread.tid == n) threads → b ≡ list_any (λ waiter. waiter.tid == n) before
    → (a && not b) ≡ is_waiting (tids_of threads) (map (λ waiter. waiter.tid) before) n
waiting_is threads before n a b a_is b_is = rw (a_is, b_is, among_threads threads n, among_waiters before n) refl

pub waits_not : (threads : List ThreadEntry) (before : List Waiter) (n : ℕ) (a : Bool) → a ≡ list_any (λ thread. thread.tid == n) threads → a ≡ false → a ≡ is_waiting (tids_of threads) (map (λ waiter. waiter.tid) before) n
waits_not threads before n a a_is lacks = lacks ∙ ap (λ (s : Bool). s && not (list_any (λ waiter. waiter.tid == n) before)) (sym lacks) ∙ waiting_is threads before n a _ a_is refl

pub waits_after : (threads : List ThreadEntry) (before : List Waiter) (n : ℕ) (a b : Bool) → a ≡ list_any (λ thread. thread.tid == n) threads → b ≡ list_any (λ waiter. waiter.tid == n) before → a ≡ true
    → not b ≡ is_waiting (tids_of threads) (map (λ waiter. waiter.tid) before) n
waits_after threads before n a b a_is b_is has = ap (λ (s : Bool). s && not b) (sym has) ∙ waiting_is threads before n a b a_is b_is
