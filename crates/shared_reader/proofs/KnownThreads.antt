-- The numbers of threads that a reader keeps go on to be those of the processes that it has read
use Rattle.std.proofs.Common.{◌≡◌, ◌==◌, ◌||◌, ◌+◌, ◌<◌, ℕ, Bool, true, false, List, [], ◌∷◌, ◌++◌, length, take, get_or, refl, sym, ap, ◌∙◌}
use Rattle.std.specs.Prelude.{is_some}
use Rattle.std.specs.List.{list_any}
use Rattle.std.specs.Ordering.{nat_cmp}
use Rattle.std.proofs.lemmas.Cmp.{nat_cmp_total}
use Rattle.std.proofs.lemmas.List.{take_more}
use Rattle.std.specs.FinMap as map
use Rattle.std.specs.FinMap.{get-empty}
use Rattle.shared_items.specs.declared.shared.ThreadEntry.{ThreadEntry}
use Rattle.shared_items.specs.declared.shared.ProcessEntry.{ProcessEntry}
use Rattle.shared_items.specs.SharedTests.{lists_thread, is_number_of}
use Rattle.shared_items.specs.Keys.{HasKeys}
use Rattle.shared_items.proofs.Keys.{inserted, pushed, any_pushed, same_number, turned}
use Rattle.shared_reader.specs.KnownThreads.{KnowsThreads}

or_assoc : (a b c : Bool) → ((a || b) || c) ≡ (a || (b || c))
or_assoc true b c = refl
or_assoc false b c = refl

pub thread_more : (start m new : map.FinMap nat_cmp (Unit {0})) (threads : List ThreadEntry) (i : ℕ) (d : ThreadEntry) → i < length threads
    → new ≡ map.insert m (get_or threads i d).tid tt
    → HasKeys m (λ n. is_some (map.get start n) || list_any (λ (thread : ThreadEntry). thread.tid == n) (take i threads))
    → HasKeys new (λ n. is_some (map.get start n) || list_any (λ (thread : ThreadEntry). thread.tid == n) (take (i + 1) threads))
thread_more start m new threads i d inside same before n =
    inserted nat_cmp_total m new (get_or threads i d).tid tt same n
    ∙ (λ j. before n j || (same_number n (get_or threads i d).tid ∙ turned n (get_or threads i d).tid) j)
    ∙ or_assoc (is_some (map.get start n)) (list_any (λ (thread : ThreadEntry). thread.tid == n) (take i threads)) ((get_or threads i d).tid == n)
    ∙ ap (λ b. is_some (map.get start n) || b)
    (sym (ap (list_any (λ (thread : ThreadEntry). thread.tid == n)) (take_more threads i d inside) ∙ any_pushed (λ (thread : ThreadEntry). thread.tid == n) (take i threads) (get_or threads i d)))

pub no_thread : (m : map.FinMap nat_cmp (Unit {0})) → m ≡ map.empty → KnowsThreads m []
no_thread m is n = ap (λ x. is_some (map.get x n)) is ∙ ap is_some (get-empty nat_cmp n)

pub process_pushed : (m new : map.FinMap nat_cmp (Unit {0})) (front : List ProcessEntry) (p : ProcessEntry)
    → HasKeys new (λ n. is_some (map.get m n) || list_any (λ (thread : ThreadEntry). thread.tid == n) p.threads) → KnowsThreads m front → KnowsThreads new (front ++ p ∷ [])
process_pushed m new front p step before = pushed lists_thread m new front p step before

-- a number of a process is its own or a thread's

or_or : (a b c d : Bool) → ((a || b) || (c || d)) ≡ ((a || c) || (b || d))
or_or true b c d = refl
or_or false true true d = refl
or_or false true false d = refl
or_or false false c d = refl

pub number_of_some : (n : ℕ) (processes : List ProcessEntry)
    → (list_any (λ (p : ProcessEntry). p.pid.0 == n) processes || list_any (lists_thread n) processes) ≡ list_any (is_number_of n) processes
number_of_some n [] = refl
number_of_some n (p ∷ processes) =
    or_or (p.pid.0 == n) (list_any (λ (q : ProcessEntry). q.pid.0 == n) processes) (lists_thread n p) (list_any (lists_thread n) processes)
    ∙ ap (λ b. is_number_of n p || b) (number_of_some n processes)
