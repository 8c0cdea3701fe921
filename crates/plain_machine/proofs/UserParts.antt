-- The parts of which a valid process's part is made, each with what keeps it valid: memory and break, threads, actions, those who wait.
--     IsSpace memory break_start break_end, AreThreads threads, AreActions actions, AreWaiters threads waiters
--     space_of, threads_of, actions_of, waiters_of      of a valid part      user_from      all of them together
--     Follows before after      the part after is valid, and has the threads of the one before
use Rattle.std.proofs.Common.{◌≡◌, ◌≢◌, ℕ, ◌+◌, ◌-◌, ◌%◌, ◌<◌, ◌≤◌, Bool, true, false, cond, List, [], ◌∷◌, ◌++◌, length, filter, refl, sym, ap, subst, ◌∙◌, arith, ⊎_elim}
use Rattle.std.specs.Prelude.{◌==◌, not, Some, None, is_some, All, AllPairs}
use Rattle.std.specs.List.{list_any}
use Rattle.std.specs.Ordering.{nat_cmp, eq_by_cmp}
use Rattle.std.specs.Cmp.{nat_cmp_total}
use Rattle.std.specs.FinMap as map
use Rattle.std.proofs.lemmas.Bool.Decides.{nat_tests}
use Rattle.std.proofs.lemmas.List.Elements.{All-nil, All-cons, All-append, All-filter, filter_passes}
use Rattle.std.proofs.lemmas.List.Kept.{AllPairs-filter}
use Rattle.std.proofs.lemmas.List.Quantifiers.{all_pairs_push}
use Rattle.plain_tables.proofs.OfViews.MapLaws.{get_insert_same, get_insert_other, get_remove_same, get_remove_other, same_or_other}
use Rattle.plain_tables.specs.OfPlainProcess.declared.user_part.UserPart.{UserPart}
use Rattle.plain_tables.specs.OfPlainProcess.declared.user_part.ThreadPart.{ThreadPart}
use Rattle.plain_tables.specs.OfPlainProcess.declared.user_part.SignalAction.{SignalAction}
use Rattle.plain_tables.specs.OfPlainProcess.declared.user_part.Waiter.{Waiter}
use Rattle.plain_tables.specs.OfPlainProcess.Memory.{Memory}
use Rattle.plain_tables.specs.OfPlainProcess.Threads.{with_waiters, without_waiter, without_thread}
use Rattle.plain_tables.specs.OfPlainProcess.Steps.{with_thread}
use Rattle.plain_tables.specs.OfPlainProcess.Start.{RETURN_PAGE, return_frame}
use Rattle.plain_tables.specs.OfPlainProcess.Valid.{IsWord, IsThread, IsAction, IsWaiter, IsHeap, IsUser, Each}
use Rattle.plain_tables.proofs.OfPlainProcess.MemoryBounds.{IsMemory}
use Rattle.plain_machine.proofs.MemoryPages.{KeepsPages, same_pages}
use Rattle.plain_machine.specs.RowLaws.{with_one}
use Rattle.plain_machine.proofs.ThreadKeys.{there_with, same_there}

pub record IsSpace (memory : Memory) (break_start break_end : ℕ) : Type 0 where
  pub pages : IsMemory memory
  pub return_page : map.get memory RETURN_PAGE ≡ Some return_frame
  pub aligned : break_start % 4096 ≡ 0
  pub order : break_start ≤ break_end
  pub limit : break_end ≤ 0x40000000
  pub heap : IsHeap memory break_start break_end

pub record AreThreads (threads : map.FinMap nat_cmp ThreadPart) : Type 0 where
  pub count : map.len threads ≤ 64
  pub numbers : Each threads (λ t thread. IsWord t)
  pub each : Each threads (λ t thread. IsThread thread)

pub record AreActions (actions : List SignalAction) : Type 0 where
  pub count : length actions ≡ 31
  pub each : All IsAction actions

pub record AreWaiters (threads : map.FinMap nat_cmp ThreadPart) (waiters : List Waiter) : Type 0 where
  pub each : All (IsWaiter threads) waiters
  pub apart : AllPairs (λ waiter later. waiter.tid ≢ later.tid) waiters

pub user_from : (user : UserPart) → IsSpace user.memory user.break_start user.break_end → AreThreads user.threads → AreActions user.actions → AreWaiters user.threads user.waiters → IsUser user
user_from user space threads actions waiters = record {
  pages = space.pages.pages;
  memory = space.pages.frames;
  return_page = space.return_page;
  break_start = space.aligned;
  break_order = space.order;
  break_limit = space.limit;
  heap = space.heap;
  thread_count = threads.count;
  thread_numbers = threads.numbers;
  threads = threads.each;
  actions = actions.count;
  handlers = actions.each;
  waiters = waiters.each;
  waiters_apart = waiters.apart;
}

pub memory_of : (user : UserPart) → IsUser user → IsMemory user.memory
memory_of user is = record { pages = is.pages; frames = is.memory }

pub space_of : (user : UserPart) → IsUser user → IsSpace user.memory user.break_start user.break_end
space_of user is = record { pages = memory_of user is; return_page = is.return_page; aligned = is.break_start; order = is.break_order; limit = is.break_limit; heap = is.heap }

pub threads_of : (user : UserPart) → IsUser user → AreThreads user.threads
threads_of user is = record { count = is.thread_count; numbers = is.thread_numbers; each = is.threads }

pub actions_of : (user : UserPart) → IsUser user → AreActions user.actions
actions_of user is = record { count = is.actions; each = is.handlers }

pub waiters_of : (user : UserPart) → IsUser user → AreWaiters user.threads user.waiters
waiters_of user is = record { each = is.waiters; apart = is.waiters_apart }

-- memory whose bytes are written
pub space_written : (before after : Memory) (break_start break_end : ℕ) → IsSpace before break_start break_end → IsMemory after → KeepsPages before after → IsSpace after break_start break_end
space_written before after break_start break_end is pages keeps = record {
  pages = pages;
  return_page = keeps.closed RETURN_PAGE return_frame is.return_page refl;
  aligned = is.aligned;
  order = is.order;
  limit = is.limit;
  heap = λ place from below. same_pages before after keeps place ∙ is.heap place from below;
}

-- threads
each_thread : (P : ℕ → ThreadPart → Type 0) (threads : map.FinMap nat_cmp ThreadPart) (t : ℕ) (new : ThreadPart) → Each threads P → P t new → Each (map.insert threads t new) P
each_thread P threads t new are is q thread found = ⊎_elim
    (λ here.
    let there : map.get (map.insert threads t new) t ≡ Some thread = subst (λ k. map.get (map.insert threads t new) k ≡ Some thread) here found in
    let same : new ≡ thread = let put = get_insert_same nat_cmp_total map.nat_cmp-IsAntisymmetric threads t new in cc in
    subst (λ k. P k thread) (sym here) (subst (P t) same is))
    (λ other. are q thread (sym (get_insert_other nat_cmp_total map.nat_cmp-IsAntisymmetric threads t new q other) ∙ found))
    (same_or_other nat_cmp_total map.nat_cmp-IsAntisymmetric q t)

threads_insert : (threads : map.FinMap nat_cmp ThreadPart) (t : ℕ) (new : ThreadPart) → AreThreads threads → IsWord t → IsThread new → cond (is_some (map.get threads t)) (map.len threads) (map.len threads + 1) ≤ 64
    → AreThreads (map.insert threads t new)
threads_insert threads t new are number is few = record {
  count = subst (λ n. n ≤ 64) (sym (map.len-insert nat_cmp_total threads t new)) few;
  numbers = each_thread (λ q thread. IsWord q) threads t new are.numbers number;
  each = each_thread (λ q thread. IsThread thread) threads t new are.each is;
}

threads_changed : (threads : map.FinMap nat_cmp ThreadPart) (t : ℕ) (old new : ThreadPart) → AreThreads threads → map.get threads t ≡ Some old → IsThread new → AreThreads (map.insert threads t new)
threads_changed threads t old new are there is =
    let same = ap (λ found. cond (is_some found) (map.len threads) (map.len threads + 1)) there in
    threads_insert threads t new are (are.numbers t old there) is (subst (λ n. n ≤ 64) (sym same) are.count)

pub threads_added : (threads : map.FinMap nat_cmp ThreadPart) (t : ℕ) (new : ThreadPart) → AreThreads threads → map.get threads t ≡ None → map.len threads < 64 → IsWord t → IsThread new → AreThreads (map.insert threads t new)
threads_added threads t new are absent few number is =
    let more = ap (λ found. cond (is_some found) (map.len threads) (map.len threads + 1)) absent in
    threads_insert threads t new are number is (subst (λ n. n ≤ 64) (sym more) (omega arith))

left_thread : (threads : map.FinMap nat_cmp ThreadPart) (t q : ℕ) (thread : ThreadPart) → map.get (map.remove threads t) q ≡ Some thread → map.get threads q ≡ Some thread
left_thread threads t q thread found = ⊎_elim
    (λ here. let gone : map.get (map.remove threads t) q ≡ None = subst (λ k. map.get (map.remove threads t) k ≡ None) (sym here) (get_remove_same nat_cmp_total map.nat_cmp-IsAntisymmetric threads t) in cc)
    (λ other. sym (get_remove_other nat_cmp_total map.nat_cmp-IsAntisymmetric threads t q other) ∙ found)
    (same_or_other nat_cmp_total map.nat_cmp-IsAntisymmetric q t)

threads_left : (threads : map.FinMap nat_cmp ThreadPart) (t : ℕ) → AreThreads threads → AreThreads (map.remove threads t)
threads_left threads t are = record {
  count = fewer (is_some (map.get threads t)) (map.len-remove nat_cmp_total threads t);
  numbers = λ q thread found. are.numbers q thread (left_thread threads t q thread found);
  each = λ q thread found. are.each q thread (left_thread threads t q thread found);
}
  where
    fewer : (b : Bool) → map.len (map.remove threads t) ≡ cond b (map.len threads - 1) (map.len threads) → map.len (map.remove threads t) ≤ 64
    fewer true is = let count = are.count in omega arith
    fewer false is = let count = are.count in omega arith

-- those who wait
waiters_kept : (before after : map.FinMap nat_cmp ThreadPart) (waiters : List Waiter) → ((q : ℕ) → is_some (map.get before q) ≡ true → is_some (map.get after q) ≡ true) → AreWaiters before waiters → AreWaiters after waiters
waiters_kept before after waiters keeps are = record {
  each = λ k d inside. let waiter = are.each k d inside in record { thread = keeps _ waiter.thread; address = waiter.address };
  apart = are.apart;
}

waiters_filtered : (threads : map.FinMap nat_cmp ThreadPart) (test : Waiter → Bool) (waiters : List Waiter) → AreWaiters threads waiters → AreWaiters threads (filter test waiters)
waiters_filtered threads test waiters are = record {
  each = All-filter test (IsWaiter threads) waiters are.each;
  apart = AllPairs-filter (λ waiter later. waiter.tid ≢ later.tid) test waiters are.apart;
}

differs : (a b : ℕ) → not (a == b) ≡ true → a ≢ b
differs a b is = grind (arith, nat_tests, is)

waiters_left : (threads : map.FinMap nat_cmp ThreadPart) (t : ℕ) (waiters : List Waiter) → AreWaiters threads waiters → AreWaiters (map.remove threads t) (without_waiter t waiters)
waiters_left threads t waiters are =
    let kept = waiters_filtered threads (λ waiter. not (waiter.tid == t)) waiters are in
    record {
      each = λ k d inside.
          let waiter = kept.each k d inside in
          let other = differs _ t (filter_passes (λ (w : Waiter). not (w.tid == t)) waiters k d inside) in
          record { thread = ap is_some (get_remove_other nat_cmp_total map.nat_cmp-IsAntisymmetric threads t _ other) ∙ waiter.thread; address = waiter.address };
      apart = kept.apart;
    }

-- one more, who did not wait
no_other : (t : ℕ) (waiters : List Waiter) → list_any (λ waiter. waiter.tid == t) waiters ≡ false → All (λ waiter. waiter.tid ≢ t) waiters
no_other t [] none = All-nil _
no_other t (waiter ∷ rest) none = All-cons (λ waiter. waiter.tid ≢ t) waiter rest (grind (arith, nat_tests, none)) (no_other t rest (grind (arith, none)))

pub waiters_more : (threads : map.FinMap nat_cmp ThreadPart) (t address : ℕ) (waiters : List Waiter) → AreWaiters threads waiters → is_some (map.get threads t) ≡ true → IsWord address
    → list_any (λ waiter. waiter.tid == t) waiters ≡ false → AreWaiters threads (waiters ++ record { tid = t; address = address } ∷ [])
waiters_more threads t address waiters are there word apart =
    let new : Waiter = record { tid = t; address = address } in
    let is : IsWaiter threads new = record { thread = there; address = word } in
    record {
      each = All-append (IsWaiter threads) waiters (new ∷ []) are.each (All-cons (IsWaiter threads) new [] is (All-nil (IsWaiter threads)));
      apart = all_pairs_push (λ waiter later. waiter.tid ≢ later.tid) waiters new are.apart (no_other t waiters apart);
    }

-- a part after another
pub record Follows (before after : UserPart) : Type 0 where
  pub user : IsUser after
  pub threads : (t : ℕ) → is_some (map.get after.threads t) ≡ is_some (map.get before.threads t)

pub follows_itself : (user : UserPart) → IsUser user → Follows user user
follows_itself user is = record { user = is; threads = λ t. refl }

pub then_follows : (first second third : UserPart) → Follows first second → Follows second third → Follows first third
then_follows first second third one two = record { user = two.user; threads = λ t. two.threads t ∙ one.threads t }

module _ (user : UserPart) (is : IsUser user) where
  pub written_follows : (memory : Memory) → IsMemory memory → KeepsPages user.memory memory → Follows user (record user { memory = memory })
  written_follows memory after keeps = record {
    user = user_from _ (space_written user.memory memory user.break_start user.break_end (space_of user is) after keeps) (threads_of user is) (actions_of user is) (waiters_of user is);
    threads = λ t. refl;
  }

  pub thread_follows : (t : ℕ) (old new : ThreadPart) (memory : Memory) → map.get user.threads t ≡ Some old → IsThread new → IsMemory memory → KeepsPages user.memory memory → Follows user (with_thread user t new memory)
  thread_follows t old new memory there thread after keeps = record {
    user = user_from _ (space_written user.memory memory user.break_start user.break_end (space_of user is) after keeps) (threads_changed user.threads t old new (threads_of user is) there thread) (actions_of user is)
        (waiters_kept user.threads (map.insert user.threads t new) user.waiters (λ q here. same_there user.threads t new (ap is_some there) q ∙ here) (waiters_of user is));
    threads = same_there user.threads t new (ap is_some there);
  }

  pub waiting_follows : (waiters : List Waiter) → AreWaiters user.threads waiters → Follows user (with_waiters user waiters)
  waiting_follows waiters are = record { user = user_from _ (space_of user is) (threads_of user is) (actions_of user is) are; threads = λ t. refl }

  pub no_waiter_follows : (t : ℕ) → Follows user (with_waiters user (without_waiter t user.waiters))
  no_waiter_follows t = waiting_follows (without_waiter t user.waiters) (waiters_filtered user.threads _ user.waiters (waiters_of user is))

  pub actions_follow : (actions : List SignalAction) → AreActions actions → Follows user (record user { actions = actions })
  actions_follow actions are = record { user = user_from _ (space_of user is) (threads_of user is) are (waiters_of user is); threads = λ t. refl }

  -- one thread less, and one more
  pub thread_less : (t : ℕ) → IsUser (without_thread user t)
  thread_less t = user_from _ (space_of user is) (threads_left user.threads t (threads_of user is)) (actions_of user is) (waiters_left user.threads t user.waiters (waiters_of user is))

  pub thread_more : (t : ℕ) (new : ThreadPart) → map.get user.threads t ≡ None → map.len user.threads < 64 → IsWord t → IsThread new → IsUser (with_thread user t new user.memory)
  thread_more t new absent few number thread =
      user_from _ (space_of user is) (threads_added user.threads t new (threads_of user is) absent few number thread) (actions_of user is)
      (waiters_kept user.threads (map.insert user.threads t new) user.waiters (λ q here. there_with user.threads t q new ∙ more t q _ here) (waiters_of user is))
    where
      either_way : (b was : Bool) → was ≡ true → cond b true was ≡ true
      either_way true was here = refl
      either_way false was here = here

      more : (new q : ℕ) (was : Bool) → was ≡ true → with_one (Some new) q was ≡ true
      more new q was here = either_way (eq_by_cmp nat_cmp q new) was here
