-- Waking keeps a process's part valid, with the same threads; the end of a thread takes it away, and a new thread is one more.
--     wake_follows, wake_counts      who is awake: the threads stay, and no more wake up than wait
--     thread_ends, thread_begins     which threads are there afterwards
use Rattle.std.proofs.Common.{◌≡◌, ℕ, zero, suc, ◌+◌, ◌<◌, ◌≤◌, Bool, true, false, cond, List, [], ◌∷◌, length, filter, find, refl, sym, ap, subst, ◌∙◌, arith}
use Rattle.std.specs.Prelude.{◌==◌, not, Option, Some, None, is_some, unwrap_or}
use Rattle.std.specs.Cmp.{nat_cmp_total}
use Rattle.std.specs.FinMap as map
use Rattle.std.proofs.lemmas.Bool.Decides.{nat_tests}
use Rattle.std.proofs.lemmas.List.Elements.{All-nil}
use Rattle.std.proofs.lemmas.List.Filters.{length-filter_both}
use Rattle.plain_tables.proofs.OfViews.MapLaws.{remove_absent}
use Rattle.plain_tables.specs.OfSysAbi.declared.flags.TheConstants.{CLONE_CHILD_CLEARTID, CLONE_SETTLS}
use Rattle.plain_tables.specs.OfPlainProcess.declared.regs.Regs.{Regs}
use Rattle.plain_tables.specs.OfPlainProcess.declared.user_part.UserPart.{UserPart}
use Rattle.plain_tables.specs.OfPlainProcess.declared.user_part.ThreadPart.{ThreadPart}
use Rattle.plain_tables.specs.OfPlainProcess.declared.user_part.Waiter.{Waiter}
use Rattle.plain_tables.specs.OfPlainProcess.Memory.{Memory, store}
use Rattle.plain_tables.specs.OfPlainProcess.Registers.{A0, SP, TP}
use Rattle.plain_tables.specs.OfPlainProcess.Steps.{with_regs}
use Rattle.plain_tables.specs.OfPlainProcess.Threads.{after_call, with_waiters, without_waiter, awake_by, awake, first_waiter, Woken, woken_by, wake_one, wake, without_thread, with_cleared, after_clearing, thread_end_by, after_thread_end, with_reg_if, new_regs, new_thread, with_new_thread_by, with_new_thread}
use Rattle.plain_tables.specs.OfPlainProcess.Valid.{IsWord, IsRegs, IsThread, IsUser}
use Rattle.plain_tables.proofs.OfPlainProcess.Giving.{Giving}
use Rattle.plain_tables.proofs.OfPlainProcess.MemoryBounds.{IsMemory, kept_by_store}
use Rattle.plain_machine.proofs.MemoryPages.{KeepsPages, kept_pages, store_keeps}
use Rattle.plain_machine.proofs.WordBounds.{either_word}
use Rattle.plain_machine.proofs.EffectBounds.{regs_at, regs_with, next_word}
use Rattle.plain_machine.specs.RowLaws.{without_one, with_one}
use Rattle.plain_machine.proofs.ThreadKeys.{there_without, there_with}
use Rattle.plain_machine.proofs.UserParts.{Follows, follows_itself, then_follows, memory_of, written_follows, thread_follows, no_waiter_follows, thread_less, thread_more}
use Rattle.plain_tables.specs.OfSysAbi.Flags.{has_flag}

-- a thread after its call's answer
pub thread_with : (thread : ThreadPart) (regs : Regs) → IsThread thread → IsRegs regs → IsThread (with_regs thread regs)
thread_with thread regs is are = record { regs = are; mask = is.mask; clear_tid = is.clear_tid; count = is.count; contexts = is.contexts }

pub thread_after : (thread : ThreadPart) (value : ℕ) → IsThread thread → IsWord value → IsThread (after_call thread value)
thread_after thread value is small = thread_with thread _ is (regs_at _ _ (regs_with thread.regs A0 value is.regs small) (next_word thread.regs))

-- waking
awake_follows_by : (user : UserPart) (t : ℕ) (found : Option ThreadPart) → IsUser user → map.get user.threads t ≡ found → Follows user (awake_by user t found)
awake_follows_by user t None is there = follows_itself user is
awake_follows_by user t (Some thread) is there =
    thread_follows user is t thread (after_call thread 0) user.memory there (thread_after thread 0 (is.threads t thread there) (omega arith)) (memory_of user is) (kept_pages user.memory)

awake_follows : (user : UserPart) (t : ℕ) → IsUser user → Follows user (awake user t)
unfolding awake
awake_follows user t is =
    let first = no_waiter_follows user is t in
    then_follows user (with_waiters user (without_waiter t user.waiters)) _ first (awake_follows_by _ t (map.get user.threads t) first.user refl)

woken_follows : (woken : Woken) (found : Option Waiter) → IsUser woken.user → Follows woken.user (woken_by woken found).user
woken_follows woken None is = follows_itself woken.user is
woken_follows woken (Some waiter) is = awake_follows woken.user waiter.tid is

wake_one_follows : (address : ℕ) (woken : Woken) → IsUser woken.user → Follows woken.user (wake_one address woken).user
unfolding wake_one
wake_one_follows address woken is = woken_follows woken (first_waiter address woken.user.waiters) is

pub wake_follows : (n address : ℕ) (user : UserPart) → IsUser user → Follows user (wake n address user).user
unfolding wake
wake_follows zero address user is = follows_itself user is
wake_follows (suc n) address user is =
    let before = wake_follows n address user is in then_follows user (wake n address user).user _ before (wake_one_follows address (wake n address user) before.user)

-- no more wake up than wait
filter_short : {X : Type 0} (test : X → Bool) (xs : List X) → length (filter test xs) ≤ length xs
filter_short test xs = let both = length-filter_both test (λ x. not (test x)) (λ x. refl) xs in omega arith

found_left_out : {X : Type 0} (wanted kept : X → Bool) (xs : List X) (x : X) → find wanted xs ≡ Some x → kept x ≡ false → length (filter kept xs) + 1 ≤ length xs
found_left_out wanted kept [] x is out = cc
found_left_out wanted kept (y ∷ ys) x is out =
    elim (wanted y) as (λ b. cond b (Some y) (find wanted ys) ≡ Some x → length (cond (kept y) (y ∷ filter kept ys) (filter kept ys)) + 1 ≤ suc (length ys)) [
      | true ↦ λ here.
          let same : y ≡ x = cc in
          let gone : kept y ≡ false = ap kept same ∙ out in
          let short = filter_short kept ys in
          subst (λ b. length (cond b (y ∷ filter kept ys) (filter kept ys)) + 1 ≤ suc (length ys)) (sym gone) (omega arith)
      | false ↦ λ later. one_more (kept y) y (filter kept ys) (length ys) (found_left_out wanted kept ys x later out)
    ] is
  where
    one_more : {X : Type 0} (b : Bool) (y : X) (ys : List X) (n : ℕ) → length ys + 1 ≤ n → length (cond b (y ∷ ys) ys) + 1 ≤ suc n
    one_more true y ys n less = omega arith
    one_more false y ys n less = omega arith

awake_waiters : (user : UserPart) (t : ℕ) (found : Option ThreadPart) → (awake_by user t found).waiters ≡ user.waiters
awake_waiters user t None = refl
awake_waiters user t (Some thread) = refl

left_out : (waiter : Waiter) → not (waiter.tid == waiter.tid) ≡ false
left_out waiter = grind (arith, nat_tests)

woken_counts : (woken : Woken) (address : ℕ) (found : Option Waiter) → first_waiter address woken.user.waiters ≡ found
    → (woken_by woken found).count + length (woken_by woken found).user.waiters ≤ woken.count + length woken.user.waiters
unfolding awake
woken_counts woken address None is = omega arith
woken_counts woken address (Some waiter) is =
    let left = found_left_out (λ w. w.address == address) (λ w. not (w.tid == waiter.tid)) woken.user.waiters waiter is (left_out waiter) in
    let same = ap length (awake_waiters (with_waiters woken.user (without_waiter waiter.tid woken.user.waiters)) waiter.tid (map.get woken.user.threads waiter.tid)) in
    omega arith

pub wake_counts : (n address : ℕ) (user : UserPart) → (wake n address user).count + length (wake n address user).user.waiters ≤ length user.waiters
unfolding wake wake_one
wake_counts zero address user = omega arith
wake_counts (suc n) address user =
    let before = wake_counts n address user in
    let woken = wake n address user in
    let more = woken_counts woken address (first_waiter address woken.user.waiters) refl in
    omega arith

-- the end of a thread
stored_memory : (memory : Memory) (found : Option Memory) → IsMemory memory → Giving found IsMemory → IsMemory (unwrap_or found memory)
stored_memory memory None is stored = is
stored_memory memory (Some after) is stored = stored.each after refl

stored_pages : (memory : Memory) (found : Option Memory) → Giving found (KeepsPages memory) → KeepsPages memory (unwrap_or found memory)
stored_pages memory None keeps = kept_pages memory
stored_pages memory (Some after) keeps = keeps.each after refl

cleared_follows : (user : UserPart) (address : ℕ) → IsUser user → Follows user (with_cleared user address)
cleared_follows user address is =
    let memory = memory_of user is in
    written_follows user is _ (stored_memory user.memory (store user.memory address 4 0) memory (kept_by_store user.memory address 4 0 memory))
    (stored_pages user.memory (store user.memory address 4 0) (store_keeps user.memory address 4 0))

clearing_follows : (user : UserPart) (address : ℕ) → IsUser user → Follows user (after_clearing user address)
clearing_follows user address is = chosen (address == 0)
  where
    chosen : (b : Bool) → Follows user (cond b user (wake 1 address (with_cleared user address)).user)
    chosen true = follows_itself user is
    chosen false = let cleared = cleared_follows user address is in then_follows user (with_cleared user address) _ cleared (wake_follows 1 address (with_cleared user address) cleared.user)

-- a valid part that has the threads of another one, but for a change
pub record HasThreads (before after : UserPart) (change : ℕ → Bool → Bool) : Type 0 where
  pub user : IsUser after
  pub threads : (u : ℕ) → is_some (map.get after.threads u) ≡ change u (is_some (map.get before.threads u))

thread_ends_by : (user : UserPart) (t : ℕ) (found : Option ThreadPart) → IsUser user → map.get user.threads t ≡ found → HasThreads user (thread_end_by user t found) (without_one t)
thread_ends_by user t None is absent = record {
  user = is;
  threads = λ u. ap (λ threads. is_some (map.get threads u)) (sym (remove_absent nat_cmp_total map.nat_cmp-IsAntisymmetric user.threads t absent)) ∙ there_without user.threads t u;
}
thread_ends_by user t (Some thread) is there =
    let cleared = clearing_follows (without_thread user t) thread.clear_tid (thread_less user is t) in
    record { user = cleared.user; threads = λ u. cleared.threads u ∙ there_without user.threads t u }

pub thread_ends : (user : UserPart) (t : ℕ) → IsUser user → HasThreads user (after_thread_end user t) (without_one t)
unfolding after_thread_end
thread_ends user t is = thread_ends_by user t (map.get user.threads t) is refl

-- a new thread
regs_with_if : (b : Bool) (regs : Regs) (i value : ℕ) → IsRegs regs → IsWord value → IsRegs (with_reg_if b regs i value)
regs_with_if true regs i value are small = regs_with regs i value are small
regs_with_if false regs i value are small = are

pub new_regs_are : (regs : Regs) (flags stack tls : ℕ) → IsRegs regs → IsWord stack → IsWord tls → IsRegs (new_regs regs flags stack tls)
new_regs_are regs flags stack tls are first second =
    regs_with _ A0 0 (regs_with_if (has_flag flags CLONE_SETTLS) _ TP tls (regs_with_if (not (stack == 0)) regs SP stack are first) second) (omega arith)

new_thread_is : (caller : ThreadPart) (flags stack tls child_tid : ℕ) → IsThread caller → IsWord stack → IsWord tls → IsWord child_tid → IsThread (new_thread caller flags stack tls child_tid)
new_thread_is caller flags stack tls child_tid is first second third = record {
  regs = new_regs_are caller.regs flags stack tls is.regs first second;
  mask = is.mask;
  clear_tid = either_word (has_flag flags CLONE_CHILD_CLEARTID) child_tid 0 third (omega arith);
  count = omega arith;
  contexts = All-nil _;
}

module _ (user : UserPart) (t new flags stack tls child_tid : ℕ) (is : IsUser user) (number : IsWord new) (absent : map.get user.threads new ≡ None) (few : map.len user.threads < 64)
    (first : IsWord stack) (second : IsWord tls) (third : IsWord child_tid) where
  begins_by : (found : Option ThreadPart) → map.get user.threads t ≡ found → is_some found ≡ true → HasThreads user (with_new_thread_by user new flags stack tls child_tid found) (with_one (Some new))
  begins_by None there some = cc
  begins_by (Some caller) there some = record {
    user = thread_more user is new (new_thread caller flags stack tls child_tid) absent few number (new_thread_is caller flags stack tls child_tid (is.threads t caller there) first second third);
    threads = λ u. there_with user.threads new u (new_thread caller flags stack tls child_tid);
  }

  pub thread_begins : is_some (map.get user.threads t) ≡ true → HasThreads user (with_new_thread user t new flags stack tls child_tid) (with_one (Some new))
  unfolding with_new_thread
  thread_begins there = begins_by (map.get user.threads t) refl there
