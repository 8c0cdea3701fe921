-- Waking a thread, over plain variables.
--     awake_is        the thread goes on
use Rattle.std.proofs.Common.{◌≡◌, ℕ, refl}
use Rattle.std.specs.Prelude.{Option, Some, None}
use Rattle.std.specs.FinMap as map
use Rattle.plain_process.specs.declared.user_part.UserPart.{UserPart}
use Rattle.plain_process.specs.declared.user_part.ThreadPart.{ThreadPart}
use Rattle.plain_process.specs.Threads.{after_call, with_waiters, without_waiter, awake, awake_by}
use Rattle.thread_group.specs.Groups.{with_threads}
use Rattle.guest_threads.specs.Threads.{changed, changed_by}

by_found : (user : UserPart) (t : ℕ) (found : Option ThreadPart) → with_threads user (changed_by user.threads t (λ thread. after_call thread 0) found) ≡ awake_by user t found
by_found user t None = refl
by_found user t (Some thread) = refl

pub awake_is : (user : UserPart) (t : ℕ)
    → with_threads (with_waiters user (without_waiter t user.waiters)) (changed user.threads t (λ thread. after_call thread 0)) ≡ awake user t
unfolding awake
awake_is user t = by_found (with_waiters user (without_waiter t user.waiters)) t (map.get user.threads t)
