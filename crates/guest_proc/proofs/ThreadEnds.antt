-- The end of a thread, by the word that it is to clear.
use Rattle.std.proofs.Common.{◌≡◌, ℕ, ap}
use Rattle.std.specs.Prelude.{Option, Some, None, option_map}
use Rattle.std.specs.FinMap as map
use Rattle.plain_process.specs.declared.user_part.UserPart.{UserPart}
use Rattle.plain_process.specs.declared.user_part.ThreadPart.{ThreadPart}
use Rattle.plain_process.specs.Threads.{without_thread, after_clearing, thread_end_by, after_thread_end}

none_found : (user : UserPart) (t : ℕ) (found : Option ThreadPart) → option_map (λ thread. thread.clear_tid) found ≡ None → user ≡ thread_end_by user t found
none_found user t None none = λ i. user
none_found user t (Some thread) none = cc

pub ends_nothing : (user : UserPart) (t : ℕ) → option_map (λ thread. thread.clear_tid) (map.get user.threads t) ≡ None → user ≡ after_thread_end user t
unfolding after_thread_end
ends_nothing user t none = none_found user t (map.get user.threads t) none

some_found : (user : UserPart) (t address : ℕ) (found : Option ThreadPart) → option_map (λ thread. thread.clear_tid) found ≡ Some address
    → after_clearing (without_thread user t) address ≡ thread_end_by user t found
some_found user t address None some = cc
some_found user t address (Some thread) some = ap (after_clearing (without_thread user t)) (let same : address ≡ thread.clear_tid = cc in same)

pub ends_thread : (user : UserPart) (t address : ℕ) → option_map (λ thread. thread.clear_tid) (map.get user.threads t) ≡ Some address
    → after_clearing (without_thread user t) address ≡ after_thread_end user t
unfolding after_thread_end
ends_thread user t address some = some_found user t address (map.get user.threads t) some
