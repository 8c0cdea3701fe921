-- Threads that wait on a word, woken one after the other.
--     wake_none      nobody yet      wake_more, wake_done      one more in a row, and nobody left
use Rattle.std.proofs.Common.{◌≡◌, ℕ, zero, suc, ◌+◌, ◌-◌, ◌≤◌, refl, sym, ap, ◌∙◌, arith}
use Rattle.std.specs.Prelude.{Some, None}
use Rattle.plain_process.specs.declared.user_part.UserPart.{UserPart}
use Rattle.plain_process.specs.declared.user_part.Waiter.{Waiter}
use Rattle.plain_process.specs.Threads.{awake, first_waiter, woken_by, wake_one, wake}

pub wake_none : (address : ℕ) (user : UserPart) → wake 0 address user ≡ record { user = user; count = 0 }
unfolding wake
wake_none address user = refl

pub wake_more : (n address : ℕ) (user before after : UserPart) (waiter : Waiter) → wake n address user ≡ record { user = before; count = n } → first_waiter address before.waiters ≡ Some waiter
    → after ≡ awake before waiter.tid → wake (n + 1) address user ≡ record { user = after; count = n + 1 }
unfolding wake wake_one
wake_more n address user before after waiter so_far first is =
    let more : n + 1 ≡ suc n = omega arith in
    ap (λ k. wake k address user) more ∙ ap (wake_one address) so_far ∙ ap (woken_by (record { user = before; count = n })) first ∙ ap (λ u. record { user = u; count = n + 1 }) (sym is)

wake_past : (k n address : ℕ) (user after : UserPart) (woken : ℕ) → wake n address user ≡ record { user = after; count = woken } → first_waiter address after.waiters ≡ None
    → wake (k + n) address user ≡ record { user = after; count = woken }
unfolding wake wake_one
wake_past zero n address user after woken so_far none = ap (λ m. wake m address user) (let same : 0 + n ≡ n = omega arith in same) ∙ so_far
wake_past (suc k) n address user after woken so_far none =
    let more : suc k + n ≡ suc (k + n) = omega arith in
    ap (λ m. wake m address user) more ∙ ap (wake_one address) (wake_past k n address user after woken so_far none) ∙ ap (woken_by (record { user = after; count = woken })) none

-- nobody is left
pub wake_done : (n limit address : ℕ) (user after : UserPart) (woken : ℕ) → n ≤ limit → wake n address user ≡ record { user = after; count = woken } → first_waiter address after.waiters ≡ None
    → wake limit address user ≡ record { user = after; count = woken }
wake_done n limit address user after woken within so_far none =
    let all : limit ≡ (limit - n) + n = omega arith in
    ap (λ m. wake m address user) all ∙ wake_past (limit - n) n address user after woken so_far none
