-- Steps of a thread in a row, one after the other.
--     steps_stopped      once one doesn't go on there are no more
use Rattle.std.proofs.Common.{◌≡◌, ℕ, zero, suc, ◌+◌, ◌-◌, ◌<◌, refl, sym, ap, ◌∙◌, arith, add-zero, add-suc, add-one}
use Rattle.std.specs.Prelude.{Option, Some, None, option_and_then}
use Rattle.plain_process.specs.declared.user_part.UserPart.{UserPart}
use Rattle.plain_process.specs.Steps.{user_step, stepped, user_steps}

abbrev next_of : ℕ → Option UserPart → Option UserPart
next_of t found = option_and_then (λ before. stepped (user_step before t)) found

after_one : (n : ℕ) (user : UserPart) (t : ℕ) → user_steps (n + 1) user t ≡ next_of t (user_steps n user t)
unfolding user_steps
after_one n user t = ap (λ k. user_steps k user t) (add-one n)

none-further : (n k : ℕ) (user : UserPart) (t : ℕ) → user_steps n user t ≡ None → user_steps (n + k) user t ≡ None
unfolding user_steps
none-further n zero user t none = ap (λ i. user_steps i user t) (add-zero n) ∙ none
none-further n (suc k) user t none = ap (λ i. user_steps i user t) (add-suc n k) ∙ ap (next_of t) (none-further n k user t none)

-- a step that doesn't go on ends them
pub steps_stopped : (k n : ℕ) (user : UserPart) (t : ℕ) (before : UserPart) → k < n → user_steps k user t ≡ Some before → stepped (user_step before t) ≡ None → user_steps n user t ≡ None
steps_stopped k n user t before fewer so_far stands =
    let whole : n ≡ k + 1 + (n - (k + 1)) = omega arith in
    ap (λ i. user_steps i user t) whole ∙ none-further (k + 1) (n - (k + 1)) user t (after_one k user t ∙ ap (next_of t) so_far ∙ stands)
