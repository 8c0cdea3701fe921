-- Steps of a thread in a row, one after the other.
--     stops      where the thread stands once one doesn't go on, and that it makes no more
use Rattle.std.proofs.Common.{◌≡◌, ◌≢◌, ℕ, zero, suc, ◌+◌, ◌-◌, ◌<◌, refl, sym, ap, ◌∙◌, arith, add-zero, add-suc, add-one}
use Rattle.std.specs.Prelude.{Option, Some, None, option_and_then}
use Rattle.plain_process.specs.declared.user_part.UserPart.{UserPart}
use Rattle.plain_steps.specs.declared.steps.UserStep as place
use Rattle.plain_steps.specs.declared.steps.UserStep.TheVariants as at_place
use Rattle.plain_process.specs.Steps.{user_step, stepped, user_steps}
use Rattle.plain_process.proofs.StepsInRow.{steps_stopped}
use Rattle.plain_steps.specs.Results.{step_told, KeepsUnlessStepped, StopsAt}

abbrev Stops : ℕ → UserPart → ℕ → place.UserStep → UserPart → Type 0
Stops n user t place after = StopsAt n user t place after × (user_steps n user t ≡ None)

stops_there : (k n : ℕ) (user : UserPart) (t : ℕ) (before after : UserPart) (place : place.UserStep) → k < n → user_steps k user t ≡ Some before
    → user_step before t ≡ step_told place after → after ≡ before → stepped (step_told place after) ≡ None → Stops n user t place after
stops_there k n user t before after place fewer so_far is same stands = (
  record { count = k; fewer = fewer; steps = so_far ∙ ap (λ (u : UserPart). Some u) (sym same); stands = ap (λ (u : UserPart). user_step u t) same ∙ is },
  steps_stopped k n user t before fewer so_far (ap stepped is ∙ stands),
)

pub stops : (k n : ℕ) (user : UserPart) (t : ℕ) (before after : UserPart) (place : place.UserStep) → k < n → user_steps k user t ≡ Some before
    → user_step before t ≡ step_told place after → KeepsUnlessStepped place before after → place ≢ at_place.Stepped → Stops n user t place after
stops k n user t before after at_place.Stepped fewer so_far is keeps differs = absurd (differs refl)
stops k n user t before after (at_place.Asks q) fewer so_far is keeps differs = stops_there k n user t before after (at_place.Asks q) fewer so_far is keeps refl
stops k n user t before after (at_place.Trapped s) fewer so_far is keeps differs = stops_there k n user t before after (at_place.Trapped s) fewer so_far is keeps refl
stops k n user t before after at_place.Waits fewer so_far is keeps differs = stops_there k n user t before after at_place.Waits fewer so_far is keeps refl
stops k n user t before after at_place.NoThread fewer so_far is keeps differs = stops_there k n user t before after at_place.NoThread fewer so_far is keeps refl
