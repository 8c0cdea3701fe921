-- What the functions return, in the words of the definitions.
--     format_told, encoding_told          a row of the instruction table
--     effect_told told regs memory        an effect, where regs and memory stand after it
--     step_told told user                 where a thread stands, where user is the part after its step
--     steps_told told user                the part after steps in a row, if there were so many
--     KeepsUnlessNext, KeepsUnlessStepped      what didn't go on has left the value as it was
--     StopsAt n user t place after        the thread goes on fewer than n times, to a part in which it stands at a place and doesn't
use Rattle.std.specs.Prelude.{◌≡◌, ℕ, ◌<◌, Option, Some, None, Result, Ok, Err}
use Rattle.plain_process.specs.declared.regs.Regs.{Regs}
use Rattle.plain_process.specs.declared.user_part.UserPart.{UserPart}
use Rattle.plain_steps.specs.declared.format.Format as format
use Rattle.plain_steps.specs.declared.format.Format.TheVariants as of_format
use Rattle.plain_steps.specs.declared.format.Encoding as row
use Rattle.plain_steps.specs.declared.effect.Effect as effect
use Rattle.plain_steps.specs.declared.effect.Effect.TheVariants as of_effect
use Rattle.plain_steps.specs.declared.steps.UserStep as place
use Rattle.plain_steps.specs.declared.steps.UserStep.TheVariants as at_place
use Rattle.plain_process.specs.Memory.{Memory}
use Rattle.plain_process.specs.Instructions.{Format, R, I, S, B, U, J, Shift, Whole, Encoding, as_encoding, Effect, Next, Calls, Traps}
use Rattle.plain_process.specs.Steps.{UserStep, Stepped, Asks, Trapped, Waits, NoThread, user_step, user_steps}

abbrev pub format_told : format.Format → Format
format_told of_format.R = R
format_told of_format.I = I
format_told of_format.S = S
format_told of_format.B = B
format_told of_format.U = U
format_told of_format.J = J
format_told of_format.Shift = Shift
format_told of_format.Whole = Whole

abbrev pub encoding_told : row.Encoding → Encoding
encoding_told told = as_encoding (format_told told.format) told.opcode told.funct3 told.funct7

abbrev pub effect_told : effect.Effect → Regs → Memory → Effect
effect_told of_effect.Next regs memory = Next regs memory
effect_told of_effect.Calls regs memory = Calls
effect_told (of_effect.Traps signal) regs memory = Traps signal.0

abbrev pub KeepsUnlessNext : {X : Type 0} → effect.Effect → X → X → Type 0
KeepsUnlessNext of_effect.Next old new = Unit {0}
KeepsUnlessNext of_effect.Calls old new = new ≡ old
KeepsUnlessNext (of_effect.Traps signal) old new = new ≡ old

abbrev pub step_told : place.UserStep → UserPart → UserStep
step_told at_place.Stepped user = Stepped user
step_told (at_place.Asks request) user = Asks request
step_told (at_place.Trapped signal) user = Trapped signal.0
step_told at_place.Waits user = Waits
step_told at_place.NoThread user = NoThread

abbrev pub KeepsUnlessStepped : place.UserStep → UserPart → UserPart → Type 0
KeepsUnlessStepped at_place.Stepped old new = Unit {0}
KeepsUnlessStepped (at_place.Asks request) old new = new ≡ old
KeepsUnlessStepped (at_place.Trapped signal) old new = new ≡ old
KeepsUnlessStepped at_place.Waits old new = new ≡ old
KeepsUnlessStepped at_place.NoThread old new = new ≡ old

abbrev pub steps_told : {X : Type 0} → Result X place.UserStep → UserPart → Option UserPart
steps_told (Ok done) user = Some user
steps_told (Err place) user = None

pub record StopsAt (n : ℕ) (user : UserPart) (t : ℕ) (place : place.UserStep) (after : UserPart) : Type 0 where
  pub count : ℕ
  pub fewer : count < n
  pub steps : user_steps count user t ≡ Some after
  pub stands : user_step after t ≡ step_told place after
