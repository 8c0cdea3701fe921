-- What the outcome of an instruction tells of its effect.
--     IsOutcome outcome effect regs memory      the effect is the one told, with regs and memory after it
--     KeepsUnlessNext outcome old new      whatever didn't go on has left the value as it was
use Rattle.std.specs.Prelude.{◌≡◌}
use Rattle.plain_process.specs.declared.regs.Regs.{Regs}
use Rattle.plain_process.specs.Memory.{Memory}
use Rattle.plain_process.specs.Instructions.{Effect, Next, Calls, Traps}
use Rattle.rv_isa.specs.declared.outcome.Outcome.{Outcome}
use Rattle.rv_isa.specs.declared.outcome.Outcome.TheVariants.{Next as GoesOn, Call, Trap, Memory as NoMemory}

abbrev pub IsOutcome : Outcome → Effect → Regs → Memory → Type 0
IsOutcome GoesOn effect regs memory = effect ≡ Next regs memory
IsOutcome Call effect regs memory = effect ≡ Calls
IsOutcome (Trap signal) effect regs memory = effect ≡ Traps signal.0
IsOutcome NoMemory effect regs memory = Unit {0}

abbrev pub KeepsUnlessNext : {X : Type 0} → Outcome → X → X → Type 0
KeepsUnlessNext GoesOn old new = Unit {0}
KeepsUnlessNext Call old new = new ≡ old
KeepsUnlessNext (Trap signal) old new = new ≡ old
KeepsUnlessNext NoMemory old new = new ≡ old
