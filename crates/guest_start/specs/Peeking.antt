-- A memory that is looked at: the memory as it would be after the store that is remembered.
use Rattle.std.specs.Prelude.{◌≡◌, Option, Some, None, unwrap_or}
use Rattle.plain_process.specs.Memory.{Memory, store}
use Rattle.plain_process.specs.Instructions.{Effect, Next as ToNext, Calls, Traps}
use Rattle.rv_isa.specs.declared.outcome.Outcome.{Outcome}
use Rattle.rv_isa.specs.declared.outcome.Outcome.TheVariants.{Next, Call, Trap}
use Rattle.guest_start.specs.declared.peek.Peek.{Peek}
use Rattle.guest_start.specs.declared.peek.Pending.{Pending}

abbrev pub after_pending : Memory → Option Pending → Memory
after_pending memory None = memory
after_pending memory (Some p) = unwrap_or (store memory p.address p.size p.value) memory

abbrev pub memory_of : Peek → Memory
memory_of peek = after_pending peek.ram.now peek.pending

-- a store is remembered already
abbrev pub IsPending : Option Pending → Type 0
IsPending None = ⊥
IsPending (Some p) = Unit {0}

abbrev pub IsTaken : Peek → Type 0
IsTaken peek = IsPending peek.pending

-- what an outcome tells of an effect, whatever the effect leaves
abbrev pub IsOutcomeOf : Outcome → Effect → Type 0
IsOutcomeOf Next (ToNext regs memory) = Unit {0}
IsOutcomeOf Call effect = effect ≡ Calls
IsOutcomeOf (Trap signal) effect = effect ≡ Traps signal.0
IsOutcomeOf _ _ = ⊥
