-- Instructions in a row, as the loop of a run sees them.
--     HasRun n regs memory regs' memory'    so many instructions lead from the one to the other
--     IsStop stop effect                    what a stop tells of the next instruction
use Rattle.std.specs.Prelude.{◌≡◌, ℕ, Some}
use Rattle.plain_process.specs.declared.regs.Regs.{Regs}
use Rattle.plain_process.specs.Memory.{Memory}
use Rattle.plain_process.specs.Instructions.{Effect, Calls, Traps}
use Rattle.plain_process.specs.Steps.{Running, instructions}
use Rattle.guest_start.specs.declared.run.Stop.{Stop}
use Rattle.guest_start.specs.declared.run.Stop.TheVariants.{Quantum, Call, Trap}

abbrev pub running : Regs → Memory → Running
running regs memory = record { regs = regs; memory = memory }

abbrev pub HasRun : ℕ → Regs → Memory → Regs → Memory → Type 0
HasRun n regs memory regs' memory' = instructions n regs memory ≡ Some (running regs' memory')

abbrev pub IsStop : Stop → Effect → Type 0
IsStop Quantum effect = Unit {0}
IsStop Call effect = effect ≡ Calls
IsStop (Trap signal) effect = effect ≡ Traps signal.0
