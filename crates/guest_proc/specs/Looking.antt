-- Where a thread with these registers stands, by what its next instruction does.
use Rattle.call_table.specs.Requests.{request_of}
use Rattle.plain_process.specs.declared.regs.Regs.{Regs}
use Rattle.plain_process.specs.Instructions.{Effect, Next, Calls, Traps}
use Rattle.guest_proc.specs.declared.ran.Ran.{Ran}
use Rattle.guest_proc.specs.declared.ran.Ran.TheVariants.{Whole, Asks, Trapped}

abbrev pub ran_by : Effect → Regs → Ran
ran_by (Next regs' memory) regs = Whole
ran_by Calls regs = Asks (request_of regs.x)
ran_by (Traps s) regs = Trapped (record { 0 = s })
