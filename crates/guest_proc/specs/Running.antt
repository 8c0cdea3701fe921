-- What a stop of a run tells of its thread.
use Rattle.plain_process.specs.declared.regs.Regs.{Regs}
use Rattle.call_table.specs.Requests.{request_of}
use Rattle.guest_start.specs.declared.run.Stop.{Stop}
use Rattle.guest_start.specs.declared.run.Stop.TheVariants.{Quantum, Call, Trap}
use Rattle.guest_proc.specs.declared.ran.Ran.{Ran}
use Rattle.guest_proc.specs.declared.ran.Ran.TheVariants.{Whole as RanWhole, Asks as RanAsks, Trapped as RanTrapped}

abbrev pub ran_told : Stop → Regs → Ran
ran_told Quantum regs = RanWhole
ran_told Call regs = RanAsks (request_of regs.x)
ran_told (Trap signal) regs = RanTrapped signal
