use Rattle.guest_start.specs.Running.{HasRun}
use Rattle.rv_step.specs.Steps.{IsZeroHeld, regs_at}
use Rattle.guest_start.proofs.stretch.stretch_in.Given as goal

abbrev pub invariant-loop-count : goal.invariant-loop-count
invariant-loop-count l = record {
  run : HasRun l.count l.initial.regs l.initial.ram (regs_at l.regs.x l.pc) l.ram;
  zero : IsZeroHeld l.regs.x;
}
