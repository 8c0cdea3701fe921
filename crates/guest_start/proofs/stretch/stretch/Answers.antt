use Rattle.std.proofs.Common.{refl}
use Rattle.guest_start.proofs.Runs.{none_yet, stays}
use Rattle.guest_start.proofs.stretch.stretch.Goals as goal

pub returns-then-regs-ne0-clause-run : goal.returns-then-regs-ne0-clause-run
returns-then-regs-ne0-clause-run c = none_yet c.args.regs.now c.args.ram.now

pub returns-in_default-clause-run : goal.returns-in_default-clause-run
returns-in_default-clause-run c =
    let regs = c.args.regs.now in
    let ram = c.args.ram.now in
    stays 0 regs ram regs ram regs c.open.new.self (none_yet regs ram) refl (c.open.ensures.none c.in_default.is)
