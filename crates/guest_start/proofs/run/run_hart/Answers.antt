use Rattle.std.proofs.Common.{ℕ, ◌+◌, subst, arith}
use Rattle.guest_start.specs.Running.{HasRun}
use Rattle.guest_start.proofs.Runs.{none_yet, one_more, run_on, stays}
use Rattle.guest_start.proofs.run.run_hart.Goals as goal

pub loop-count-init : goal.loop-count-init
loop-count-init c = record { within = omega arith; run = none_yet c.args.hart.now c.args.ram.now }

pub loop-count-preserved : goal.loop-count-preserved
loop-count-preserved c =
    let first = c.args.hart.now in
    let ram = c.loop-count.ram in
    let after = c.stretch-count.new.ram in
    let stretched = run_on c.loop-count.count c.stretch-count.result first c.args.ram.now c.loop-count.hart ram c.stretch-count.new.regs after c.loop-count.invariant.run c.stretch-count.ensures.run in
    record {
      within = omega (arith, c.loop-count-test.true, c.stretch-count.ensures.count, c.if-count-quantum.false);
      run = one_more (c.loop-count.count + c.stretch-count.result) first c.args.ram.now c.stretch-count.new.regs after c.instruction_apart.new.regs c.instruction_apart.new.ram stretched c.in-Next.ensures.outcome;
    }

pub returns-in-Call-clause-run : goal.returns-in-Call-clause-run
returns-in-Call-clause-run c =
    let first = c.args.hart.now in
    let ram = c.loop-count.ram in
    let after = c.stretch-count.new.ram in
    let stretched = run_on c.loop-count.count c.stretch-count.result first c.args.ram.now c.loop-count.hart ram c.stretch-count.new.regs after c.loop-count.invariant.run c.stretch-count.ensures.run in
    stays (c.loop-count.count + c.stretch-count.result) first c.args.ram.now c.stretch-count.new.regs after c.instruction_apart.new.regs c.instruction_apart.new.ram stretched c.in-Call.ensures.regs c.in-Call.ensures.ram

pub returns-in-Trap-clause-run : goal.returns-in-Trap-clause-run
returns-in-Trap-clause-run c =
    let first = c.args.hart.now in
    let ram = c.loop-count.ram in
    let after = c.stretch-count.new.ram in
    let stretched = run_on c.loop-count.count c.stretch-count.result first c.args.ram.now c.loop-count.hart ram c.stretch-count.new.regs after c.loop-count.invariant.run c.stretch-count.ensures.run in
    stays (c.loop-count.count + c.stretch-count.result) first c.args.ram.now c.stretch-count.new.regs after c.instruction_apart.new.regs c.instruction_apart.new.ram stretched c.in-Trap.ensures.regs c.in-Trap.ensures.ram

pub returns-then-count-quantum-clause-run : goal.returns-then-count-quantum-clause-run
returns-then-count-quantum-clause-run c =
    let first = c.args.hart.now in
    let ram = c.loop-count.ram in
    let after = c.stretch-count.new.ram in
    let stretched = run_on c.loop-count.count c.stretch-count.result first c.args.ram.now c.loop-count.hart ram c.stretch-count.new.regs after c.loop-count.invariant.run c.stretch-count.ensures.run in
    subst (λ (n : ℕ). HasRun n first c.args.ram.now c.stretch-count.new.regs after) c.if-count-quantum.true stretched
