use Rattle.std.proofs.Common.{refl}
use Rattle.plain_process.specs.Instructions.{Next}
use Rattle.rv_step.specs.Steps.{regs_at}
use Rattle.guest_start.proofs.Runs.{none_yet, one_more, at_word}
use Rattle.guest_start.proofs.stretch.stretch_in.Goals as goal

pub loop-count-init : goal.loop-count-init
loop-count-init c = record { run = none_yet c.args.regs.now c.args.ram.now; zero = c.requires }

pub loop-count-preserved : goal.loop-count-preserved
loop-count-preserved c =
    let ram = c.loop-count.ram in
    let before = regs_at c.loop-count.regs.x c.loop-count.pc in
    let after = regs_at c.step.new.x c.in-Some-step.next in
    record {
      run = one_more c.loop-count.count c.args.regs.now c.args.ram.now before ram after c.step.new.memory c.loop-count.invariant.run
          (at_word before ram ram c.in-Some.word (Next after c.step.new.memory) refl c.in-Some.ensures c.in-Some-step.ensures.step);
      zero = c.in-Some-step.ensures.zero;
    }
