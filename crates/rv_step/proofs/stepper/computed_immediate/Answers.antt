use Rattle.std.proofs.Common.{◌/◌, ◌^◌, sym, ◌∙◌, subst, ◌==◌, ◌%◌, rules}
use Rattle.plain_process.specs.Instructions.{Effect}
use Rattle.rv_words.specs.Fields.{row_at}
use Rattle.rv_step.specs.Steps.{IsStep, regs_at}
use Rattle.rv_step.proofs.StepLaws.{immediate_effect}
use Rattle.rv_step.proofs.stepper.computed_immediate.Goals as goal

pub returns-clause-step : goal.returns-clause-step
returns-clause-step c = λ memory.
    let w = c.args.word in
    let x = c.args.x.now in
    let regs = regs_at x c.args.pc in
    let row = row_at 0x13 c.args.funct3 (w / 2 ^ 25) w in
    subst (λ (e : Effect). IsStep c.written.result e x c.written.new.x memory)
    (sym (immediate_effect row (c.args.funct3 % 4 == 1) w c.rd.result c.cast_unsigned-i.result c.cast_unsigned-amount.result c.first-a.result regs memory
    (c.of_immediate-value.ensures.format w) c.rd.ensures.value (search rules) (search rules) c.first-a.ensures
    ∙ c.of_immediate-value.ensures.value w c.rd.result 0 regs memory))
    (c.written.ensures.step memory)
