use Rattle.std.proofs.Common.{◌/◌, ◌^◌, refl, sym, ◌∙◌, subst}
use Rattle.std.specs.Int.{w32, cast_signed}
use Rattle.plain_process.specs.Instructions.{Effect, R, immediate, word}
use Rattle.rv_words.specs.Fields.{row_at}
use Rattle.rv_step.specs.Steps.{IsStep, regs_at}
use Rattle.rv_step.proofs.StepLaws.{row_effect, registers_format}
use Rattle.rv_step.proofs.stepper.computed.Goals as goal

pub returns-clause-step : goal.returns-clause-step
returns-clause-step c = λ memory.
    let w = c.args.word in
    let x = c.args.x.now in
    let regs = regs_at x c.args.pc in
    let i = word (cast_signed w32 (immediate R w)) in
    let row = row_at 0x33 c.args.funct3 (w / 2 ^ 25) w in
    subst (λ (e : Effect). IsStep c.written.result e x c.written.new.x memory)
    (sym (row_effect row R w c.rd.result i c.first-a.result c.second-b.result regs memory (registers_format c.args.funct3 (w / 2 ^ 25) w)
    c.rd.ensures.value refl c.first-a.ensures c.second-b.ensures
    ∙ c.of_registers-value.ensures w c.rd.result i regs memory))
    (c.written.ensures.step memory)
