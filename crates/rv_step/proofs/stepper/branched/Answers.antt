use Rattle.std.proofs.Common.{refl, sym, ◌∙◌, subst, rules}
use Rattle.plain_process.specs.Instructions.{Effect, B}
use Rattle.rv_words.specs.Fields.{row_at}
use Rattle.rv_step.specs.Steps.{IsStep, regs_at}
use Rattle.rv_step.proofs.StepLaws.{row_effect}
use Rattle.rv_step.proofs.stepper.branched.Goals as goal

pub returns : goal.returns
returns c = λ g memory.
    let w = c.args.word in
    let x = c.args.x.now in
    let regs = regs_at x c.args.pc in
    let row = row_at 0x63 c.args.funct3 g w in
    subst (λ (e : Effect). IsStep c.turned.result e x x memory)
    (sym (row_effect row B w 0 c.cast_unsigned.result c.first-a.result c.second-b.result regs memory (c.is_taken-is_taken.ensures.format g w)
    refl (search rules) c.first-a.ensures c.second-b.ensures
    ∙ c.is_taken-is_taken.ensures.taken g w 0 c.cast_unsigned.result regs memory))
    (c.turned.ensures x memory)
