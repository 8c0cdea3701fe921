use Rattle.std.proofs.Common.{◌≡◌, ℕ, ◌+◌, ◌*◌, ◌/◌, ◌%◌, ◌^◌, Option, sym, subst, ◌∙◌, arith}
use Rattle.std.specs.Option.{option_map}
use Rattle.plain_process.specs.declared.instruction.Op.{Op}
use Rattle.plain_process.specs.Instructions.{decoded}
use Rattle.plain_process.specs.Steps.{effect_of_insn}
use Rattle.rv_words.specs.Fields.{row_at, with_operands}
use Rattle.rv_step.specs.Steps.{IsStep, regs_at}
use Rattle.rv_words.proofs.Fields.{row_of-fields}
use Rattle.rv_step.proofs.stepper.step.Goals as goal

-- the fields of a word from its key
opcode : (w : ℕ) → w % 4 ≡ 3 → 4 * ((w / 4 % 32 + w / 4096 % 8 * 32) % 32) + 3 ≡ w % 128
opcode w whole = omega arith

funct3 : (w : ℕ) → (w / 4 % 32 + w / 4096 % 8 * 32) / 32 ≡ w / 4096 % 8
funct3 w = omega arith

pub returns-clause-step : goal.returns-clause-step
unfolding decoded
returns-clause-step g c =
    let w = c.args.word in
    let memory = g.M.GuestMemory.memory c.args.memory.now in
    let after = g.M.GuestMemory.memory c.step_by.new.memory in
    let row = (λ i. row_at (opcode w (omega arith) i) (funct3 w i) (w / 2 ^ 25) w) ∙ sym (row_of-fields w c.ranges.word.fits) in
    subst (λ (row : Option Op). IsStep c.step_by.result (effect_of_insn (option_map (with_operands w) row) (regs_at c.args.x.now c.args.pc) memory) c.args.x.now c.step_by.new.x after)
    row c.step_by.ensures.step
