use Rattle.std.proofs.Common.{◌<◌, ◌^◌, subst, sym, ap}
use Rattle.plain_process.specs.Instructions.{Encoding}
use Rattle.plain_steps.proofs.FieldBounds.{opcode_fits, funct3_fits, funct7_fits}
use Rattle.plain_steps.proofs.table.encoding.Goals as goal

pub returns-clause-opcode : goal.returns-clause-opcode
returns-clause-opcode c =
    subst (λ n. n < 2 ^ 24) (sym (ap (λ (e : Encoding). e.opcode) c.fixed_fields.ensures)) (opcode_fits c.args.op)

pub returns-clause-funct3 : goal.returns-clause-funct3
returns-clause-funct3 c =
    subst (λ n. n < 8) (sym (ap (λ (e : Encoding). e.funct3) c.fixed_fields.ensures)) (funct3_fits c.args.op)

pub returns-clause-funct7 : goal.returns-clause-funct7
returns-clause-funct7 c =
    subst (λ n. n < 2 ^ 7) (sym (ap (λ (e : Encoding). e.funct7) c.fixed_fields.ensures)) (funct7_fits c.args.op)
