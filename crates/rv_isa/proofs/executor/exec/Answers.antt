use Rattle.std.proofs.Common.{sym, subst}
use Rattle.plain_process.specs.Instructions.{Effect}
use Rattle.rv_isa.specs.Outcomes.{IsOutcome}
use Rattle.rv_isa.proofs.executor.exec.Goals as goal

pub returns-clause-outcome : goal.returns-clause-outcome
returns-clause-outcome g c =
    let memory = g.M.GuestMemory.memory c.args.memory.now in
    subst (λ (e : Effect). IsOutcome c.finish.result e c.finish.new.regs (g.M.GuestMemory.memory c.finish.new.memory))
    (sym (c.compute.ensures memory)) c.finish.ensures.outcome
