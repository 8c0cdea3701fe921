use Rattle.thread_group.proofs.LocalThreads.{nothing_popped, context_restored}
use Rattle.thread_group.proofs.group.ThreadGroup.sigreturn.Goals as goal

pub returns-in_default-clause-row : goal.returns-in_default-clause-row
returns-in_default-clause-row c memory thread there =
    nothing_popped memory c.args.self.now c.pop_context.new.self c.args.t.0 thread there (c.in_default.ensures.last thread there) c.in_default.ensures.rest

pub returns-clause-row : goal.returns-clause-row
returns-clause-row c memory thread there =
    context_restored memory c.args.self.now c.put_mask.new.self c.pop_context.new.self c.set_regs.new.self c.args.t.0 thread c.in-Some.context there
    (c.in-Some.ensures.last thread there) c.in-Some.ensures.rest c.set_regs.ensures c.put_mask.ensures
