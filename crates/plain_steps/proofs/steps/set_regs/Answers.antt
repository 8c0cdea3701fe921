use Rattle.std.proofs.Common.{◌≡◌, subst}
use Rattle.std.specs.Prelude.{IfSome}
use Rattle.std.specs.FinMap as map
use Rattle.plain_process.specs.declared.user_part.ThreadPart.{ThreadPart}
use Rattle.plain_process.specs.Steps.{with_regs}
use Rattle.views.proofs.Outcomes.{on_some}
use Rattle.plain_steps.proofs.steps.set_regs.Goals as goal

pub returns-in-Some-clause-there : goal.returns-in-Some-clause-there
returns-in-Some-clause-there c =
    let written = on_some c.in-Some.is (c.get_mut.follows.holds (with_regs c.in-Some.thread.now c.args.regs)) in
    subst (λ found. IfSome found (λ (thread : ThreadPart). c.get_mut.follows.lender (with_regs c.in-Some.thread.now c.args.regs) ≡ map.insert c.args.threads.now c.args.t.0 (with_regs thread c.args.regs)))
    c.in-Some.ensures.value written
