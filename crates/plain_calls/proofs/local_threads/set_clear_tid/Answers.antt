use Rattle.std.proofs.Common.{◌≡◌, subst}
use Rattle.std.specs.Prelude.{IfSome}
use Rattle.std.specs.FinMap as map
use Rattle.plain_process.specs.declared.user_part.ThreadPart.{ThreadPart}
use Rattle.plain_process.specs.Local.{with_clear_tid}
use Rattle.views.proofs.Outcomes.{on_some}
use Rattle.plain_calls.proofs.local_threads.set_clear_tid.Goals as goal

pub returns-in-Some-clause-there : goal.returns-in-Some-clause-there
returns-in-Some-clause-there c =
    let written = on_some c.in-Some.is (c.get_mut.follows.holds (with_clear_tid c.in-Some.thread.now c.args.place)) in
    subst (λ found. IfSome found (λ (thread : ThreadPart). c.get_mut.follows.lender (with_clear_tid c.in-Some.thread.now c.args.place) ≡ map.insert c.args.threads.now c.args.t.0 (with_clear_tid thread c.args.place)))
    c.in-Some.ensures.value written
