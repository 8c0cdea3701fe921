use Rattle.std.proofs.Common.{ap, ◌∙◌}
use Rattle.std.specs.FinMap as map
use Rattle.virt_ids.specs.OfSysAbi.Signals.{with_signal}
use Rattle.virt_ids.proofs.Lends.{changed-found}
use Rattle.proc_book.proofs.process.raise_at.Goals as goal
use Rattle.views.proofs.Outcomes.{on_some}

pub returns-in-Some : goal.returns-in-Some
returns-in-Some c =
    on_some c.in-Some.is (c.get_mut.follows.holds c.with_signal.result) ∙ ap (map.insert c.args.threads.now c.args.t) c.with_signal.ensures
    ∙ changed-found c.args.threads.now c.args.t (λ set. with_signal set c.args.s.0) c.in-Some.set.now c.in-Some.ensures.value
