use Rattle.std.proofs.Common.{ap, ◌∙◌}
use Rattle.seen_kernel.specs.Seen.{all_in}
use Rattle.staged_cut.proofs.GoingOn.{whole_already}
use Rattle.staged_cut.proofs.holding.drained_of.Goals as goal

pub returns-in-Ok-kernel-clause-ok : goal.returns-in-Ok-kernel-clause-ok
returns-in-Ok-kernel-clause-ok c = (
  c.in-Ok.ensures.ok.0,
  c.in-Ok-kernel.ensures ∙ ap all_in c.in-Ok.ensures.ok.0 ∙ whole_already c.args.wrapped c.requires.arrived,
)

pub returns-in-Err-kernel-clause-err : goal.returns-in-Err-kernel-clause-err
returns-in-Err-kernel-clause-err c =
    c.refill.ensures.0 ∙ ap all_in c.in-Ok.ensures.ok.0 ∙ whole_already c.args.wrapped c.requires.arrived
