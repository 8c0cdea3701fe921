use Rattle.std.proofs.Common.{sym, subst, ◌∙◌}
use Rattle.std.specs.Prelude.{Contains}
use Rattle.staged_cut.specs.Suspended.{AreSuspended}
use Rattle.staged_cut.proofs.Votes.{entered_named}
use Rattle.staged_cut.proofs.draining.drain.Goals as goal

pub drain_suspended-requires : goal.drain_suspended-requires
drain_suspended-requires c =
    entered_named c.args.wrapped c.args.wrapped.next_id _ c.in-Ok-suspend.suspended c.args.live.now
    c.in-Ok-suspend.ensures.ok c.requires.listed

pub returns-in-Ok-suspend-clause-ok : goal.returns-in-Ok-suspend-clause-ok
returns-in-Ok-suspend-clause-ok c = (
  c.drain_suspended.ensures.kernel ∙ c.in-Ok-suspend.ensures.ok.kernel,
  c.drain_suspended.ensures.next ∙ c.in-Ok-suspend.ensures.ok.next,
)

pub returns-in-Ok-suspend-clause-suspended : goal.returns-in-Ok-suspend-clause-suspended
returns-in-Ok-suspend-clause-suspended c =
    subst (AreSuspended (Contains c.args.live.now))
    (sym (c.drain_suspended.ensures.barrier ∙ c.in-Ok-suspend.ensures.ok.barrier_is)) c.in-Ok.ensures
