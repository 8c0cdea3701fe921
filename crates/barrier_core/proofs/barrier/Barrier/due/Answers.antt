use Rattle.std.proofs.Common.{◌∙◌}
use Rattle.barrier_core.proofs.Closing.{none_due, some_due}
use Rattle.barrier_core.proofs.barrier.Barrier.due.Goals as goal

pub returns-in_err-member : goal.returns-in_err-member
returns-in_err-member c = c.from_residual.ensures ∙ none_due (record { is_open = c.self.inside.is_open; members = c.self.inside.members }) c.args.self.now c.args.p c.self.view_is c.in_err-member.ensures

pub returns : goal.returns
returns c = some_due (record { is_open = c.self.inside.is_open; members = c.self.inside.members }) c.args.self.now c.args.p c.in_ok-member.member c.released-released.result c.due.result c.self.view_is c.released-released.ensures.released c.in_ok-member.ensures c.due.ensures
