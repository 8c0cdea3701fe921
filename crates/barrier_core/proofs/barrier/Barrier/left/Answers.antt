use Rattle.barrier_core.specs.declared.members.TheConstants.{MEMBER_LIMIT}
use Rattle.barrier_core.proofs.Closing.{leave_keeps}
use Rattle.barrier_core.proofs.barrier.Barrier.left.Goals as goal

pub invariant_of-self : goal.invariant_of-self
invariant_of-self c = leave_keeps MEMBER_LIMIT (record { is_open = c.self.inside.is_open; members = c.self.inside.members }) c.args.p c.remove.new.self c.remove.ensures c.self.invariant

pub returns-clause-lawful : goal.returns-clause-lawful
returns-clause-lawful c = leave_keeps MEMBER_LIMIT (record { is_open = c.self.inside.is_open; members = c.self.inside.members }) c.args.p c.remove.new.self c.remove.ensures c.self.invariant
