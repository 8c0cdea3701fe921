use Rattle.barrier_core.specs.declared.members.TheConstants.{MEMBER_LIMIT}
use Rattle.barrier_core.proofs.Closing.{join_keeps}
use Rattle.barrier_core.proofs.barrier.Barrier.joined.Goals as goal

pub invariant_of-self : goal.invariant_of-self
invariant_of-self c = join_keeps MEMBER_LIMIT (record { is_open = c.self.inside.is_open; members = c.self.inside.members }) c.args.self.now c.args.p c.insert.new.self c.self.view_is c.requires.early c.requires.child c.requires.room c.insert.ensures c.self.invariant

pub returns-clause-lawful : goal.returns-clause-lawful
returns-clause-lawful c = join_keeps MEMBER_LIMIT (record { is_open = c.self.inside.is_open; members = c.self.inside.members }) c.args.self.now c.args.p c.insert.new.self c.self.view_is c.requires.early c.requires.child c.requires.room c.insert.ensures c.self.invariant
