use Rattle.std.proofs.Common.{true, false}
use Rattle.barrier_core.specs.declared.members.TheConstants.{MEMBER_LIMIT}
use Rattle.barrier_core.proofs.Closing.{reach_keeps, reach_refused}
use Rattle.barrier_core.proofs.barrier.Barrier.reached.Goals as goal

pub invariant_of-self : goal.invariant_of-self
invariant_of-self c = reach_keeps MEMBER_LIMIT (record { is_open = c.self.inside.is_open; members = c.self.inside.members }) c.args.self.now c.args.p c.args.s c.set_reached.new.self c.self.view_is c.if-not-awaits.ensures c.set_reached.ensures c.self.invariant

pub returns-clause-lawful : goal.returns-clause-lawful
returns-clause-lawful c = reach_keeps MEMBER_LIMIT (record { is_open = c.self.inside.is_open; members = c.self.inside.members }) c.args.self.now c.args.p c.args.s c.set_reached.new.self c.self.view_is c.if-not-awaits.ensures c.set_reached.ensures c.self.invariant

pub returns-then-not-awaits-clause-refused : goal.returns-then-not-awaits-clause-refused
returns-then-not-awaits-clause-refused c = reach_refused c.args.self.now c.args.p c.args.s false c.if-not-awaits.ensures

pub returns-clause-refused : goal.returns-clause-refused
returns-clause-refused c = reach_refused c.args.self.now c.args.p c.args.s true c.if-not-awaits.ensures
