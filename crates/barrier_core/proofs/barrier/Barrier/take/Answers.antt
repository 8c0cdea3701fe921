use Rattle.std.proofs.Common.{◌∙◌}
use Rattle.std.specs.Prelude.{Some}
use Rattle.barrier_core.specs.declared.members.TheConstants.{MEMBER_LIMIT}
use Rattle.barrier_core.proofs.Closing.{take_keeps, take_none}
use Rattle.barrier_core.proofs.barrier.Barrier.take.Goals as goal

pub invariant_of-self : goal.invariant_of-self
invariant_of-self c = take_keeps MEMBER_LIMIT (record { is_open = c.self.inside.is_open; members = c.self.inside.members }) c.args.self.now c.args.p c.in_ok-message.message c.set_taken.new.self c.self.view_is c.in_ok-message.ensures c.set_taken.ensures c.self.invariant

pub returns-clause-lawful : goal.returns-clause-lawful
returns-clause-lawful c = take_keeps MEMBER_LIMIT (record { is_open = c.self.inside.is_open; members = c.self.inside.members }) c.args.self.now c.args.p c.in_ok-message.message c.set_taken.new.self c.self.view_is c.in_ok-message.ensures c.set_taken.ensures c.self.invariant

pub returns-in_err-message-clause-none : goal.returns-in_err-message-clause-none
returns-in_err-message-clause-none c = take_none c.args.self.now c.args.p c.from_residual.result (c.from_residual.ensures ∙ c.in_err-message.ensures)

pub returns-clause-none : goal.returns-clause-none
returns-clause-none c = take_none c.args.self.now c.args.p (Some c.in_ok-message.message) c.in_ok-message.ensures
