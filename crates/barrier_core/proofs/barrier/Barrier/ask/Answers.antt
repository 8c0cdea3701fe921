use Rattle.barrier_core.specs.declared.members.TheConstants.{MEMBER_LIMIT}
use Rattle.barrier_core.proofs.Closing.{ask_keeps}
use Rattle.barrier_core.proofs.barrier.Barrier.ask.Goals as goal

pub invariant_of-self : goal.invariant_of-self
invariant_of-self c = ask_keeps MEMBER_LIMIT c.args.live.now c.insert_all.new.into c.requires c.insert_all.ensures

pub returns-clause-lawful : goal.returns-clause-lawful
returns-clause-lawful c = ask_keeps MEMBER_LIMIT c.args.live.now c.insert_all.new.into c.requires c.insert_all.ensures
