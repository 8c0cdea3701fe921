use Rattle.barrier_core.specs.declared.members.TheConstants.{MEMBER_LIMIT}
use Rattle.barrier_core.proofs.Closing.{rests}
use Rattle.barrier_core.proofs.barrier.Barrier.close.Goals as goal

pub invariant_of-self : goal.invariant_of-self
invariant_of-self c = rests MEMBER_LIMIT c.clear.new.self c.clear.ensures
