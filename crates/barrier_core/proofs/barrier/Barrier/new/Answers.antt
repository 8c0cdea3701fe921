use Rattle.barrier_core.specs.declared.members.TheConstants.{MEMBER_LIMIT}
use Rattle.barrier_core.proofs.Closing.{rests}
use Rattle.barrier_core.proofs.barrier.Barrier.new.Goals as goal

pub invariant_of-result : goal.invariant_of-result
invariant_of-result c = rests MEMBER_LIMIT c.in_ok-new.field-0 c.in_ok-new.ensures
