use Rattle.rv_asm.proofs.Rings.{ring_accepted}
use Rattle.rv_asm.proofs.ring.ring_program.Goals as goal

pub returns-clause-accepted : goal.returns-clause-accepted
returns-clause-accepted c = ring_accepted
