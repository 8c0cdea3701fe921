use Rattle.refill_core.proofs.Moving.{moved_fits, moved_work}
use Rattle.refill_core.proofs.Bytes.{whereabouts_is}
use Rattle.refill_core.proofs.Starting.{begins_fit}
use Rattle.refill_core.proofs.StepLaws.{steps_at_ends}
use Rattle.refill_core.proofs.RunLaws.{gives_back, ends_in_time}
use Rattle.refill_core.proofs.laws.refill_laws.Goals as goal

pub returns-clause-steps : goal.returns-clause-steps
returns-clause-steps c = steps_at_ends

pub returns-clause-fits : goal.returns-clause-fits
returns-clause-fits c = moved_fits

pub returns-clause-lowers : goal.returns-clause-lowers
returns-clause-lowers c = moved_work

pub returns-clause-begins : goal.returns-clause-begins
returns-clause-begins c = begins_fit

pub returns-clause-holds : goal.returns-clause-holds
returns-clause-holds c = whereabouts_is

pub returns-clause-whole : goal.returns-clause-whole
returns-clause-whole c = gives_back

pub returns-clause-ends : goal.returns-clause-ends
returns-clause-ends c = ends_in_time
