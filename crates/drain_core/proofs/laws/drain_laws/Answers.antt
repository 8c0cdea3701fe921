use Rattle.drain_core.proofs.AgentSteps.{steps_at_ends, others_stay}
use Rattle.drain_core.proofs.Moving.{moved_fits, moved_work}
use Rattle.drain_core.proofs.RunLaws.{gives_what_stood, ends_in_time}
use Rattle.drain_core.proofs.laws.drain_laws.Goals as goal

pub returns-clause-steps : goal.returns-clause-steps
returns-clause-steps c = steps_at_ends

pub returns-clause-others : goal.returns-clause-others
returns-clause-others c = others_stay

pub returns-clause-fits : goal.returns-clause-fits
returns-clause-fits c = moved_fits

pub returns-clause-lowers : goal.returns-clause-lowers
returns-clause-lowers c = moved_work

pub returns-clause-whole : goal.returns-clause-whole
returns-clause-whole c = gives_what_stood

pub returns-clause-ends : goal.returns-clause-ends
returns-clause-ends c = ends_in_time
