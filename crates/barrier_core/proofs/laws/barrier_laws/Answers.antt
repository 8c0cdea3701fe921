use Rattle.barrier_core.proofs.Histories.{lawful_run, members_run, messages_run, messages_first}
use Rattle.barrier_core.proofs.laws.barrier_laws.Goals as goal

pub returns-clause-in_step : goal.returns-clause-in_step
returns-clause-in_step c = lawful_run

pub returns-clause-members : goal.returns-clause-members
returns-clause-members c = members_run

pub returns-clause-messages : goal.returns-clause-messages
returns-clause-messages c = messages_run

pub returns-clause-in_order : goal.returns-clause-in_order
returns-clause-in_order c = messages_first
