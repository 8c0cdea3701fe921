use Rattle.plain_machine.proofs.StepBounds.{step_keeps_valid}
use Rattle.plain_machine.proofs.StartKernels.{start_is_valid}
use Rattle.plain_machine.proofs.StartUsers.{start_user_is, read_is_launched}
use Rattle.plain_machine.proofs.UserBounds.{user_steps_keep_user, waiters_are_few}
use Rattle.plain_machine.proofs.PutBounds.{put_keeps_user, fault_keeps_user}
use Rattle.plain_machine.proofs.LocalBounds.{local_keeps_user}
use Rattle.plain_machine.proofs.DeliveryBounds.{delivery_keeps_user}
use Rattle.plain_machine.proofs.Requests.{asked_is_request}
use Rattle.plain_machine.proofs.Asking.{stands_asked, serve_adds}
use Rattle.plain_machine.proofs.EachRow.{each_is_served, ready_by_front}
use Rattle.plain_machine.proofs.RunLaws.{run_of_one_more, console_of_one_more}
use Rattle.plain_machine.proofs.Locality.{record_is_local}
use Rattle.plain_machine.proofs.Births.{births_are_forks, ends_are_own}
use Rattle.plain_machine.proofs.laws.run_laws.Goals as goal

pub returns-clause-local : goal.returns-clause-local
returns-clause-local c = record_is_local

pub returns-clause-births : goal.returns-clause-births
returns-clause-births c = births_are_forks

pub returns-clause-ends : goal.returns-clause-ends
returns-clause-ends c = ends_are_own

pub returns-clause-start : goal.returns-clause-start
returns-clause-start c = start_is_valid

pub returns-clause-valid : goal.returns-clause-valid
returns-clause-valid c = step_keeps_valid

pub returns-clause-run : goal.returns-clause-run
returns-clause-run c = run_of_one_more

pub returns-clause-console : goal.returns-clause-console
returns-clause-console c = console_of_one_more

pub returns-clause-launched : goal.returns-clause-launched
returns-clause-launched c = read_is_launched

pub returns-clause-user_start : goal.returns-clause-user_start
returns-clause-user_start c = start_user_is

pub returns-clause-user_steps : goal.returns-clause-user_steps
returns-clause-user_steps c = user_steps_keep_user

pub returns-clause-user_put : goal.returns-clause-user_put
returns-clause-user_put c = put_keeps_user

pub returns-clause-user_fault : goal.returns-clause-user_fault
returns-clause-user_fault c = fault_keeps_user

pub returns-clause-user_local : goal.returns-clause-user_local
returns-clause-user_local c = local_keeps_user

pub returns-clause-user_delivery : goal.returns-clause-user_delivery
returns-clause-user_delivery c = delivery_keeps_user

pub returns-clause-user_asks : goal.returns-clause-user_asks
returns-clause-user_asks c = asked_is_request

pub returns-clause-waiters : goal.returns-clause-waiters
returns-clause-waiters c = waiters_are_few

pub returns-clause-asked : goal.returns-clause-asked
returns-clause-asked c = stands_asked

pub returns-clause-served : goal.returns-clause-served
returns-clause-served c = each_is_served

pub returns-clause-ready : goal.returns-clause-ready
returns-clause-ready c = ready_by_front

pub returns-clause-adds : goal.returns-clause-adds
returns-clause-adds c = serve_adds
