use Rattle.dmtcp_top.proofs.OneOrder.{one_order, one_trace, ends_there, one_end, one_ending, ends_so, one_answer}
use Rattle.dmtcp_top.proofs.OneRestart.{one_restart}
use Rattle.dmtcp_top.proofs.MissedRequests.{lacks_no_request}
use Rattle.drive.proofs.Standstill.{stands_still}
use Rattle.dmtcp_top.proofs.RoundTrips.{set_valid}
use Rattle.dmtcp_top.proofs.laws.order_laws.Goals as goal

pub returns-clause-order : goal.returns-clause-order
returns-clause-order c = one_order

pub returns-clause-trace : goal.returns-clause-trace
returns-clause-trace c = one_trace

pub returns-clause-over : goal.returns-clause-over
returns-clause-over c = ends_there

pub returns-clause-end : goal.returns-clause-end
returns-clause-end c = one_end

pub returns-clause-ending : goal.returns-clause-ending
returns-clause-ending c = one_ending

pub returns-clause-restart : goal.returns-clause-restart
returns-clause-restart c = one_restart

pub returns-clause-valid : goal.returns-clause-valid
returns-clause-valid c = set_valid

pub returns-clause-answer : goal.returns-clause-answer
returns-clause-answer c = one_answer

pub returns-clause-so : goal.returns-clause-so
returns-clause-so c = ends_so

pub returns-clause-due : goal.returns-clause-due
returns-clause-due c = lacks_no_request

pub returns-clause-still : goal.returns-clause-still
returns-clause-still c = stands_still
