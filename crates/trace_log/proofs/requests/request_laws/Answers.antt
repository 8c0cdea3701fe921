use Rattle.trace_log.proofs.RequestFronts.{goes_on, goes_on_by_one, has_fronts, is_a_run}
use Rattle.trace_log.proofs.RequestMarks.{has_no_marks, is_each_without_marks}
use Rattle.trace_log.proofs.RequestCounts.{counts_work, counts_cuts}
use Rattle.trace_log.proofs.RequestCuts.{cuts_are_cuts, cuts_differ, no_channels}
use Rattle.trace_log.proofs.RequestPhases.{begins, requests_at_multiples, at_most_two, marks_follow_cuts}
use Rattle.trace_log.proofs.RequestOutcomes.{outcomes_fit, only_last_is_open, stays_open}
use Rattle.trace_log.proofs.LogLines.{log_grows}
use Rattle.trace_log.proofs.requests.request_laws.Goals as goal

pub returns-clause-joins : goal.returns-clause-joins
returns-clause-joins c = goes_on

pub returns-clause-goes_on : goal.returns-clause-goes_on
returns-clause-goes_on c = goes_on_by_one

pub returns-clause-fronts : goal.returns-clause-fronts
returns-clause-fronts c = has_fronts

pub returns-clause-run : goal.returns-clause-run
returns-clause-run c = is_a_run

pub returns-clause-no_marks : goal.returns-clause-no_marks
returns-clause-no_marks c = has_no_marks

pub returns-clause-without_marks : goal.returns-clause-without_marks
returns-clause-without_marks c = is_each_without_marks

pub returns-clause-log : goal.returns-clause-log
returns-clause-log c = log_grows

pub returns-clause-work : goal.returns-clause-work
returns-clause-work c = counts_work

pub returns-clause-cuts : goal.returns-clause-cuts
returns-clause-cuts c = counts_cuts

pub returns-clause-are_cuts : goal.returns-clause-are_cuts
returns-clause-are_cuts c = cuts_are_cuts

pub returns-clause-differ : goal.returns-clause-differ
returns-clause-differ c = cuts_differ

pub returns-clause-no_channels : goal.returns-clause-no_channels
returns-clause-no_channels c = no_channels

pub returns-clause-begins : goal.returns-clause-begins
returns-clause-begins c = begins

pub returns-clause-multiples : goal.returns-clause-multiples
returns-clause-multiples c = requests_at_multiples

pub returns-clause-two : goal.returns-clause-two
returns-clause-two c = at_most_two

pub returns-clause-marks : goal.returns-clause-marks
returns-clause-marks c = marks_follow_cuts

pub returns-clause-outcomes : goal.returns-clause-outcomes
returns-clause-outcomes c = outcomes_fit

pub returns-clause-last_open : goal.returns-clause-last_open
returns-clause-last_open c = only_last_is_open

pub returns-clause-stays_open : goal.returns-clause-stays_open
returns-clause-stays_open c = stays_open
