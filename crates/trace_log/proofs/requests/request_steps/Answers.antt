use Rattle.trace_log.proofs.RequestSteps.{mark_stays, stands_alone, arrives, arrives_meanwhile, works_meanwhile, lapses, is_refused_for_kind, is_refused, is_cut_now, passes_drained, passes_refilled, completes, fails_after_cut}
use Rattle.trace_log.proofs.requests.request_steps.Goals as goal

pub returns-clause-stays : goal.returns-clause-stays
returns-clause-stays c = mark_stays

pub returns-clause-alone : goal.returns-clause-alone
returns-clause-alone c = stands_alone

pub returns-clause-arrives : goal.returns-clause-arrives
returns-clause-arrives c = arrives

pub returns-clause-arrives_meanwhile : goal.returns-clause-arrives_meanwhile
returns-clause-arrives_meanwhile c = arrives_meanwhile

pub returns-clause-works_meanwhile : goal.returns-clause-works_meanwhile
returns-clause-works_meanwhile c = works_meanwhile

pub returns-clause-lapses : goal.returns-clause-lapses
returns-clause-lapses c = lapses

pub returns-clause-refused_for_kind : goal.returns-clause-refused_for_kind
returns-clause-refused_for_kind c = is_refused_for_kind

pub returns-clause-refused : goal.returns-clause-refused
returns-clause-refused c = is_refused

pub returns-clause-cut : goal.returns-clause-cut
returns-clause-cut c = is_cut_now

pub returns-clause-drained : goal.returns-clause-drained
returns-clause-drained c = passes_drained

pub returns-clause-refilled : goal.returns-clause-refilled
returns-clause-refilled c = passes_refilled

pub returns-clause-completes : goal.returns-clause-completes
returns-clause-completes c = completes

pub returns-clause-fails : goal.returns-clause-fails
returns-clause-fails c = fails_after_cut
