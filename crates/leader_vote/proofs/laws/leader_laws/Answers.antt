use Rattle.leader_vote.proofs.Elections.{last_voter_leads, none_without_vote, votes_give_leaders, owners_alone, one_more_vote}
use Rattle.leader_vote.proofs.Holders.{tests_holders}
use Rattle.leader_vote.proofs.laws.leader_laws.Goals as goal

pub returns-clause-last : goal.returns-clause-last
returns-clause-last c = last_voter_leads

pub returns-clause-none : goal.returns-clause-none
returns-clause-none c = none_without_vote

pub returns-clause-leaders : goal.returns-clause-leaders
returns-clause-leaders c = votes_give_leaders

pub returns-clause-owners : goal.returns-clause-owners
returns-clause-owners c = owners_alone

pub returns-clause-one_more : goal.returns-clause-one_more
returns-clause-one_more c = one_more_vote

pub returns-clause-holders : goal.returns-clause-holders
returns-clause-holders c = tests_holders
