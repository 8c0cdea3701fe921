use Rattle.std.proofs.Common.{◌<◌, ◌≤◌, arith}
use Rattle.fd_tables.specs.Numbers.{first_above}
use Rattle.leader_vote.proofs.VotesCast.{voting_begun, voting_goes_on, voting_done, voter_leads}
use Rattle.leader_vote.proofs.election.vote.Goals as goal

pub loop-fd-init : goal.loop-fd-init
loop-fd-init c = voting_begun _ _

pub loop-fd-preserved : goal.loop-fd-preserved
loop-fd-preserved c =
    voting_goes_on c.args.book.now c.loop-fd.book c.vote_by.new.book c.args.p (first_above c.loop-fd.above) c.in-Some.fd.0 c.loop-fd.invariant c.in-Some.ensures
    c.vote_by.ensures.there c.vote_by.ensures.voted

pub loop-fd-smaller : goal.loop-fd-smaller
loop-fd-smaller c =
    let from_on : first_above c.loop-fd.above ≤ c.in-Some.fd.0 = c.in-Some.ensures.from_on in
    let in_range : c.in-Some.fd.0 < 256 = c.in-Some.ensures.in_range in
    omega arith

pub returns-clause-voted : goal.returns-clause-voted
returns-clause-voted c = voting_done c.args.book.now c.loop-fd.book c.args.p (first_above c.loop-fd.above) c.loop-fd.invariant c.in_default.ensures

pub returns-clause-leads : goal.returns-clause-leads
returns-clause-leads c = voter_leads c.args.book.now c.loop-fd.book c.args.p (first_above c.loop-fd.above) c.loop-fd.invariant c.in_default.ensures
