use Rattle.std.proofs.Common.{Some, None, sym, subst}
use Rattle.leader_vote.proofs.Voting.{AreListed, listed_begun, listed_on, listed_fewer, listed_done}
use Rattle.leader_vote.proofs.voters.list_voters.Goals as goal

pub loop-r-init : goal.loop-r-init
loop-r-init c =
    subst (λ voters. AreListed c.args.procs.now.processes c.args.ids.now.virts voters None)
    (sym c.new-voters.ensures) (listed_begun c.args.procs.now.processes c.args.ids.now.virts)

pub loop-r-preserved : goal.loop-r-preserved
loop-r-preserved c =
    subst (λ voters. AreListed c.args.procs.now.processes c.args.ids.now.virts voters (Some c.in-Some.r))
    (sym c.in_ok-list_voter.ensures.ok)
    (listed_on c.args.procs.now.processes c.args.ids.now.virts c.loop-r.voters c.loop-r.above c.in-Some.r
    (sym c.in-Some.ensures) c.loop-r.invariant)

pub loop-r-smaller : goal.loop-r-smaller
loop-r-smaller c =
    listed_fewer c.args.procs.now.processes c.args.ids.now.virts c.loop-r.voters c.loop-r.above c.in-Some.r
    (sym c.in-Some.ensures) c.loop-r.invariant

pub returns : goal.returns
returns c =
    listed_done c.args.procs.now.processes c.args.ids.now.virts c.loop-r.voters c.loop-r.above
    (sym c.in_default.ensures) c.loop-r.invariant
