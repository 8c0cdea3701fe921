use Rattle.std.proofs.Common.{sym, subst}
use Rattle.host_tables.specs.declared.system.System.{System}
use Rattle.leader_vote.specs.Voters.{Voters}
use Rattle.cut_stages.specs.Cuts.{voted_by}
use Rattle.ckpt_stages.specs.Suspensions.{IsSuspended}
use Rattle.ckpt_stages.proofs.Voted.{voted_on}
use Rattle.ckpt_stages.proofs.suspended.Suspended.vote.Goals as goal

pub invariant_of-self : goal.invariant_of-self
invariant_of-self c =
    let s = c.self.inside in
    let base = c.self.inside.base in
    subst (λ (now : System). IsSuspended now base.next_id base.stood.kernel base.owners
    c.mark_voter.new.voters
    s.dirs.items s.ends s.room) (sym c.vote_by.ensures)
    (subst (λ (voters : Voters). IsSuspended (voted_by base.system c.args.p) base.next_id base.stood.kernel
    base.owners voters
    s.dirs.items s.ends s.room) (sym c.mark_voter.ensures)
    (voted_on base.system base.next_id base.stood.kernel base.owners s.voters s.dirs.items s.ends s.room
    c.self.invariant c.args.p))
