use Rattle.std.proofs.Common.{Some, None, sym, subst}
use Rattle.leader_vote.proofs.Listing.{AreAbove, dirs_begun, dirs_on, dirs_fewer, dirs_done}
use Rattle.leader_vote.proofs.directions.list_dirs.Goals as goal

pub loop-conn-init : goal.loop-conn-init
loop-conn-init c =
    subst (λ dirs. AreAbove c.args.conns.now.conns dirs None) (sym c.new-dirs.ensures.items)
    (dirs_begun c.args.conns.now.conns)

pub loop-conn-preserved : goal.loop-conn-preserved
loop-conn-preserved c =
    subst (λ dirs. AreAbove c.args.conns.now.conns dirs (Some c.in-Some.conn)) (sym
    c.in_ok-push_both.ensures.ok)
    (dirs_on c.args.conns.now.conns c.loop-conn.dirs.items c.loop-conn.above c.in-Some.conn (sym
    c.in-Some.ensures)
    c.loop-conn.invariant)

pub loop-conn-smaller : goal.loop-conn-smaller
loop-conn-smaller c =
    dirs_fewer c.args.conns.now.conns c.loop-conn.dirs.items c.loop-conn.above c.in-Some.conn (sym
    c.in-Some.ensures)
    c.loop-conn.invariant

pub returns : goal.returns
returns c =
    dirs_done c.args.conns.now.conns c.loop-conn.dirs.items c.loop-conn.above (sym c.in_default.ensures)
    c.loop-conn.invariant
