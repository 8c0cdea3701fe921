use Rattle.rebuild_system.proofs.Holding.{none_hold}
use Rattle.rebuild_system.proofs.accepting.holders_host.Goals as goal

pub returns-in-None-clause-host : goal.returns-in-None-clause-host
returns-in-None-clause-host c at other holder =
    absurd (none_hold c.args.kernel.now c.args.id c.in-None.ensures at other holder)
