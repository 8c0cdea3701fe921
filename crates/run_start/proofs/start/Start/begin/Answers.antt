use Rattle.run_start.proofs.Starts.{begun_ready}
use Rattle.run_start.proofs.start.Start.begin.Goals as goal

pub returns-clause-ready : goal.returns-clause-ready
returns-clause-ready c =
    begun_ready c.args.self _ c.in_ok-kernel.ensures c.into_guests.ensures c.requires.can
