use Rattle.std.proofs.Common.{refl}
use Rattle.launch_start.proofs.RingBounds.{ring_bounds}
use Rattle.launch_start.proofs.RingWords.{launch_asked, launch_made}
use Rattle.launch_start.proofs.jobs.launch_job.Goals as goal

pub returns-clause-asked : goal.returns-clause-asked
returns-clause-asked c =
    let asked = c.requires in
    launch_asked c.args.ring (ring_bounds asked.0 c.args.ring asked.1) _
    (launch_made c.args.ring _ refl refl refl refl c.new.ensures c.in_ok-programs_of.ensures)

pub returns-clause-is : goal.returns-clause-is
returns-clause-is c = launch_made c.args.ring _ refl refl refl refl c.new.ensures c.in_ok-programs_of.ensures
