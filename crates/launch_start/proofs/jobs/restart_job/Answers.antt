use Rattle.std.proofs.Common.{refl}
use Rattle.launch_start.proofs.RingBounds.{ring_bounds}
use Rattle.launch_start.proofs.RingWords.{restart_asked}
use Rattle.launch_start.proofs.jobs.restart_job.Goals as goal

pub returns-clause-asked : goal.returns-clause-asked
returns-clause-asked c =
    let asked = c.requires in
    restart_asked c.args.ring (ring_bounds asked.0 c.args.ring asked.1) _
    (record { nodes = refl; workers = refl; every = refl; records = refl; shift = refl; pid_base = refl; port_base = refl })
