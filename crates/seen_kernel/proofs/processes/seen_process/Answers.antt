use Rattle.seen_kernel.proofs.SeenProcesses.{same_process}
use Rattle.seen_kernel.proofs.processes.seen_process.Goals as goal

pub returns : goal.returns
returns c v x told =
    same_process c.args.ids.now c.args.procs.now c.args.r v x _ told c.seen_parent.ensures c.seen_life.ensures
    c.pending_of.ensures (c.in_ok-threads.ensures v x told)
