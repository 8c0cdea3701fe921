use Rattle.host_processes.proofs.Left.{ended}
use Rattle.host_processes.proofs.process_ends.end_process.Goals as goal

pub returns : goal.returns
returns c g k p whole st paired =
    ended g c.args.kernel.now k whole st p c.args.who paired c.close_all.new.kernel
    (c.close_all.ensures g k p whole st paired) c.requires.alive c.leave.new.kernel c.args.status c.leave.ensures
