use Rattle.host_processes.proofs.Left.{leaves}
use Rattle.host_processes.proofs.process_ends.leave.Goals as goal

pub returns : goal.returns
returns c alive g k p whole st paired =
    leaves g c.args.kernel.now k st p c.args.who paired c.args.status alive c.disown.new.self c.disown.ensures
    c.end_process.new.self c.end_process.ensures
