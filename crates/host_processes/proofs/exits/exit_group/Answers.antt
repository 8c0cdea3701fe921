use Rattle.std.proofs.Common.{subst, None}
use Rattle.plain_machine.specs.Ends.{after_end}
use Rattle.host_descriptors.specs.OfHostTables.Stands.{Stands}
use Rattle.host_processes.proofs.ExitRows.{group_served}
use Rattle.host_processes.proofs.exits.exit_group.Goals as goal

pub returns : goal.returns
returns c g k p whole st paired x =
    group_served g c.args.kernel.now c.end_process.new.kernel k p c.args.code x
    (subst (λ status. Stands g None c.end_process.new.kernel (after_end k p status)) c.exit_status.ensures
    (c.end_process.ensures g k p whole st paired))
