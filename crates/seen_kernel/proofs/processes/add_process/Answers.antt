use Rattle.std.proofs.Common.{◌∙◌}
use Rattle.std.specs.FinMap as map
use Rattle.virt_ids.specs.declared.id_fault.IdFault.TheVariants.{Unknown}
use Rattle.seen_kernel.proofs.Paired.{number_told}
use Rattle.seen_kernel.proofs.SeenProcesses.{put_at}
use Rattle.seen_kernel.proofs.processes.add_process.Goals as goal

pub returns : goal.returns
returns c v x told =
    c.in_ok-insert.ensures.ok
    ∙ put_at c.args.ids.now c.args.procs.now c.args.r v x told c.args.seen.now c.in-Ok.v
    c.in_ok-process.process
    (number_told (map.get c.args.ids.now.virts c.args.r) c.in-Ok.v Unknown c.in-Ok.ensures)
    (c.in_ok-process.ensures v x told)
