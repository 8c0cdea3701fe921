use Rattle.std.proofs.Common.{sym, ◌∙◌}
use Rattle.seen_kernel.proofs.SeenKernel.{processes_stand, makers_same, descriptors_stand, descriptions_stand}
use Rattle.seen_kernel.proofs.kernel.seen_holders.Goals as goal

pub returns : goal.returns
returns c held lists k told =
    let s = c.args.system.now in
    let processes = c.in_ok-processes.ensures k.processes (processes_stand s held k told.stands) in
    let makers = c.in_ok-makers.ensures
    (makers_same s held k told.stands c.in_ok-processes.processes processes) in
    let descriptors = c.in_ok-descriptors.ensures k.descriptors (descriptors_stand s held k told.stands) in
    let descriptions = c.in_ok-descriptions.ensures k.descriptions
    (descriptions_stand s held c.args.owners.now lists k told) in
    λ i. (processes i, (makers ∙ sym told.stands.exact.makers) i, descriptors i, descriptions i)
