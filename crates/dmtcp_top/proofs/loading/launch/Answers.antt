use Rattle.std.proofs.Common.{sym, subst}
use Rattle.dmtcp_top.specs.declared.settings.Settings.{Settings}
use Rattle.dmtcp_top.specs.declared.start.Checkpoints.{Checkpoints}
use Rattle.dmtcp_top.specs.Loads.{HasStore, IsMade}
use Rattle.dmtcp_top.proofs.Loads.{looks_none, launched}
use Rattle.dmtcp_top.proofs.loading.launch.Goals as goal

pub returns-in_err-origin-clause-looks : goal.returns-in_err-origin-clause-looks
returns-in_err-origin-clause-looks g c = looks_none (g.F.Folder.seen c.args.disk.now)

pub returns-clause-launches : goal.returns-clause-launches
returns-clause-launches g c =
    let inputs = (g.I.Inputs.seen c.args.inputs.now).files in
    let folder = (g.F.Folder.seen c.args.disk.now).files in
    launched inputs folder c.args.job.now c.in_ok-origin.origin c.in_ok-checkpoints.checkpoints c.in_ok-start.start c.in_ok-origin.ensures.loaded
    (subst (λ (settings : Settings). IsMade folder settings c.in_ok-checkpoints.checkpoints) c.requires.set c.in_ok-checkpoints.ensures.made)
    c.in_ok-start.ensures

pub returns-clause-stored : goal.returns-clause-stored
returns-clause-stored g c =
    subst (λ (checkpoints : Checkpoints). HasStore checkpoints (g.F.Folder.seen c.first_checkpoints.new.disk)) (sym c.in_ok-start.ensures.checkpoints)
    c.in_ok-checkpoints.ensures.stored
