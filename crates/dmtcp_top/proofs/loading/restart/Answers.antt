use Rattle.std.proofs.Common.{Option, ◌∙◌, sym, ap, subst}
use Rattle.disk_folder.specs.Files.{FolderFiles as Folder}
use Rattle.image_store.specs.declared.set_info.SetInfo.{SetInfo}
use Rattle.dmtcp_top.specs.declared.start.Checkpoints.{Checkpoints}
use Rattle.dmtcp_top.specs.Launches.{schedule_of}
use Rattle.dmtcp_top.specs.Loads.{HasStore, IsRestored}
use Rattle.dmtcp_top.proofs.Loads.{generation_of, has_store, looks_then, restarted}
use Rattle.dmtcp_top.proofs.loading.restart.Goals as goal

pub returns-in_err-origin-clause-looks : goal.returns-in_err-origin-clause-looks
returns-in_err-origin-clause-looks g c = looks_then (g.F.Folder.seen c.args.disk.now) (g.F.Folder.seen c.open.new.disk) (g.F.Folder.seen c.restore.new.disk) c.open.ensures.looks c.restore.ensures.looks

pub returns-in_err-start-clause-looks : goal.returns-in_err-start-clause-looks
returns-in_err-start-clause-looks g c = looks_then (g.F.Folder.seen c.args.disk.now) (g.F.Folder.seen c.open.new.disk) (g.F.Folder.seen c.restore.new.disk) c.open.ensures.looks c.restore.ensures.looks

pub returns-clause-restarts : goal.returns-clause-restarts
returns-clause-restarts g c =
    let info = c.in-Some.info in
    let checkpoints = c.checkpoints_after.result in
    restarted (g.F.Folder.seen c.args.disk.now).files info c.args.settings c.in_ok-origin.origin checkpoints c.in_ok-start.start
    (subst (λ (files : Option Folder). IsRestored info files c.in_ok-origin.origin) c.open.ensures.looks.nothing.same c.in_ok-origin.ensures.restored)
    (c.checkpoints_after.ensures.schedule
    ∙ ap (λ (last : Option SetInfo). schedule_of c.args.settings (generation_of last)) (sym c.last.ensures ∙ c.in-Some.is))
    c.in_ok-start.ensures

pub returns-clause-stored : goal.returns-clause-stored
returns-clause-stored g c =
    subst (λ (checkpoints : Checkpoints). HasStore checkpoints (g.F.Folder.seen c.restore.new.disk)) (sym c.in_ok-start.ensures.checkpoints)
    (has_store c.checkpoints_after.result c.args.settings c.in_ok-store.store (g.F.Folder.seen c.restore.new.disk) c.checkpoints_after.ensures.schedule
    c.checkpoints_after.ensures.store c.in_ok-store.ensures.opens.0 c.restore.ensures.fits)

pub returns-clause-looks : goal.returns-clause-looks
returns-clause-looks g c = looks_then (g.F.Folder.seen c.args.disk.now) (g.F.Folder.seen c.open.new.disk) (g.F.Folder.seen c.restore.new.disk) c.open.ensures.looks c.restore.ensures.looks
