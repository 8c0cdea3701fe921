use Rattle.dmtcp_top.proofs.Loads.{looks_none, has_none, has_store}
use Rattle.dmtcp_top.proofs.loading.first_checkpoints.Goals as goal

pub returns-in-None-clause-looks : goal.returns-in-None-clause-looks
returns-in-None-clause-looks g c = looks_none (g.F.Folder.seen c.args.disk.now)

pub returns-in-None-clause-stored : goal.returns-in-None-clause-stored
returns-in-None-clause-stored g c =
    has_none c.no_checkpoints.result c.args.settings 0 (g.F.Folder.seen c.args.disk.now) c.in-None.is
    c.no_checkpoints.ensures.schedule c.no_checkpoints.ensures.store

pub returns-in_ok-open-in-Some-clause-stored : goal.returns-in_ok-open-in-Some-clause-stored
returns-in_ok-open-in-Some-clause-stored g c =
    has_store c.checkpoints_after.result c.args.settings c.in_ok-open-in-Some.field-0 (g.F.Folder.seen c.open.new.disk)
    c.checkpoints_after.ensures.schedule c.checkpoints_after.ensures.store
    c.in_ok-open-in-Some.ensures.opens.0 c.in_ok-open-in-Some.ensures.fits
