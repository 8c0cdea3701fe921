use Rattle.std.proofs.Common.{Err, IfSome, ap, sym, subst, ◌∙◌}
use Rattle.image_format.specs.declared.damage.Damage.{Damage as Place}
use Rattle.image_store.specs.declared.set_info.SetInfo.{SetInfo}
use Rattle.image_store.specs.FoundSets.{last_set, HasSet}
use Rattle.drive.specs.HandedOn.{SpoilsSet}
use Rattle.drive.proofs.HandedOn.{at_some}
use Rattle.dmtcp_top.proofs.Loads.{damage_found, restored}
use Rattle.dmtcp_top.proofs.loading.restore.Goals as goal

pub returns-in-Err-Damaged-clause-restored : goal.returns-in-Err-Damaged-clause-restored
returns-in-Err-Damaged-clause-restored g c =
    let told = (g.F.Folder.seen c.args.disk.now).files in
    let damage = c.in-Err-Damaged.damage in
    subst (λ (d : Place). IfSome told (λ files. SpoilsSet files c.args.info.slot d)) (sym c.in-Err-Damaged.damage-is)
    (damage_found (g.F.Folder.seen c.args.disk.now) c.args.store.now c.args.info c.requires.last c.requires.fits damage
    (c.get_set.ensures.damaged damage (c.in-Err-Damaged.is ∙ ap Err c.in-Err-Damaged.field-0-is)))

pub returns-clause-restored : goal.returns-clause-restored
returns-clause-restored g c =
    restored (g.F.Folder.seen c.args.disk.now) c.args.store.now c.args.info c.requires.last c.requires.fits c.origin_in.result c.in-Ok.set.files
    (λ files is. at_some (λ (info : SetInfo). HasSet (last_set files) info.generation c.in-Ok.set.files) c.args.store.now.last c.args.info c.requires.last (c.in-Ok.ensures.found files is))
    c.origin_in.ensures
