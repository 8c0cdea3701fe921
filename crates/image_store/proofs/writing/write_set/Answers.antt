use Rattle.std.proofs.Common.{◌≡◌, ◌<◌, [], ◌∷◌, ap, ◌∙◌, sym, subst, length}
use Rattle.std.specs.Prelude.{option_map}
use Rattle.std.proofs.lemmas.Option.{same_Some}
use Rattle.disk_folder.specs.Files.{FolderFiles, with_write}
use Rattle.disk_folder.proofs.FilesAfter.{on_ok_then}
use Rattle.disk_folder.proofs.Stretches.{joins, some_of}
use Rattle.image_store.specs.Slots.{manifest_name, manifest_of}
use Rattle.image_store.specs.SlotWrites.{with_closed, with_images, with_manifest}
use Rattle.image_store.specs.SlotImages.{IsInPut, IsPut}
use Rattle.image_store.proofs.PutImages.{closed_files, filled_files, opened_files}
use Rattle.image_store.proofs.PutStretches.{closing_leaves, filling_leaves, opening_leaves}
use Rattle.image_store.proofs.writing.write_set.Goals as goal

pub returns-in_err-close_gate-clause-crash : goal.returns-in_err-close_gate-clause-crash
returns-in_err-close_gate-clause-crash g c = λ files is.
    closing_leaves c.args.slot files c.args.manifest.now c.args.images.now c.args.gate is c.requires.settled (c.requires.gate files is) c.close_gate.ensures.crash

pub fill_slot-requires-clause-gate : goal.fill_slot-requires-clause-gate
fill_slot-requires-clause-gate g c = λ closed is.
    let slot = c.args.slot in
    let from = some_of (g.F.Folder.seen c.args.disk.now).files (with_closed slot c.args.gate) closed c.in_ok-close_gate.ensures.closed is in
    subst (λ (f : FolderFiles). 0 < length (manifest_of f slot)) from.2 (closed_files slot c.args.gate from.0 (c.requires.gate from.0 from.1)).shut.some

pub returns-in_err-fill_slot-clause-crash : goal.returns-in_err-fill_slot-clause-crash
returns-in_err-fill_slot-clause-crash g c = λ files is.
    let slot = c.args.slot in
    let text = c.args.manifest.now in
    let images = c.args.images.now in
    let has = c.requires.gate files is in
    let closed = with_closed slot c.args.gate files in
    let first = closing_leaves slot files text images c.args.gate is c.requires.settled has c.close_gate.ensures.crash in
    let second = filling_leaves slot files text images closed (c.in_ok-close_gate.ensures.closed ∙ ap (option_map (with_closed slot c.args.gate)) is) c.in_ok-close_gate.ensures.durable (closed_files slot c.args.gate files has) c.fill_slot.ensures.crash in
    joins (g.F.Folder.seen c.args.disk.now) (g.F.Folder.seen c.close_gate.new.disk) (g.F.Folder.seen c.fill_slot.new.disk) (IsInPut slot files text images) first second

pub returns-clause-written : goal.returns-clause-written
returns-clause-written g c = on_ok_then c.write_gate.result c.write_gate.ensures.written (λ written files is after is_after.
    let slot = c.args.slot in
    let text = c.args.manifest.now in
    let images = c.args.images.now in
    let closed = with_closed slot c.args.gate files in
    let filled = with_manifest slot text (with_images slot 1 images closed) in
    let told = c.in_ok-fill_slot.ensures.written ∙ ap (option_map (λ f. with_manifest slot text (with_images slot 1 images f))) (c.in_ok-close_gate.ensures.closed ∙ ap (option_map (with_closed slot c.args.gate)) is) in
    let same : with_write filled (manifest_name slot) 0 (1 ∷ []) ≡ after = same_Some _ _ (sym (written ∙ ap (option_map (λ f. with_write f (manifest_name slot) 0 (1 ∷ []))) told) ∙ is_after) in
    subst (IsPut slot files text images) same (opened_files slot files text images filled (filled_files slot files closed text images (closed_files slot c.args.gate files (c.requires.gate files is))) c.requires.some c.requires.open))

pub returns-clause-crash : goal.returns-clause-crash
returns-clause-crash g c = λ files is.
    let slot = c.args.slot in
    let text = c.args.manifest.now in
    let images = c.args.images.now in
    let P = IsInPut slot files text images in
    let has = c.requires.gate files is in
    let closed = with_closed slot c.args.gate files in
    let filled = with_manifest slot text (with_images slot 1 images closed) in
    let is_closed = closed_files slot c.args.gate files has in
    let told_closed = c.in_ok-close_gate.ensures.closed ∙ ap (option_map (with_closed slot c.args.gate)) is in
    let told_filled = c.in_ok-fill_slot.ensures.written ∙ ap (option_map (λ f. with_manifest slot text (with_images slot 1 images f))) told_closed in
    let first = closing_leaves slot files text images c.args.gate is c.requires.settled has c.close_gate.ensures.crash in
    let second = filling_leaves slot files text images closed told_closed c.in_ok-close_gate.ensures.durable is_closed c.fill_slot.ensures.crash in
    let third = opening_leaves slot files text images filled told_filled c.in_ok-fill_slot.ensures.durable (filled_files slot files closed text images is_closed) c.requires.some c.requires.open c.write_gate.ensures.crash in
    joins (g.F.Folder.seen c.args.disk.now) (g.F.Folder.seen c.fill_slot.new.disk) (g.F.Folder.seen c.write_gate.new.disk) P (joins (g.F.Folder.seen c.args.disk.now) (g.F.Folder.seen c.close_gate.new.disk) (g.F.Folder.seen c.fill_slot.new.disk) P first second) third
