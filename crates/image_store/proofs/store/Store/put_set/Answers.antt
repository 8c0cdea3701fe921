use Rattle.std.proofs.Common.{length, inl, refl, ap, sym, subst, ◌∙◌, arith}
use Rattle.std.specs.Prelude.{slice_index}
use Rattle.disk_folder.specs.Files.{FolderFiles}
use Rattle.disk_folder.specs.Crash.{Same}
use Rattle.disk_folder.proofs.Stretches.{told_then as where_told, weakens}
use Rattle.image_store.specs.FoundSets.{last_set, HasSet}
use Rattle.image_store.specs.StoreStates.{FitsFiles, Known, next_generation}
use Rattle.image_store.specs.StoreCrashes.{OldOrNew}
use Rattle.image_store.proofs.Passing.{leaves_only, on_err, passes_none, settled_at, told_before, told_still}
use Rattle.image_store.proofs.Puts.{ready_of, ready_image, ready_set, put_fits, gate_is, small_slot, next_next}
use Rattle.image_store.proofs.ManifestFronts.{spelled_gate, spelled_length}
use Rattle.image_store.proofs.store.Store.put_set.Goals as goal

pub returns-in_err-manifest-clause-crash : goal.returns-in_err-manifest-clause-crash
returns-in_err-manifest-clause-crash g c = λ files is.
    leaves_only files (OldOrNew (last_set files) (next_generation c.args.self) c.args.set.now.files) (passes_none Same (λ f. refl) (g.F.Folder.seen c.args.disk.now)) (c.requires.fits files is).settled (inl refl)
    (λ image same. inl (ap last_set same))

pub gate-requires : goal.gate-requires
gate-requires g c = small_slot _ _ c.slot_to_write-slot.ensures

pub with_set-requires : goal.with_set-requires
with_set-requires g c = small_slot _ _ c.slot_to_write-slot.ensures

pub write_set-requires-clause-settled : goal.write_set-requires-clause-settled
write_set-requires-clause-settled g c = where_told (g.F.Folder.seen c.args.disk.now).files (λ files is. (c.requires.fits files is).settled)

pub write_set-requires-clause-gate : goal.write_set-requires-clause-gate
write_set-requires-clause-gate g c = λ files is. gate_is c.slot_to_write-slot.result c.args.self files _ (small_slot _ _ c.slot_to_write-slot.ensures) (c.requires.fits files is) ∙ sym c.gate.ensures

pub write_set-requires-clause-some : goal.write_set-requires-clause-some
write_set-requires-clause-some g c = let long = spelled_length _ _ c.in_ok-manifest.ensures in omega (arith, ap length c.deref.ensures.value)

pub write_set-requires-clause-open : goal.write_set-requires-clause-open
write_set-requires-clause-open g c = ap (λ bytes. slice_index bytes 0) c.deref.ensures.value ∙ spelled_gate _ _ c.in_ok-manifest.ensures

pub returns-in_err-write_set-clause-crash : goal.returns-in_err-write_set-clause-crash
returns-in_err-write_set-clause-crash g c = λ files is.
    let ready = ready_of c.args.self files _ c.self.inside.last c.slot_to_write-slot.result c.next-generation.result c.deref.result.now c.in_ok-manifest.manifest.items c.as_slice-images.result.now c.args.set.now.files (c.requires.fits files is) (ap (λ (k : Known). k.last) c.self.view_is) c.slot_to_write-slot.ensures c.next-generation.ensures c.deref.ensures.value c.in_ok-manifest.ensures c.as_slice-images.ensures in
    weakens (g.F.Folder.seen c.args.disk.now) (g.F.Folder.seen c.write_set.new.disk) _ _ (c.write_set.ensures.crash files is) (ready_image files _ _ _ _ _ _ ready)

pub returns-in_err-write_set-clause-err : goal.returns-in_err-write_set-clause-err
returns-in_err-write_set-clause-err g c = on_err c.from_residual-in_err-write_set.result (λ files is after is_after.
    let ready = ready_of c.args.self files _ c.self.inside.last c.slot_to_write-slot.result c.next-generation.result c.deref.result.now c.in_ok-manifest.manifest.items c.as_slice-images.result.now c.args.set.now.files (c.requires.fits files is) (ap (λ (k : Known). k.last) c.self.view_is) c.slot_to_write-slot.ensures c.next-generation.ensures c.deref.ensures.value c.in_ok-manifest.ensures c.as_slice-images.ensures in
    let stretch = c.write_set.ensures.crash files is in
    let seen = g.F.Folder.seen c.write_set.new.disk in
    let left = seen.counts_now (g.F.Folder.seen c.args.disk.now).moment after stretch.later (seen.reads_left after is_after) in
    ready_image files _ _ _ _ _ _ ready after (stretch.each after left))

pub returns-clause-crash : goal.returns-clause-crash
returns-clause-crash g c = λ files is.
    let ready = ready_of c.args.self files _ c.self.inside.last c.slot_to_write-slot.result c.next-generation.result c.deref.result.now c.in_ok-manifest.manifest.items c.as_slice-images.result.now c.args.set.now.files (c.requires.fits files is) (ap (λ (k : Known). k.last) c.self.view_is) c.slot_to_write-slot.ensures c.next-generation.ensures c.deref.ensures.value c.in_ok-manifest.ensures c.as_slice-images.ensures in
    weakens (g.F.Folder.seen c.args.disk.now) (g.F.Folder.seen c.write_set.new.disk) _ _ (c.write_set.ensures.crash files is) (ready_image files _ _ _ _ _ _ ready)

pub returns-clause-next : goal.returns-clause-next
returns-clause-next g c = next_next c.args.self c.with_set.result c.slot_to_write-slot.result c.next-generation.result c.with_set.ensures c.next-generation.ensures

pub returns-clause-fits : goal.returns-clause-fits
returns-clause-fits g c = λ after is_after.
    let start = told_before (g.F.Folder.seen c.args.disk.now).files (g.F.Folder.seen c.write_set.new.disk).files after c.write_set.ensures.told is_after in
    let files = start.0 in
    let fits = c.requires.fits files start.1 in
    let ready = ready_of c.args.self files _ c.self.inside.last c.slot_to_write-slot.result c.next-generation.result c.deref.result.now c.in_ok-manifest.manifest.items c.as_slice-images.result.now c.args.set.now.files fits (ap (λ (k : Known). k.last) c.self.view_is) c.slot_to_write-slot.ensures c.next-generation.ensures c.deref.ensures.value c.in_ok-manifest.ensures c.as_slice-images.ensures in
    let only = settled_at (g.F.Folder.seen c.write_set.new.disk) after c.in_ok-write_set.ensures.durable is_after in
    subst (λ (k : Known). FitsFiles k after (g.F.Folder.seen c.write_set.new.disk).may_leave) (sym c.with_set.ensures)
    (put_fits c.slot_to_write-slot.result c.args.self files after _ _ _ _ _ _ _ (small_slot _ _ c.slot_to_write-slot.ensures) fits only ready (c.in_ok-write_set.ensures.written files start.1 after is_after))

pub returns-clause-stored : goal.returns-clause-stored
returns-clause-stored g c = λ after is_after.
    let start = told_before (g.F.Folder.seen c.args.disk.now).files (g.F.Folder.seen c.write_set.new.disk).files after c.write_set.ensures.told is_after in
    let files = start.0 in
    let ready = ready_of c.args.self files _ c.self.inside.last c.slot_to_write-slot.result c.next-generation.result c.deref.result.now c.in_ok-manifest.manifest.items c.as_slice-images.result.now c.args.set.now.files (c.requires.fits files start.1) (ap (λ (k : Known). k.last) c.self.view_is) c.slot_to_write-slot.ensures c.next-generation.ensures c.deref.ensures.value c.in_ok-manifest.ensures c.as_slice-images.ensures in
    ready_set files _ _ _ _ _ _ ready after (c.in_ok-write_set.ensures.written files start.1 after is_after)

pub returns-clause-durable : goal.returns-clause-durable
returns-clause-durable g c = λ files is image left.
    let still = told_still (g.F.Folder.seen c.args.disk.now).files (g.F.Folder.seen c.write_set.new.disk).files files c.write_set.ensures.told is in
    let after = still.0 in
    let ready = ready_of c.args.self files _ c.self.inside.last c.slot_to_write-slot.result c.next-generation.result c.deref.result.now c.in_ok-manifest.manifest.items c.as_slice-images.result.now c.args.set.now.files (c.requires.fits files is) (ap (λ (k : Known). k.last) c.self.view_is) c.slot_to_write-slot.ensures c.next-generation.ensures c.deref.ensures.value c.in_ok-manifest.ensures c.as_slice-images.ensures in
    let only = settled_at (g.F.Folder.seen c.write_set.new.disk) after c.in_ok-write_set.ensures.durable still.1 in
    subst (λ (f : FolderFiles). HasSet (last_set f) (next_generation c.args.self) c.args.set.now.files) (sym (only image left))
    (ready_set files _ _ _ _ _ _ ready after (c.in_ok-write_set.ensures.written files is after still.1))
