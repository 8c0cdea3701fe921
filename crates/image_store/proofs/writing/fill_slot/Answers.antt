use Rattle.std.proofs.Common.{◌<◌, length, sym, subst}
use Rattle.disk_folder.specs.Files.{FolderFiles}
use Rattle.disk_folder.proofs.Stretches.{some_of}
use Rattle.image_store.specs.Slots.{manifest_of}
use Rattle.image_store.specs.SlotWrites.{KeepsGate, with_images}
use Rattle.image_store.proofs.Passing.{passes_then, passes_widen}
use Rattle.image_store.proofs.SlotSteps.{gate_manifest, gate_then}
use Rattle.image_store.proofs.SlotFiles.{images_gate}
use Rattle.image_store.proofs.writing.fill_slot.Goals as goal

pub returns-in_err-write_images-clause-crash : goal.returns-in_err-write_images-clause-crash
returns-in_err-write_images-clause-crash g c = passes_widen (KeepsGate c.args.slot) c.write_images.ensures.crash (gate_manifest c.args.slot)

pub write_body-requires-clause-gate : goal.write_body-requires-clause-gate
write_body-requires-clause-gate g c = λ files is.
    let slot = c.args.slot in
    let from = some_of _ (with_images slot 1 c.args.images.now) files c.in_ok-write_images.ensures.written is in
    subst (λ (f : FolderFiles). 0 < length (manifest_of f slot)) from.2 (images_gate slot c.args.images.now from.0 (c.requires.gate from.0 from.1))

pub returns-in_err-write_body-clause-crash : goal.returns-in_err-write_body-clause-crash
returns-in_err-write_body-clause-crash g c =
    passes_then (KeepsGate c.args.slot) c.write_images.ensures.crash c.write_body.ensures.crash (gate_manifest c.args.slot)
    (λ old mid new images body. gate_then c.args.slot old mid new (gate_manifest c.args.slot old mid images) body)

pub returns-clause-crash : goal.returns-clause-crash
returns-clause-crash g c =
    let T = KeepsGate c.args.slot in
    let before = passes_then T c.write_images.ensures.crash c.write_body.ensures.crash (gate_manifest c.args.slot) (λ old mid new images body. gate_then c.args.slot old mid new (gate_manifest c.args.slot old mid images) body) in
    passes_then T before c.sync.ensures.crash (λ old new keeps. keeps) (λ old mid new keeps same. subst (T old) (sym same) keeps)
