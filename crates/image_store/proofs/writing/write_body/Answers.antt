use Rattle.std.proofs.Common.{◌≡◌, ◌-◌, ◌≤◌, List, ℕ, ap, subst, take, drop, length, ◌∙◌}
use Rattle.std.specs.Prelude.{Option, option_map}
use Rattle.std.proofs.lemmas.List.{take_rest}
use Rattle.disk_folder.specs.Files.{FolderFiles, contents, with_cut, with_write}
use Rattle.disk_folder.proofs.Stretches.{some_of}
use Rattle.image_store.specs.Slots.{manifest_name}
use Rattle.image_store.specs.SlotWrites.{KeepsGate, with_manifest}
use Rattle.image_store.proofs.Passing.{passes_then, passes_widen, reads_ok}
use Rattle.image_store.proofs.SlotSteps.{gate_cut, gate_torn, gate_then}
use Rattle.image_store.proofs.SlotFiles.{written_body, body_length}
use Rattle.image_store.proofs.writing.write_body.Goals as goal

pub returns-in_err-write_at-clause-crash : goal.returns-in_err-write_at-clause-crash
returns-in_err-write_at-clause-crash g c = passes_widen (KeepsGate c.args.slot) c.write_at.ensures.crash (λ old new torn. gate_torn c.args.slot _ old new torn)

-- with the bytes behind the gate in one spelling
written : (slot : ℕ) (bytes : List ℕ) (old new : Option FolderFiles) → new ≡ option_map (λ files. with_write files (manifest_name slot) 1 (take (length bytes - 1) (drop 1 bytes))) old → new ≡ option_map (λ files. with_write files (manifest_name slot) 1 (drop 1 bytes)) old
written slot bytes old new is = is ∙ ap (λ (tail : List ℕ). option_map (λ files. with_write files (manifest_name slot) 1 tail) old) (take_rest bytes 1)

pub cut-requires : goal.cut-requires
cut-requires g c = λ files is.
    let slot = c.args.slot in
    let bytes = c.args.manifest.now in
    let from = some_of _ (λ files. with_write files (manifest_name slot) 1 (drop 1 bytes)) files (written slot bytes _ _ c.in_ok-write_at.ensures.written) is in
    subst (λ (f : FolderFiles). length bytes ≤ length (contents f (manifest_name slot))) from.2 (body_length slot from.0 bytes (c.requires.gate from.0 from.1) c.requires.some)

pub returns-clause-written : goal.returns-clause-written
returns-clause-written g c =
    let slot = c.args.slot in
    let bytes = c.args.manifest.now in
    reads_ok c.cut.result _ _ _ (λ files. with_write files (manifest_name slot) 1 (drop 1 bytes)) (λ files. with_cut files (manifest_name slot) (length bytes)) (with_manifest slot bytes)
    (written slot bytes _ _ c.in_ok-write_at.ensures.written) c.cut.ensures.cut (λ files is. written_body slot files bytes (c.requires.gate files is) c.requires.some)

pub returns-clause-crash : goal.returns-clause-crash
returns-clause-crash g c =
    passes_then (KeepsGate c.args.slot) c.write_at.ensures.crash c.cut.ensures.crash (λ old new torn. gate_torn c.args.slot _ old new torn)
    (λ old mid new torn cut. gate_then c.args.slot old mid new (gate_torn c.args.slot _ old mid torn) (gate_cut c.args.slot _ mid new c.requires.some cut))
