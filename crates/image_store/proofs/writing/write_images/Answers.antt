use Rattle.std.proofs.Common.{◌≡◌, ℕ, List, ◌+◌, ◌∙◌, ap, arith, refl}
use Rattle.std.specs.Prelude.{option_map}
use Rattle.std.specs.FinMap as files_by_name
use Rattle.disk_folder.specs.Files.{FolderFiles}
use Rattle.image_store.specs.SlotWrites.{KeepsManifest, OnlyFile}
use Rattle.image_store.proofs.Causes.{counts, counts_none, counts_then}
use Rattle.image_store.proofs.Passing.{passes_then, passes_none, told_then}
use Rattle.image_store.proofs.SlotSteps.{manifest_only, manifest_same, manifest_then}
use Rattle.image_store.proofs.SlotFiles.{images_more}
use Rattle.image_store.proofs.writing.write_images.Goals as goal

pub loop-i-init : goal.loop-i-init
loop-i-init g c = record {
  written = refl;
  told = refl;
  crash = passes_none (KeepsManifest c.args.slot) (manifest_same c.args.slot) (g.F.Folder.seen c.args.disk.now);
  count = counts_none _;
}

-- the writes so far and one more
one_more : (slot i : ℕ) (a b c : FolderFiles) → KeepsManifest slot a b → OnlyFile (record { slot = slot; index = i + 1 }) b c → KeepsManifest slot a c
one_more slot i a b c first second = manifest_then slot a b c first (manifest_only slot (i + 1) b c (omega arith) second)

pub returns-in_err-write_file-clause-crash : goal.returns-in_err-write_file-clause-crash
returns-in_err-write_file-clause-crash g c =
    passes_then (KeepsManifest c.args.slot) c.loop-i.invariant.crash c.write_file.ensures.crash (λ old new keeps. keeps) (λ old mid new keeps only. one_more c.args.slot c.loop-i.i old mid new keeps only)

pub loop-i-preserved : goal.loop-i-preserved
loop-i-preserved g c =
    let i = c.loop-i.i in
    let image = c.index-images-i.result in
    let here : c.as_slice.result.now ≡ image = c.as_slice.ensures in
    let written = c.in_ok-write_file.ensures.written ∙ ap (λ (bytes : List ℕ). option_map (λ files. files_by_name.insert files (record { slot = c.args.slot; index = i + 1 }) bytes) (g.F.Folder.seen c.loop-i.disk).files) here in
    record {
      written = images_more c.args.slot i c.args.images.now image (g.F.Folder.seen c.loop-i.disk).files (g.F.Folder.seen c.write_file.new.disk).files c.loop-i-test.true c.index-images-i.is written ∙ c.loop-i.invariant.written;
      told = told_then _ _ _ c.loop-i.invariant.told c.write_file.ensures.told;
      crash = passes_then (KeepsManifest c.args.slot) c.loop-i.invariant.crash c.write_file.ensures.crash (λ old new keeps. keeps) (λ old mid new keeps only. one_more c.args.slot i old mid new keeps only);
      count = counts_then c.loop-i.invariant.count (counts c.write_file.ensures.cause);
    }
