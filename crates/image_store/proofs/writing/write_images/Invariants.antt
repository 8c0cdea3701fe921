use Rattle.std.proofs.Common.{◌≡◌, ◌+◌, drop}
use Rattle.std.specs.Prelude.{option_map}
use Rattle.disk_folder.specs.Moments.{Passes}
use Rattle.image_store.specs.SlotWrites.{with_images, KeepsManifest}
use Rattle.image_store.specs.StoreCrashes.{SameTold}
use Rattle.image_store.proofs.Causes.{Counts}
use Rattle.image_store.proofs.writing.write_images.Given as goal

-- with the images that are left
abbrev pub invariant-loop-i : goal.invariant-loop-i
invariant-loop-i g l =
    let folder = g.F.Folder in
    record {
      written : option_map (with_images l.slot (l.i + 1) (drop l.i l.images)) (folder.seen l.disk).files ≡ option_map (with_images l.slot 1 l.images) (folder.seen l.fn.disk).files;
      told : SameTold (folder.seen l.fn.disk).files (folder.seen l.disk).files;
      crash : Passes (KeepsManifest l.slot) (folder.seen l.fn.disk) (folder.seen l.disk);
      count : Counts (folder.seen l.fn.disk).faults (folder.seen l.disk).faults;
    }
