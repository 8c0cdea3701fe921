use Rattle.std.proofs.Common.{◌≡◌, ◌++◌, length, take}
use Rattle.std.specs.Prelude.{Some, None, map}
use Rattle.std.specs.Option.{ForSome}
use Rattle.image_store.specs.FoundSets.{file_at, files_from}
use Rattle.image_store.specs.StoreCrashes.{ChangesNothing}
use Rattle.image_store.proofs.Causes.{Counts}
use Rattle.image_store.proofs.Readings.{damage_here, files_left}
use Rattle.image_store.proofs.reading.read_images.Given as goal

-- the files so far are read, and those that are left have their lengths
abbrev pub invariant-loop-i : goal.invariant-loop-i
invariant-loop-i g l =
    let folder = g.F.Folder in
    record {
      found : ForSome (folder.seen l.fn.disk).files (λ files. map Some l.images.items ++ files_left (file_at files l.slot) l.lengths l.i ≡ files_from (file_at files l.slot) 1 (length l.lengths));
      whole : ForSome (folder.seen l.fn.disk).files (λ files. damage_here (file_at files l.slot) l.lengths l.i ≡ None);
      sizes : map length l.images.items ≡ take l.i l.lengths;
      nothing : ChangesNothing (folder.seen l.fn.disk) (folder.seen l.disk);
      count : Counts (folder.seen l.fn.disk).faults (folder.seen l.disk).faults;
    }
