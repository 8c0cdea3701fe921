use Rattle.std.proofs.Common.{◌≡◌}
use Rattle.std.specs.Option.{ForSome}
use Rattle.image_store.specs.FoundSets.{file_at}
use Rattle.image_store.specs.StoreCrashes.{ChangesNothing}
use Rattle.image_store.proofs.Causes.{Counts}
use Rattle.image_store.proofs.Readings.{damage_here}
use Rattle.image_store.proofs.reading.check_lengths.Given as goal

-- the files so far have their lengths
abbrev pub invariant-loop-i : goal.invariant-loop-i
invariant-loop-i g l =
    let folder = g.F.Folder in
    record {
      found : ForSome (folder.seen l.fn.disk).files (λ files. damage_here (file_at files l.slot) l.lengths l.i ≡ damage_here (file_at files l.slot) l.lengths 0);
      nothing : ChangesNothing (folder.seen l.fn.disk) (folder.seen l.disk);
      count : Counts (folder.seen l.fn.disk).faults (folder.seen l.disk).faults;
    }
