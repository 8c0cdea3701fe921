use Rattle.std.proofs.Common.{◌≡◌, ◌+◌}
use Rattle.std.specs.Option.{ForSome}
use Rattle.disk_folder.specs.Moments.{LeavesOnly}
use Rattle.image_store.specs.FoundSets.{last_set}
use Rattle.store_runs.specs.StoreRuns.{IsOneOf}
use Rattle.image_store.specs.StoreStates.{FitsFolder, next_generation}
use Rattle.image_store.specs.StoreCrashes.{SameTold}
use Rattle.image_store.proofs.Causes.{Counts}
use Rattle.store_runs.proofs.runs.put_all.Given as goal

-- the sets so far, and the store that fits after them
abbrev pub invariant-loop-set : goal.invariant-loop-set
invariant-loop-set g l =
    let folder = g.F.Folder in
    record {
      fits : FitsFolder l.store (folder.seen l.disk);
      next : next_generation l.store ≡ next_generation l.fn.store + l.set-index;
      told : SameTold (folder.seen l.fn.disk).files (folder.seen l.disk).files;
      reads : ForSome (folder.seen l.fn.disk).files (λ files. ForSome (folder.seen l.disk).files (λ now. IsOneOf (last_set files) (next_generation l.fn.store) l.sets (last_set now)));
      count : Counts (folder.seen l.fn.disk).faults (folder.seen l.disk).faults;
      crash : ForSome (folder.seen l.fn.disk).files (λ files. LeavesOnly (folder.seen l.fn.disk) (folder.seen l.disk) (λ image. IsOneOf (last_set files) (next_generation l.fn.store) l.sets (last_set image)));
    }
