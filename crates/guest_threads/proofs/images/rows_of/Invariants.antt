use Rattle.std.proofs.Common.{◌≡◌, length, map as each}
use Rattle.std.specs.FinMap as map
use Rattle.image_process.specs.UserParts.{thread_entry}
use Rattle.guest_threads.specs.Rows.{threads_of, IsRising}
use Rattle.image_process.proofs.EntryLists.{with_entries}
use Rattle.guest_threads.proofs.images.rows_of.Given as goal

abbrev pub invariant-loop-image : goal.invariant-loop-image
invariant-loop-image l = record {
  threads : with_entries (each thread_entry l.left.items) (threads_of l.rows.items) ≡ map.from_entries (each thread_entry l.fn.images);
  rising : IsRising l.rows.items;
}

abbrev pub decreases-loop-image : goal.decreases-loop-image
decreases-loop-image l = length l.left.items
