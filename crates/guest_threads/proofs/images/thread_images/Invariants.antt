use Rattle.std.proofs.Common.{◌≡◌, take, map as each}
use Rattle.image_process.specs.UserParts.{thread_entry}
use Rattle.guest_threads.specs.Rows.{entries_of}
use Rattle.guest_threads.proofs.images.thread_images.Given as goal

abbrev pub invariant-loop-row : goal.invariant-loop-row
invariant-loop-row l = each thread_entry l.images.items ≡ entries_of (take l.row-index l.rows)
