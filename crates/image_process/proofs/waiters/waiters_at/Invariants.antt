use Rattle.std.proofs.Common.{◌≡◌, ◌-◌, []}
use Rattle.image_format.specs.Format.{each}
use Rattle.image_process.specs.ProcessImages.{tids_of, waiter_format}
use Rattle.image_format.specs.Reading.{read}
use Rattle.image_process.proofs.waiters.waiters_at.Given as goal

abbrev pub invariant-loop-item : goal.invariant-loop-item
invariant-loop-item l =
    read (each (waiter_format (tids_of l.threads)) (l.count - l._item) l.waiters) l.rest ≡ read (each (waiter_format (tids_of l.threads)) l.count []) l.initial.rest
