use Rattle.std.proofs.Common.{◌≡◌, ◌-◌, []}
use Rattle.image_format.specs.Format.{each}
use Rattle.image_process.specs.ProcessImages.{tids_of, thread_format}
use Rattle.image_format.specs.Reading.{read}
use Rattle.image_process.proofs.thread_image.threads_at.Given as goal

abbrev pub invariant-loop-item : goal.invariant-loop-item
invariant-loop-item l =
    read (each (thread_format (tids_of l.threads)) (l.count - l._item) l.images) l.rest ≡ read (each (thread_format (tids_of l.threads)) l.count []) l.initial.rest
