use Rattle.std.proofs.Common.{◌≡◌, ◌-◌, []}
use Rattle.image_format.specs.Format.{each}
use Rattle.shared_items.specs.SharedFormat as format
use Rattle.image_format.specs.Reading.{read}
use Rattle.shared_objects.specs.Known.{KnowsQueue}
use Rattle.shared_objects.proofs.objects.queue_at.Given as goal

abbrev pub invariant-loop-item : goal.invariant-loop-item
invariant-loop-item l = record {
  reads : read (each (format.connection l.channels l.front) (l.count - l._item) l.pending) l.rest ≡ read (each (format.connection l.channels l.front) l.count []) l.initial.rest;
  queue : KnowsQueue l.queued l.pending;
}
