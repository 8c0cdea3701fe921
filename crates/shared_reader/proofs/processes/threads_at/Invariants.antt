use Rattle.std.proofs.Common.{◌≡◌, ◌-◌, []}
use Rattle.image_format.specs.Format.{each}
use Rattle.shared_items.specs.SharedFormat as format
use Rattle.image_format.specs.Reading.{read}
use Rattle.shared_reader.proofs.processes.threads_at.Given as goal

abbrev pub invariant-loop-item : goal.invariant-loop-item
invariant-loop-item l = read (each (format.thread l.next_id l.earlier) (l.count - l._item) l.threads) l.rest ≡ read (each (format.thread l.next_id l.earlier) l.count []) l.initial.rest
