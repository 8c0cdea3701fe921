use Rattle.std.proofs.Common.{◌≡◌, ◌-◌, []}
use Rattle.image_format.specs.Format.{each}
use Rattle.shared_items.specs.SharedFormat as format
use Rattle.image_format.specs.Reading.{read}
use Rattle.shared_items.proofs.channels.channels_at.Given as goal

abbrev pub invariant-loop-item : goal.invariant-loop-item
invariant-loop-item l = read (each (format.channel l.next_id) (l.count - l._item) l.channels) l.rest ≡ read (each (format.channel l.next_id) l.count []) l.initial.rest
