use Rattle.std.proofs.Common.{◌≡◌, ◌-◌}
use Rattle.image_format.specs.Format.{each}
use Rattle.image_format.specs.Reading.{read}
use Rattle.shared_items.specs.SharedFormat as format
use Rattle.shared_objects.specs.Known.{KnowsSides, KnowsPorts}
use Rattle.shared_objects.proofs.descriptions.add_descriptions.Given as goal

abbrev pub invariant-loop-item : goal.invariant-loop-item
invariant-loop-item l = record {
  reads : read (each (format.description l.version l.next_id l.initial.known.files.now l.initial.known.channels.now) (l.count - l._item) l.descriptions) l.rest ≡ read (each (format.description l.version l.next_id l.initial.known.files.now l.initial.known.channels.now) l.count l.initial.descriptions) l.initial.rest;
  files : l.known.files.now ≡ l.initial.known.files.now;
  channels : l.known.channels.now ≡ l.initial.known.channels.now;
  sides : KnowsSides l.known.sides l.descriptions;
  ports : KnowsPorts l.known.ports l.descriptions;
}
