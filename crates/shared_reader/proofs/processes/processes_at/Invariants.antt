use Rattle.std.proofs.Common.{◌≡◌, ◌-◌, []}
use Rattle.image_format.specs.Format.{each}
use Rattle.image_format.specs.Reading.{read}
use Rattle.image_format.specs.Texts.{EachFrom}
use Rattle.shared_items.specs.SharedFits.{ProcessFits}
use Rattle.shared_items.specs.SharedFormat as format
use Rattle.image_format.proofs.Numerals.{AllBytes}
use Rattle.shared_reader.specs.KnownThreads.{KnowsThreads}
use Rattle.shared_reader.proofs.processes.processes_at.Given as goal

abbrev pub invariant-loop-item : goal.invariant-loop-item
invariant-loop-item l = record {
  reads : read (each (format.process l.next_id l.channels l.descriptions) (l.count - l._item) l.processes) l.rest ≡ read (each (format.process l.next_id l.channels l.descriptions) l.count []) l.initial.rest;
  fits : EachFrom (ProcessFits l.next_id l.channels l.descriptions) [] l.processes;
  bytes : AllBytes l.rest;
  threads : KnowsThreads l.tids l.processes;
}
