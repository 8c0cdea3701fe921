use Rattle.std.proofs.Common.{◌≡◌, ◌-◌, ◌≤◌, [], length}
use Rattle.std.specs.Prelude.{sum_by}
use Rattle.shared_items.specs.declared.shared.FileImage.{FileImage}
use Rattle.image_format.specs.Format.{each}
use Rattle.shared_items.specs.SharedFormat as format
use Rattle.image_format.specs.Reading.{read}
use Rattle.shared_items.specs.KnownNames.{KnowsNames}
use Rattle.shared_items.proofs.files.files_at.Given as goal

abbrev pub invariant-loop-item : goal.invariant-loop-item
invariant-loop-item l = record {
  reads : read (each (format.file l.next_file) (l.count - l._item) l.files) l.rest ≡ read (each (format.file l.next_file) l.count []) l.initial.rest;
  names : KnowsNames l.names l.files;
  total : l.total ≡ sum_by (λ (file : FileImage). length file.bytes) l.files;
  limit : l.total ≤ 67108864;
}
