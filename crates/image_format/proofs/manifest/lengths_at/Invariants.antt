use Rattle.std.proofs.Common.{◌≡◌, ◌-◌, []}
use Rattle.image_format.specs.Format.{each}
use Rattle.image_format.specs.Manifests.{length_format}
use Rattle.image_format.specs.Reading.{read}
use Rattle.image_format.proofs.manifest.lengths_at.Given as goal

abbrev pub invariant-loop-item : goal.invariant-loop-item
invariant-loop-item l = read (each (λ _. length_format) (l.count - l._item) l.lengths) l.rest ≡ read (each (λ _. length_format) l.count []) l.initial.rest
