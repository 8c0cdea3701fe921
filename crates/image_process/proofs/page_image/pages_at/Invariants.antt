use Rattle.std.proofs.Common.{◌≡◌, ◌-◌, []}
use Rattle.image_format.specs.Format.{each}
use Rattle.image_process.specs.ProcessImages.{page_format}
use Rattle.image_format.specs.Reading.{read}
use Rattle.image_process.proofs.page_image.pages_at.Given as goal

abbrev pub invariant-loop-item : goal.invariant-loop-item
invariant-loop-item l =
    read (each (page_format l.start l.end) (l.count - l._item) l.pages) l.rest ≡ read (each (page_format l.start l.end) l.count []) l.initial.rest
