use Rattle.std.proofs.Common.{◌≡◌, ◌-◌, []}
use Rattle.image_format.specs.Format.{each}
use Rattle.image_process.specs.ProcessImages.{context_format}
use Rattle.image_format.specs.Reading.{read}
use Rattle.image_process.proofs.thread_image.contexts_at.Given as goal

abbrev pub invariant-loop-item : goal.invariant-loop-item
invariant-loop-item l = read (each (λ _. context_format) (l.count - l._item) l.contexts) l.rest ≡ read (each (λ _. context_format) l.count []) l.initial.rest
