use Rattle.std.proofs.Common.{◌≡◌, ◌-◌, []}
use Rattle.image_format.specs.Format.{each}
use Rattle.image_process.specs.ProcessImages.{action_format}
use Rattle.image_format.specs.Reading.{read}
use Rattle.image_process.proofs.actions.actions_at.Given as goal

abbrev pub invariant-loop-item : goal.invariant-loop-item
invariant-loop-item l = read (each (λ _. action_format) (l.count - l._item) l.actions) l.rest ≡ read (each (λ _. action_format) l.count []) l.initial.rest
