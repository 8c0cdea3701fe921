use Rattle.std.proofs.Common.{◌≡◌, ◌-◌, [], take, length}
use Rattle.image_format.specs.Format.{each}
use Rattle.image_process.specs.ProcessImages.{word_format}
use Rattle.image_format.specs.Reading.{read}
use Rattle.image_process.proofs.thread_image.fill_words.Given as goal

abbrev pub invariant-loop-i : goal.invariant-loop-i
invariant-loop-i l = read (each (λ _. word_format) (length l.initial.words - l.i) (take l.i l.words)) l.rest ≡ read (each (λ _. word_format) (length l.initial.words) []) l.fn.text
