use Rattle.std.proofs.Common.{ℕ, Bor, List, length, take, sym, ◌∙◌}
use Rattle.image_process.specs.ProcessImages.{word_format}
use Rattle.image_format.proofs.Loop.{ends, gives_fault}
use Rattle.image_process.proofs.thread_image.fill_words.Goals as goal

pub returns-in_err-word : goal.returns-in_err-word
returns-in_err-word c =
    gives_fault {S = ℕ × Bor (List ℕ)} _ (λ x. (x.0, x.1.now)) c.in_err-word.field-0.0 c.from_residual.result _ _ c.from_residual.ensures c.in_err-word.ensures
    (λ left e. sym c.loop-i.invariant ∙ ends (λ _. word_format) (length c.args.words.now) c.loop-i.i (take c.loop-i.i c.loop-i.words) c.loop-i.rest.now left c.loop-i-test.true e)
