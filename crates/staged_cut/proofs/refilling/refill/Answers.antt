use Rattle.std.proofs.Common.{ap, ◌∙◌}
use Rattle.seen_kernel.specs.Seen.{all_in}
use Rattle.ckpt_stages.specs.HandedOn.{Filling}
use Rattle.staged_cut.proofs.refilling.refill.Goals as goal

pub returns : goal.returns
returns c = (
  c.run_again.ensures.0 ∙ ap all_in (c.refilled.ensures.kernel
      ∙ ap (λ (s : Filling). s.kernel) c.refill_all.ensures.stays ∙ c.written-filling.ensures.kernel),
  c.run_again.ensures.1 ∙ c.refilled.ensures.outcome
      ∙ ap (λ (s : Filling). s.outcome) c.refill_all.ensures.stays ∙ c.written-filling.ensures.outcome,
)
