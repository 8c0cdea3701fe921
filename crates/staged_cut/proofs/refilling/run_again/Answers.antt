use Rattle.std.proofs.Common.{ℕ, sym, subst, ◌∙◌}
use Rattle.plain_machine.specs.declared.kernel.PlainKernel.{PlainKernel}
use Rattle.ckpt_stages.specs.OfWrapNames.Wrapping.{IsWrapped}
use Rattle.seen_kernel.specs.Seen.{all_in}
use Rattle.staged_cut.proofs.refilling.run_again.Goals as goal

pub wrap-requires : goal.wrap-requires
wrap-requires c =
    subst (λ (k : PlainKernel). IsWrapped c.resume-system.result.0 c.next_id-number.result k)
    (sym c.stood_after-stood.ensures)
    (subst (λ (n : ℕ). IsWrapped c.resume-system.result.0 n (all_in c.args.refilled.kernel))
    (sym c.next_id-number.ensures) c.resume-system.ensures.system)

pub returns : goal.returns
returns c = (c.wrap.ensures ∙ c.stood_after-stood.ensures, c.resume-system.ensures.outcome)
