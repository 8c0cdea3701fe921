use Rattle.std.proofs.Common.{ap, ◌∙◌}
use Rattle.ckpt_stages.specs.Suspensions.{Suspension}
use Rattle.staged_cut.proofs.draining.drain_suspended.Goals as goal

pub returns-clause-kernel : goal.returns-clause-kernel
returns-clause-kernel c =
    c.drain_elected.ensures.kernel ∙ c.elected.ensures.kernel
    ∙ ap (λ (s : Suspension). s.kernel) c.vote_all.ensures.stays

pub returns-clause-next : goal.returns-clause-next
returns-clause-next c =
    c.drain_elected.ensures.next ∙ c.elected.ensures.next
    ∙ ap (λ (s : Suspension). s.next_id) c.vote_all.ensures.stays

pub returns-clause-barrier : goal.returns-clause-barrier
returns-clause-barrier c =
    c.drain_elected.ensures.barrier ∙ c.elected.ensures.barrier
    ∙ ap (λ (s : Suspension). s.barrier) c.vote_all.ensures.stays
