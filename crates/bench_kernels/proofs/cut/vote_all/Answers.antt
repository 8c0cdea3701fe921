use Rattle.std.proofs.Common.{refl, ap, ◌∙◌}
use Rattle.ckpt_stages.specs.Suspensions.{Suspension}
use Rattle.bench_kernels.proofs.cut.vote_all.Goals as goal

pub loop-p-init : goal.loop-p-init
loop-p-init c = refl

pub loop-p-preserved : goal.loop-p-preserved
loop-p-preserved c = ap (λ (s : Suspension). s.next_id) c.vote.ensures ∙ c.loop-p.invariant
