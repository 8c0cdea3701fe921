use Rattle.std.proofs.Common.{◌≡◌, ℕ, None, sym, subst}
use Rattle.std.specs.Prelude.{IfOk, IfErr}
use Rattle.plain_machine.specs.declared.kernel.PlainKernel.{PlainKernel}
use Rattle.ckpt_stages.specs.OfWrapNames.Wrapping.{IsWrapped}
use Rattle.ckpt_stages.specs.Faults.{FindsUnsupported, IsFault}
use Rattle.ckpt_stages.specs.Suspensions.{IsEntered}
use Rattle.staged_cut.proofs.draining.suspend.Goals as goal

pub enter-requires : goal.enter-requires
enter-requires c =
    subst (λ (k : PlainKernel). IsWrapped c.into_system-system.result.0 c.into_system-system.result.1 k)
    (sym c.stood_by-stood.ensures) c.into_system-system.ensures

pub returns-clause-ok : goal.returns-clause-ok
returns-clause-ok c =
    subst (λ (n : ℕ). IfOk c.enter.result (IsEntered c.args.wrapped n c.args.barrier))
    (sym c.into_system-system.ensures.next)
    (subst (λ (k : PlainKernel). IfOk c.enter.result (IsEntered k c.into_system-system.result.1
    c.args.barrier)) c.stood_by-stood.ensures c.enter.ensures.ok)

pub returns-clause-supported : goal.returns-clause-supported
returns-clause-supported c =
    subst (λ (k : PlainKernel). IfOk c.enter.result (λ _. FindsUnsupported k None)) c.stood_by-stood.ensures
    c.enter.ensures.supported

pub returns-clause-err : goal.returns-clause-err
returns-clause-err c =
    subst (λ (k : PlainKernel). IfErr c.enter.result (λ r. (r.0 ≡ k) × IsFault k r.1))
    c.stood_by-stood.ensures c.enter.ensures.err
