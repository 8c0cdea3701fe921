use Rattle.std.proofs.Common.{None, sym, subst}
use Rattle.plain_machine.specs.declared.kernel.PlainKernel.{PlainKernel}
use Rattle.host_tables.specs.declared.system.System.{System}
use Rattle.ckpt_stages.specs.OfWrapNames.Wrapping.{IsWrapped}
use Rattle.ckpt_stages.specs.Faults.{FindsUnsupported, IsFault}
use Rattle.ckpt_stages.specs.Suspensions.{IsEntered}
use Rattle.staged_cut.proofs.draining.enter.Goals as goal

pub enter-requires : goal.enter-requires
enter-requires c =
    subst (λ (k : PlainKernel). IsWrapped c.args.system c.args.number k) (sym c.same-again.ensures) c.requires

pub wrap-requires : goal.wrap-requires
wrap-requires c =
    subst (λ (s : System). IsWrapped s c.args.number c.args.stood.now.kernel) (sym c.in-Err.ensures.err.0)
    c.requires

pub returns-in-Ok-clause-ok : goal.returns-in-Ok-clause-ok
returns-in-Ok-clause-ok c =
    subst (λ (k : PlainKernel). IsEntered k c.args.number c.args.barrier c.in-Ok.suspended)
    c.same-again.ensures c.in-Ok.ensures.ok

pub returns-in-Ok-clause-supported : goal.returns-in-Ok-clause-supported
returns-in-Ok-clause-supported c =
    subst (λ (k : PlainKernel). FindsUnsupported k None) c.same-again.ensures c.in-Ok.ensures.supported

pub returns-in-Err-clause-err : goal.returns-in-Err-clause-err
returns-in-Err-clause-err c = (
  c.wrap.ensures,
  subst (λ (k : PlainKernel). IsFault k c.in-Err.fault) c.same-again.ensures c.in-Err.ensures.fault,
)
