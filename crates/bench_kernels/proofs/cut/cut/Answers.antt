use Rattle.std.proofs.Common.{sym, subst}
use Rattle.plain_machine.specs.declared.kernel.PlainKernel.{PlainKernel}
use Rattle.wrap_names.specs.Wrapping.{IsWrapped}
use Rattle.bench_kernels.proofs.cut.cut.Goals as goal

pub enter-requires : goal.enter-requires
enter-requires c =
    subst (λ (k : PlainKernel). IsWrapped c.into_system-system.result.0 c.into_system-system.result.1 k)
    (sym c.stood_by-stood.ensures) c.into_system-system.ensures
