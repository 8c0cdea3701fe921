use Rattle.std.proofs.Common.{sym, subst}
use Rattle.plain_machine.specs.declared.kernel.PlainKernel.{PlainKernel}
use Rattle.host_tables.specs.declared.system.System.{System}
use Rattle.wrap_names.specs.Wrapping.{IsWrapped}
use Rattle.bench_kernels.proofs.cut.enter.Goals as goal

pub enter-requires : goal.enter-requires
enter-requires c =
    subst (λ (k : PlainKernel). IsWrapped c.args.system c.args.number k) (sym c.stood_by-again.ensures) c.requires

pub wrap-requires : goal.wrap-requires
wrap-requires c =
    subst (λ (s : System). IsWrapped s c.args.number c.args.stood.now.kernel) (sym c.in-Err.ensures.err.0)
    c.requires
