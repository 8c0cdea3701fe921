use Rattle.std.proofs.Common.{ℕ, sym, subst}
use Rattle.plain_machine.specs.declared.kernel.PlainKernel.{PlainKernel}
use Rattle.wrap_names.specs.Wrapping.{IsWrapped}
use Rattle.bench_kernels.proofs.cut.give_up.Goals as goal

pub wrap-requires : goal.wrap-requires
wrap-requires c =
    subst (λ (k : PlainKernel). IsWrapped c.refuse-system.result.0 c.args.number k)
    (sym c.stood_by-stood.ensures)
    (subst (λ (n : ℕ). IsWrapped c.refuse-system.result.0 n c.args.suspended.kernel) c.requires
    c.refuse-system.ensures.system)
