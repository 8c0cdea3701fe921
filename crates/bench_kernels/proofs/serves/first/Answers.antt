use Rattle.std.proofs.Common.{ap, ◌∙◌}
use Rattle.plain_tables.specs.Tables.{FIRST_PID}
use Rattle.plain_machine.specs.declared.kernel.PlainKernel.{PlainKernel}
use Rattle.plain_machine.specs.Start.{with_process}
use Rattle.bench_kernels.proofs.Firsts.{first_is}
use Rattle.bench_kernels.proofs.serves.first.Goals as goal

pub returns : goal.returns
returns c =
    first_is c.add_process.new.self
    (c.in_ok-add_process.ensures.ok ∙ ap (λ (k : PlainKernel). with_process k FIRST_PID 0) c.empty-kernel.ensures)
