use Rattle.seen_kernel.specs.Seen.{all_in}
use Rattle.bench_kernels.proofs.cut.run_again.Given as goal

abbrev pub ghost-stood_by : goal.ghost-stood_by
ghost-stood_by a = all_in a._lent.now.kernel

abbrev pub ghost-wrap : goal.ghost-wrap
ghost-wrap a = a._stood.now.kernel
