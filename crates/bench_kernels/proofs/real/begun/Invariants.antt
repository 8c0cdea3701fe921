use Rattle.bench_kernels.proofs.real.begun.Given as goal

abbrev pub ghost-stood_by : goal.ghost-stood_by
ghost-stood_by a = a._lent.now

abbrev pub ghost-wrap : goal.ghost-wrap
ghost-wrap a = a._stood.now.kernel
