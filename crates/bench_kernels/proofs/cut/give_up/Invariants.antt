use Rattle.bench_kernels.proofs.cut.give_up.Given as goal

abbrev pub ghost-stood_by : goal.ghost-stood_by
ghost-stood_by a = a._lent.now.kernel

abbrev pub ghost-wrap : goal.ghost-wrap
ghost-wrap a = a._stood.now.kernel
