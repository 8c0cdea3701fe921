use Rattle.bench_kernels.proofs.cut.cut.Given as goal

abbrev pub ghost-stood_by : goal.ghost-stood_by
ghost-stood_by a = a._lent.now
