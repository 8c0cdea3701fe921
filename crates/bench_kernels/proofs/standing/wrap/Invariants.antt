use Rattle.bench_kernels.proofs.standing.wrap.Given as goal

-- it is what the caller names
abbrev pub ghost-new : goal.ghost-new
ghost-new g a = g.part
