use Rattle.bench_kernels.proofs.standing.stood_by.Given as goal

-- it is what the caller names
abbrev pub ghost-of : goal.ghost-of
ghost-of g a = g.part
