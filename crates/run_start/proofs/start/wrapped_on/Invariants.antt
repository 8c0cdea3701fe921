use Rattle.run_start.proofs.start.wrapped_on.Given as goal

abbrev pub ghost-standing_for : goal.ghost-standing_for
ghost-standing_for a = a.kernel.now
