use Rattle.wrap_calls.proofs.wrapped.Wrapped.new.Given as goal

-- it is what the caller names
abbrev pub ghost-of : goal.ghost-of
ghost-of g a = g.kernel
