use Rattle.std.proofs.Common.{◌≡◌}
use Rattle.plain_machine.specs.Ends.{closed_below}
use Rattle.plain_machine.proofs.kernel.PlainKernel.close_below.Given as goal

abbrev pub invariant-loop-fd : goal.invariant-loop-fd
invariant-loop-fd l = l.self ≡ closed_below l.initial.self l.p l.fd
