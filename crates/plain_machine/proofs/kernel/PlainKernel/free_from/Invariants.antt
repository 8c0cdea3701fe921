use Rattle.std.proofs.Common.{◌≡◌, ◌-◌}
use Rattle.plain_machine.specs.Kernel.{free_among}
use Rattle.plain_machine.proofs.kernel.PlainKernel.free_from.Given as goal

-- what is free from here is what is free from the start
abbrev pub invariant-loop-fd : goal.invariant-loop-fd
invariant-loop-fd l = free_among l.self.descriptors l.p l.fn.from (256 - l.fn.from) ≡ free_among l.self.descriptors l.p l.fd (256 - l.fd)
