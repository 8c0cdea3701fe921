use Rattle.std.proofs.Common.{◌≡◌, ℕ, ◌-◌}
use Rattle.plain_machine.specs.declared.kernel.PlainKernel.{PlainKernel}
use Rattle.plain_machine.specs.Addresses.{unused_among}
use Rattle.wrap_names.specs.Wrapping.{IsWrapped}
use Rattle.wrap_names.proofs.ports.automatic_port.Given as goal

-- what is found from here is what is found from the start
abbrev pub invariant-loop-port : goal.invariant-loop-port
invariant-loop-port l =
    (k : PlainKernel) (next_id : ℕ) → IsWrapped l.fn.system next_id k
    → unused_among k l.host 32768 28232 ≡ unused_among k l.host l.port (61000 - l.port)
