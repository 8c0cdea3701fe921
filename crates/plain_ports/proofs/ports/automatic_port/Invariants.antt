use Rattle.std.proofs.Common.{◌≡◌, ◌-◌}
use Rattle.plain_machine.specs.Addresses.{unused_among}
use Rattle.plain_ports.proofs.ports.automatic_port.Given as goal

-- what is found from here is what is found from the start
abbrev pub invariant-loop-port : goal.invariant-loop-port
invariant-loop-port l =
    unused_among l.fn.kernel l.host 32768 28232 ≡ unused_among l.fn.kernel l.host l.port (61000 - l.port)
