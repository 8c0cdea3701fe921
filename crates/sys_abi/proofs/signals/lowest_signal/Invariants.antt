use Rattle.sys_abi.specs.Signals.{has_signal}
use Rattle.sys_abi.proofs.SignalSets.{NonePasses}
use Rattle.sys_abi.proofs.signals.lowest_signal.Given as goal

abbrev pub invariant-loop-s : goal.invariant-loop-s
invariant-loop-s l = NonePasses (has_signal l.set) 1 l.s
