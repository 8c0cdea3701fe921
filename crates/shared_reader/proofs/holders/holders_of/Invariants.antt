use Rattle.std.proofs.Common.{take}
use Rattle.shared_reader.specs.HoldersOf.{KnowsHolders}
use Rattle.shared_reader.proofs.holders.holders_of.Given as goal

abbrev pub invariant-loop-process : goal.invariant-loop-process
invariant-loop-process l = KnowsHolders l.holders (take l.process-index l.processes)
