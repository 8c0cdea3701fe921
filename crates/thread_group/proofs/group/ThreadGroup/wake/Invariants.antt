use Rattle.std.proofs.Common.{◌≡◌}
use Rattle.plain_process.specs.Threads.{wake}
use Rattle.process_memory.specs.MemoryParts.{MemoryPart}
use Rattle.thread_group.specs.Groups.{joined}
use Rattle.thread_group.proofs.group.ThreadGroup.wake.Given as goal

abbrev pub invariant-loop-count : goal.invariant-loop-count
invariant-loop-count l = record {
  woken : (memory : MemoryPart) → wake l.count l.address (joined memory l.initial.self) ≡ record { user = joined memory l.self; count = l.count };
  spare : l.self.spare ≡ l.initial.self.spare;
}
