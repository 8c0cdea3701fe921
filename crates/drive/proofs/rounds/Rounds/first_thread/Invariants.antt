use Rattle.std.proofs.Common.{◌≡◌, length, map as each}
use Rattle.plain_tables.specs.Tables.{pid}
use Rattle.checkpointer.specs.HandedOn.{plain_of}
use Rattle.trace_log.specs.Turns.{first_thread}
use Rattle.drive.proofs.rounds.Rounds.first_thread.Given as goal

abbrev pub invariant-loop-number : goal.invariant-loop-number
invariant-loop-number l =
    (first_thread (plain_of l.computation) l.p (each pid l.initial.self.processes) l.initial.self.threads ≡ first_thread (plain_of l.computation) l.p (each pid l.self.processes) l.self.threads)
    × (l.self.processes ≡ l.initial.self.processes) × (l.self.come ≡ l.initial.self.come)

abbrev pub decreases-loop-number : goal.decreases-loop-number
decreases-loop-number l = length l.self.threads
