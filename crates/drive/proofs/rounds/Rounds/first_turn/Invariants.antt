use Rattle.std.proofs.Common.{◌≡◌, length, map as each}
use Rattle.plain_tables.specs.Tables.{pid}
use Rattle.checkpointer.specs.HandedOn.{plain_of}
use Rattle.trace_log.specs.Turns.{first_turn}
use Rattle.drive.proofs.rounds.Rounds.first_turn.Given as goal

abbrev pub invariant-loop-number : goal.invariant-loop-number
invariant-loop-number l =
    (first_turn (plain_of l.computation) (each pid l.initial.self.processes) ≡ first_turn (plain_of l.computation) (each pid l.self.processes)) × (l.self.come ≡ l.initial.self.come)

abbrev pub decreases-loop-number : goal.decreases-loop-number
decreases-loop-number l = length l.self.processes
