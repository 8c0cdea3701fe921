use Rattle.std.proofs.Common.{◌≡◌, ◌++◌, map as each}
use Rattle.std.specs.FinMap as map
use Rattle.plain_tables.specs.Tables.{pid}
use Rattle.drive.proofs.rounds.queue_processes.Given as goal

-- who is queued stands before who is left
abbrev pub invariant-loop-p : goal.invariant-loop-p
invariant-loop-p l = each pid l.queue ++ l.p-iterator ≡ map.keys l.computation.guests
