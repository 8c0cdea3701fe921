-- How far a round has come in the code, and what was chosen to be next, in the words of the rounds.
--     place_in rounds turn         the place in the rounds that a turn is, before those that follow
--     IsCome rounds g upcoming     the round has come this far, at the state of now
--     IsToldOf come users          what is told of where a thread stands is so now
--     chosen rounds g choice       what was chosen, as what is due
--     CanTake g choice             it can be done
--     Notes, Spoils                one record that was due, which the console took, or a first part of it
use Rattle.std.specs.Prelude.{◌≡◌, ℕ, Bool, true, false, List, [], ◌∷◌, Option, Some, None, map as each}
use Rattle.std.specs.FinMap as map
use Rattle.sys_abi.specs.declared.identity.Dir.{Dir}
use Rattle.sys_abi.specs.declared.record.Record.{Record}
use Rattle.trace_log.specs.Trace.{TraceState}
use Rattle.trace_log.specs.Requests.{is_mark}
use Rattle.trace_log.specs.Turns.{Place, Due, Arrival, InTurn, Upcoming, NewRound, After, coming, is_due_at, stands_in}
use Rattle.plain_machine.specs.declared.plain.Plain.{Plain}
use Rattle.plain_machine.specs.Records.{Users}
use Rattle.plain_machine.specs.Tests.{is_work}
use Rattle.plain_tables.specs.Tables.{pid}
use Rattle.checkpointer.specs.HandedOn.{CanWork, IsDid, IsTold, first_signal}
use Rattle.edge_io.specs.Sunk.{Sunk}
use Rattle.checkpointer.specs.HandedOn.{Takes, Breaks}
use Rattle.drive.specs.declared.rounds.Turn.{Turn}
use Rattle.drive.specs.declared.rounds.Come.{Come}
use Rattle.drive.specs.declared.rounds.Come.TheVariants as has_come
use Rattle.drive.specs.declared.rounds.Chosen.{Chosen}
use Rattle.drive.specs.declared.rounds.Chosen.TheVariants as to_do
use Rattle.drive.specs.declared.rounds.Made.{Made}
use Rattle.drive.specs.declared.rounds.Made.TheVariants as made_was
use Rattle.drive.specs.declared.rounds.Rounds.{Rounds}

-- those that follow the turn: the threads of its process, and the processes of the round
abbrev pub place_of : Turn → List ℕ → List ℕ → Place
place_of turn threads processes = record {
  p = turn.process;
  t = turn.thread.0;
  signal = first_signal turn.next;
  has_run = turn.has_run;
  threads = threads;
  processes = each pid processes;
}

abbrev pub place_in : Rounds → Turn → Place
place_in rounds turn = place_of turn rounds.threads rounds.processes

-- a round begins, an arrival came that was due, or a record of the turn did
unfoldable pub IsComeSo : Come → Rounds → Plain → Upcoming → Type 0
IsComeSo has_come.NewRound rounds g upcoming = upcoming ≡ NewRound
IsComeSo has_come.Arrived rounds g upcoming =
    (dir : Dir) × ((r : Record) × (upcoming ≡ After (Arrival dir (coming g)) r))
IsComeSo (has_come.Worked turn did) rounds g upcoming =
    (r : Record) × (IsDid did r × (upcoming ≡ After (InTurn (place_in rounds turn)) r))

abbrev pub IsCome : Rounds → Plain → Upcoming → Type 0
IsCome rounds g upcoming = IsComeSo rounds.come rounds g upcoming

-- a checkpoint that follows the record leaves each process's own part as it is
abbrev pub IsToldOf : Come → Users → Type 0
IsToldOf (has_come.Worked turn did) users = IsTold users turn.process turn.thread did
IsToldOf _ users = Unit {0}

abbrev pub rest_of : List Dir → List Dir
rest_of [] = []
rest_of (dir ∷ dirs) = dirs

-- behind an arrival come those of the other directions
abbrev pub chosen : Rounds → Plain → Option Chosen → Option Due
chosen rounds g None = None
chosen rounds g (Some (to_do.Arrival dir)) = Some (Arrival dir (rest_of (coming g)))
chosen rounds g (Some (to_do.Turn turn)) = Some (InTurn (place_in rounds turn))

pub record CanTurn (g : Plain) (turn : Turn) : Type 0 where
  pub able : CanWork g turn.process turn.thread turn.next
  pub stopped : turn.has_run ≡ true → stands_in (map.get g.users turn.process) turn.thread.0 ≡ true

abbrev pub CanTake : Plain → Chosen → Type 0
CanTake g (to_do.Arrival dir) = coming g ≡ dir ∷ rest_of (coming g)
CanTake g (to_do.Turn turn) = CanTurn g turn

abbrev pub is_made_work : Made → Bool
is_made_work made_was.Arrival = false
is_made_work made_was.Work = true

-- one record that was due
pub record Notes (before after : Plain) (due : Option Due) (made : Made) (from to : TraceState)
    (console : Sunk) : Type 0 where
  pub noted : Record
  pub own : is_due_at before due noted ≡ true
  pub no_mark : is_mark noted ≡ false
  pub kind : is_work noted ≡ is_made_work made
  pub took : Takes before after noted from to console

-- one more record that was due, which broke off
pub record Spoils (before after : Plain) (due : Option Due) (from to : TraceState) (console : Sunk) : Type 0 where
  pub noted : Record
  pub own : is_due_at before due noted ≡ true
  pub work : is_work noted ≡ true
  pub broke : Breaks before after noted from to console

-- the round has come past the record
abbrev pub IsPast : Rounds → Plain → Option Due → Record → Type 0
IsPast rounds after due noted = (d : Due) → due ≡ Some d → IsCome rounds after (After d noted)
