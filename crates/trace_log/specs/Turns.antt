-- The order in which one thread of the host runs the threads of all processes: round after round, while
-- somebody lives. At the start of a round, where bytes are on the way, all that are missing of a direction
-- arrive at once, one direction after the other, in rising order. A round has the processes that live at its
-- start, in rising order. When a process's turn comes, the threads that it has then follow each other in
-- rising order. In its turn a thread has the least of the signals delivered that are pending and that its
-- mask lets through, and runs one quantum, unless it stands at a call or a trap; if it then stands at a call
-- that is ready the call is served, if at a trap that is delivered. Who has ended meanwhile or can do nothing
-- of this is passed over.
--     new_round g            what is due first in a round that starts at this state
--     after_turn g here r    what is due after a record of the turn
--     due_at g upcoming      what is due at this state, where a round comes this far
use Rattle.std.specs.Prelude.{◌==◌, ◌-◌, ◌&&◌, ◌||◌, ℕ, Bool, true, false, not, nat_lt, List, [], ◌∷◌, length, Option, Some, None, is_some, if◌then◌else◌}
use Rattle.std.specs.List.{filter_map}
use Rattle.std.specs.Option.{option_map, option_or}
use Rattle.std.specs.FinMap as map
use Rattle.views.specs.Numbers.{ThreadNumber, SignalNumber}
use Rattle.sys_abi.specs.declared.identity.VPid.{VPid}
use Rattle.sys_abi.specs.declared.identity.Tid.{Tid}
use Rattle.sys_abi.specs.declared.identity.Dir.{Dir}
use Rattle.sys_abi.specs.declared.record.Record.{Record}
use Rattle.sys_abi.specs.declared.record.Record.TheVariants.{User, Call, Deliver, Arrive}
use Rattle.plain_machine.specs.declared.plain.Plain.{Plain}
use Rattle.plain_tables.specs.declared.channel.Direction.{Direction}
use Rattle.plain_process.specs.declared.user_part.UserPart.{UserPart}
use Rattle.plain_process.specs.declared.user_part.ThreadPart.{ThreadPart}
use Rattle.plain_process.specs.Deliveries.{traps_with}
use Rattle.plain_machine.specs.Records.{step, stands, deliverable}
use Rattle.plain_process.specs.Steps.{UserStep, Stepped, Asks, Trapped, Waits, NoThread, user_step}
use Rattle.sys_abi.specs.Signals.{lowest_signal}

-- a thread's turn in a round: the signal that is delivered first, if one is, and whether the thread has run
-- its quantum
pub record Place : Type 0 where
  pub p : VPid
  pub t : ThreadNumber
  pub signal : Option SignalNumber
  pub has_run : Bool
  pub threads : List ThreadNumber  -- those of p whose turn is still to come
  pub processes : List VPid  -- those of this round whose turn is still to come

-- what is due: all bytes that are missing of a direction arrive, and then those of the others; or a thread
-- has its turn
pub data Due : Type 0 where
  Arrival : Dir → List Dir → Due
  InTurn : Place → Due

abbrev pub threads_in : Option UserPart → List ThreadNumber
threads_in None = []
threads_in (Some user) = map.keys user.threads

-- the least of the pending signals that the thread's mask lets through
abbrev pub signal_for : Plain → VPid → ThreadNumber → Option ThreadPart → Option SignalNumber
signal_for g p t None = None
signal_for g p t (Some thread) = lowest_signal (deliverable g.kernel p t thread)

unfoldable pub due_signal : Plain → VPid → ThreadNumber → Option UserPart → Option SignalNumber
due_signal g p t None = None
due_signal g p t (Some user) = signal_for g p t (map.get user.threads t)

-- the thread can go on: its next instruction does, or it stands at a trap or at a call that is ready
abbrev pub goes_on_at : Plain → VPid → ThreadNumber → UserStep → Bool
goes_on_at g p t (Stepped user) = true
goes_on_at g p t (Asks q) = is_some (step g (Call p (record { 0 = t })))
goes_on_at g p t (Trapped s) = true
goes_on_at g p t Waits = false
goes_on_at g p t NoThread = false

unfoldable pub goes_on : Plain → VPid → ThreadNumber → Option UserPart → Bool
goes_on g p t None = false
goes_on g p t (Some user) = goes_on_at g p t (user_step user t)

abbrev pub turn_with : VPid → ThreadNumber → List ThreadNumber → List VPid → Bool → Option SignalNumber
    → Option Place
turn_with p t threads processes can signal =
    if is_some signal || can then
    Some (record { p = p; t = t; signal = signal; has_run = false; threads = threads; processes = processes })
    else
    None

-- a thread's turn, where a signal is to be delivered to it or it can go on
abbrev pub turn_of : Plain → VPid → ThreadNumber → List ThreadNumber → List VPid → Option Place
turn_of g p t threads processes =
    turn_with p t threads processes (goes_on g p t (map.get g.users p)) (due_signal g p t (map.get g.users p))

-- the turn of the first of these threads of a process that has one
unfoldable pub first_thread : Plain → VPid → List VPid → List ThreadNumber → Option Place
first_thread g p processes [] = None
first_thread g p processes (t ∷ threads) =
    option_or (turn_of g p t threads processes) (first_thread g p processes threads)

-- the first turn of the first of these processes that has one
unfoldable pub first_turn : Plain → List VPid → Option Place
first_turn g [] = None
first_turn g (p ∷ processes) =
    option_or (first_thread g p processes (threads_in (map.get g.users p))) (first_turn g processes)

-- the directions of which bytes are missing, in rising order
abbrev pub if_missing : Dir × Direction → Option Dir
if_missing entry = if nat_lt entry.1.arrived (length entry.1.left) then Some entry.0 else None

unfoldable pub coming : Plain → List Dir
coming g = filter_map if_missing (map.entries g.kernel.directions)

-- the rest of a round from its arrivals on, none where nobody lives
abbrev pub round_of : Plain → List Dir → List VPid → Option Due
round_of g dirs [] = None
round_of g [] (p ∷ processes) = option_map InTurn (first_turn g (p ∷ processes))
round_of g (dir ∷ dirs) (p ∷ processes) = Some (Arrival dir dirs)

abbrev pub round_from : Plain → List Dir → Option Due
round_from g dirs = round_of g dirs (map.keys g.users)

abbrev pub new_round : Plain → Option Due
new_round g = round_from g (coming g)

-- the next turn of a thread of the same process, and of one after it
abbrev pub turn_in_process : Plain → Place → Option Due
turn_in_process g here = option_map InTurn (first_thread g here.p here.processes here.threads)

abbrev pub turn_in_round : Plain → Place → Option Due
turn_in_round g here = option_map InTurn (first_turn g here.processes)

abbrev pub next_turn : Plain → Place → Option Due
next_turn g here = option_or (turn_in_process g here) (option_or (turn_in_round g here) (new_round g))

abbrev pub is_turn_of : Place → VPid → Tid → Bool
is_turn_of here p t = (here.p.0 == p.0) && (here.t == t.0)

-- a signal that is due is delivered first; later only that of the trap at which the thread stands is
abbrev pub traps_in : Option UserPart → ThreadNumber → SignalNumber → Bool
traps_in None t s = false
traps_in (Some user) t s = traps_with (user_step user t) s

abbrev pub is_due_signal : Plain → Place → SignalNumber → Option SignalNumber → Bool
is_due_signal g here s (Some due) = due == s
is_due_signal g here s None = traps_in (map.get g.users here.p) here.t s

abbrev pub is_due_in : Plain → Place → Record → Bool
is_due_in g here (User p t n) = is_turn_of here p t && not here.has_run && not (is_some here.signal)
is_due_in g here (Call p t) = is_turn_of here p t && not (is_some here.signal)
is_due_in g here (Deliver p t s) = is_turn_of here p t && is_due_signal g here s.0 here.signal
is_due_in g here _ = false

-- all bytes that are missing of the direction arrive
abbrev pub missing_in : Option Direction → ℕ
missing_in None = 0
missing_in (Some direction) = length direction.left - direction.arrived

abbrev pub is_all_missing : Plain → Dir → ℕ → Bool
is_all_missing g dir n = n == missing_in (map.get g.kernel.directions dir)

abbrev pub is_same_dir : Dir → Dir → Bool
is_same_dir a b = (a.conn.pid.0 == b.conn.pid.0) && (a.conn.num == b.conn.num) && (a.side == b.side)

abbrev pub is_arrival : Plain → Dir → Record → Bool
is_arrival g dir (Arrive other n) = is_same_dir other dir && is_all_missing g dir n
is_arrival g dir _ = false

abbrev pub is_due_at : Plain → Option Due → Record → Bool
is_due_at g None r = false
is_due_at g (Some (Arrival dir dirs)) r = is_arrival g dir r
is_due_at g (Some (InTurn here)) r = is_due_in g here r

abbrev pub stands_in : Option UserPart → ThreadNumber → Bool
stands_in None t = false
stands_in (Some user) t = stands (user_step user t)

-- the thread goes on with its turn, if it can
abbrev pub same_turn : Plain → Place → Bool → Option Due
same_turn g here has_run =
    if goes_on g here.p here.t (map.get g.users here.p) then
    Some (InTurn (record here { signal = None; has_run = has_run }))
    else
    next_turn g here

-- what is due after a record of a turn
abbrev pub after_turn : Plain → Place → Record → Option Due
after_turn g here (User p t n) =
    if stands_in (map.get g.users here.p) here.t then same_turn g here true else next_turn g here
after_turn g here (Call p t) = next_turn g here
after_turn g here (Deliver p t s) = if is_some here.signal then same_turn g here false else next_turn g here
after_turn g here _ = None

-- how far a round has come: it begins, or the record came that was due
pub data Upcoming : Type 0 where
  NewRound : Upcoming
  After : Due → Record → Upcoming

abbrev pub due_at : Plain → Upcoming → Option Due
due_at g NewRound = new_round g
due_at g (After (Arrival dir dirs) r) = round_from g dirs
due_at g (After (InTurn here) r) = after_turn g here r
