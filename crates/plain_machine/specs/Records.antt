-- One record from a plain state: which state follows and what goes to the console, or nothing where the
-- record is no step of that state.
--     outcome g r      both      step g r      the state alone
use Rattle.std.specs.Prelude.{◌==◌, ◌&&◌, ◌||◌, ℕ, ◌+◌, Bool, true, false, not, nat_le, List, [], length, Option, Some, None, is_some, option_and_then, if◌then◌else◌}
use Rattle.std.specs.Option.{option_map}
use Rattle.std.specs.FinMap as map
use Rattle.plain_tables.specs.OfViews.Numbers.{ThreadNumber, SignalNumber, Byte}
use Rattle.plain_tables.specs.OfSysAbi.declared.identity.VPid.{VPid}
use Rattle.plain_tables.specs.OfSysAbi.declared.identity.Dir.{Dir}
use Rattle.plain_tables.specs.OfSysAbi.declared.record.Record.{Record}
use Rattle.plain_tables.specs.OfSysAbi.declared.record.Record.TheVariants.{User, Call, Deliver, Arrive, Cut, Drained, Refilled, Complete, Refused, Lapsed}
use Rattle.plain_tables.specs.OfCallTable.declared.request.Request.{Request}
use Rattle.plain_tables.specs.OfSysAbi.Orders.{vpid_cmp}
use Rattle.plain_tables.specs.OfCallTable.Requests.{is_local}
use Rattle.plain_tables.specs.OfSysAbi.Signals.{has_signal, without_signals}
use Rattle.plain_machine.specs.declared.plain.Plain.{Plain}
use Rattle.plain_tables.specs.declared.channel.Direction.{Direction}
use Rattle.plain_machine.specs.declared.kernel.PlainKernel.{PlainKernel}
use Rattle.plain_tables.specs.OfPlainProcess.declared.user_part.UserPart.{UserPart}
use Rattle.plain_tables.specs.OfPlainProcess.declared.user_part.ThreadPart.{ThreadPart}
use Rattle.plain_machine.specs.Attempts.{Served}
use Rattle.plain_machine.specs.Kernel.{is_live, pending, after_take}
use Rattle.plain_machine.specs.Ends.{after_end}
use Rattle.plain_tables.specs.OfPlainProcess.Steps.{UserStep, Asks, Trapped, Waits, user_step, user_steps}
use Rattle.plain_tables.specs.OfPlainProcess.Buffers.{lent}
use Rattle.plain_tables.specs.OfPlainProcess.Put.{made_by, put, put_fault}
use Rattle.plain_tables.specs.OfPlainProcess.Threads.{child_of}
use Rattle.plain_tables.specs.Tables.{pid}
use Rattle.plain_tables.specs.OfPlainProcess.Local.{local_row}
use Rattle.plain_tables.specs.OfPlainProcess.Deliveries.{Delivery, Enters, Ignores, Kills, deliver, traps_with}
use Rattle.plain_machine.specs.Serve.{serve}

-- how many instructions a thread runs at most in one record
abbrev pub QUANTUM : ℕ
QUANTUM = 4096

pub record Outcome : Type 0 where
  pub state : Plain
  pub console : List Byte

abbrev pub quiet : Plain → Outcome
quiet g = record { state = g; console = [] }

abbrev pub with_user : Plain → VPid → UserPart → Plain
with_user g p user = record { kernel = g.kernel; users = map.insert g.users p user }

-- the user parts of the processes that live
abbrev pub living : Plain → Plain
living g = record { kernel = g.kernel; users = map.retain_keys g.users (is_live g.kernel) }

-- the thread stands at a call or a trap
abbrev pub stands : UserStep → Bool
stands (Asks q) = true
stands (Trapped s) = true
stands _ = false

abbrev pub user_ends : ℕ → ThreadNumber → UserPart → Bool
user_ends n t user = (n == QUANTUM) || stands (user_step user t)

abbrev pub if_ends : Plain → VPid → ThreadNumber → ℕ → UserPart → Option Outcome
if_ends g p t n user = if user_ends n t user then Some (quiet (with_user g p user)) else None

abbrev pub outcome_of_user : Plain → VPid → ThreadNumber → ℕ → Option UserPart → Option Outcome
outcome_of_user g p t n None = None
outcome_of_user g p t n (Some user) =
    if nat_le 1 n && nat_le n QUANTUM then option_and_then (if_ends g p t n) (user_steps n user t) else None

abbrev pub Users : Type 0
Users = map.FinMap vpid_cmp UserPart

-- with the child that an answer makes, under the next number: its part comes of the caller's before that
abbrev pub with_child : Users → UserPart → ThreadNumber → Request → ℕ → Option ℕ → Users
with_child users user t q next None = users
with_child users user t q next (Some number) = map.insert users (pid next) (child_of user t next q)

abbrev pub users_after : Plain → VPid → ThreadNumber → UserPart → Request → Served → Users
users_after g p t user q served =
    with_child (map.insert g.users p (put user t q served.reply served.bytes)) user t q g.kernel.next_id
    (made_by q served.reply)

abbrev pub outcome_of_serve : Plain → VPid → ThreadNumber → UserPart → Request → Option Served
    → Option Outcome
outcome_of_serve g p t user q None = None
outcome_of_serve g p t user q (Some served) =
    Some (record {
      state = living (record { kernel = served.kernel; users = users_after g p t user q served });
      console = served.console;
    })

abbrev pub outcome_of_lent : Plain → VPid → ThreadNumber → UserPart → Request → Option (List Byte)
    → Option Outcome
outcome_of_lent g p t user q None = Some (quiet (with_user g p (put_fault user t q)))
outcome_of_lent g p t user q (Some given) =
    if is_local q then Some (quiet (with_user g p (local_row user t q))) else
    outcome_of_serve g p t user q (serve g.kernel p t q given)

abbrev pub outcome_of_ask : Plain → VPid → ThreadNumber → UserPart → UserStep → Option Outcome
outcome_of_ask g p t user (Asks q) = outcome_of_lent g p t user q (lent user.memory q)
outcome_of_ask g p t user _ = None

abbrev pub outcome_of_call : Plain → VPid → ThreadNumber → Option UserPart → Option Outcome
outcome_of_call g p t None = None
outcome_of_call g p t (Some user) = outcome_of_ask g p t user (user_step user t)

-- signals

-- a call that waits
abbrev pub waits_at : Plain → VPid → ThreadNumber → Request → Option (List Byte) → Bool
waits_at g p t q None = false
waits_at g p t q (Some given) = not (is_local q) && not (is_some (serve g.kernel p t q given))

-- the thread waits on a word, or stands at a call that isn't ready
abbrev pub is_unready : Plain → VPid → ThreadNumber → UserPart → UserStep → Bool
is_unready g p t user Waits = true
is_unready g p t user (Asks q) = waits_at g p t q (lent user.memory q)
is_unready g p t user _ = false

abbrev pub ended_by_signal : Plain → VPid → ℕ → Plain
ended_by_signal g p status = living (record { kernel = after_end g.kernel p status; users = g.users })

abbrev pub delivered : Plain → VPid → Delivery → Plain
delivered g p (Enters user) = with_user g p user
delivered g p Ignores = g
delivered g p (Kills status) = ended_by_signal g p status

-- the pending signals that the thread's mask lets through
abbrev pub deliverable : PlainKernel → VPid → ThreadNumber → ThreadPart → ℕ
deliverable k p t thread = without_signals (pending k p t) thread.mask

-- a signal with which the thread traps is delivered for that, and stays pending where it is
abbrev pub outcome_of_pending : Plain → VPid → ThreadNumber → SignalNumber → UserPart → Option ThreadPart
    → Option Outcome
outcome_of_pending g p t s user None = None
outcome_of_pending g p t s user (Some thread) =
    if traps_with (user_step user t) s then Some (quiet (delivered g p (deliver user t s false))) else
    if has_signal (deliverable g.kernel p t thread) s then
    Some (quiet (delivered (record { kernel = after_take g.kernel p t s; users = g.users }) p
    (deliver user t s (is_unready g p t user (user_step user t)))))
    else None

abbrev pub outcome_of_signal : Plain → VPid → ThreadNumber → SignalNumber → Option UserPart → Option Outcome
outcome_of_signal g p t s None = None
outcome_of_signal g p t s (Some user) = outcome_of_pending g p t s user (map.get user.threads t)

abbrev pub with_arrived : Plain → Dir → Direction → ℕ → Plain
with_arrived g dir direction n = record {
  kernel = record g.kernel {
    directions = map.insert g.kernel.directions dir (record {
      left = direction.left;
      arrived = direction.arrived + n;
      ended = direction.ended;
      unread = direction.unread;
    });
  };
  users = g.users;
}

abbrev pub outcome_of_arrival : Plain → Dir → ℕ → Option Direction → Option Outcome
outcome_of_arrival g dir n None = None
outcome_of_arrival g dir n (Some direction) =
    if nat_le 1 n && nat_le (direction.arrived + n) (length direction.left) then
    Some (quiet (with_arrived g dir direction n))
    else None

unfoldable pub outcome : Plain → Record → Option Outcome
outcome g (User p t n) = outcome_of_user g p t.0 n (map.get g.users p)
outcome g (Call p t) = outcome_of_call g p t.0 (map.get g.users p)
outcome g (Deliver p t s) = outcome_of_signal g p t.0 s.0 (map.get g.users p)
outcome g (Arrive dir n) = outcome_of_arrival g dir n (map.get g.kernel.directions dir)
outcome g (Cut generation) = Some (quiet g)
outcome g (Drained dir n) = Some (quiet g)
outcome g (Refilled dir n) = Some (quiet g)
outcome g (Complete generation) = Some (quiet g)
outcome g (Refused cause) = Some (quiet g)
outcome g Lapsed = Some (quiet g)

abbrev pub step : Plain → Record → Option Plain
step g r = option_map (λ o. o.state) (outcome g r)
