-- A computation as its callers see it, and what one record of work does to it.
--     plain_of c        the plain state for which it stands        user_at c p     a process's own part
--     IsReady c         that state is a valid one
--     CanWork g p t next        this can come next in the thread's turn
--     IsTold users p t did      a record of instructions tells where the thread stands after it
--     Worked, Failed    one record of the thread's turn, which the console took, or a first part of it
use Rattle.std.specs.Prelude.{◌≡◌, true, None, Option, Some}
use Rattle.std.specs.FinMap as map
use Rattle.views.specs.Maps.{map_values}
use Rattle.views.specs.Numbers.{SignalNumber}
use Rattle.sys_abi.specs.declared.identity.VPid.{VPid}
use Rattle.sys_abi.specs.declared.identity.Tid.{Tid}
use Rattle.sys_abi.specs.declared.record.Record.{Record}
use Rattle.sys_abi.specs.declared.record.Record.TheVariants.{User, Call, Deliver}
use Rattle.trace_log.specs.Trace.{TraceState}
use Rattle.trace_log.specs.Turns.{Place, goes_on, stands_in}
use Rattle.plain_process.specs.declared.user_part.UserPart.{UserPart}
use Rattle.plain_machine.specs.declared.plain.Plain.{Plain}
use Rattle.plain_machine.specs.Records.{Users}
use Rattle.plain_machine.specs.Valid.{IsValid}
use Rattle.guest_proc.specs.Guests.{GuestPart}
use Rattle.guest_proc.specs.declared.ran.Ran.{Ran}
use Rattle.computation.specs.declared.computation.Computation.{Computation}
use Rattle.computation.specs.declared.computation.Did.{Did}
use Rattle.computation.specs.declared.computation.Did.TheVariants as did_was
use Rattle.computation.specs.declared.computation.Next.{Next}
use Rattle.computation.specs.declared.computation.Next.TheVariants as next_is
use Rattle.computation.specs.Parts.{StandsAt}
use Rattle.edge_io.specs.Sunk.{Sunk}
use Rattle.computation.specs.Takes.{CanDeliver, Takes, Breaks, IsDueWork}

abbrev pub plain_of : Computation → Plain
plain_of c = record { kernel = c.kernel; users = map_values (λ guest. guest.user) c.guests }

abbrev pub user_at : Computation → VPid → Option UserPart
user_at c p = map.get (plain_of c).users p

-- the plain state is a valid one, and each process's own part stands under its number
pub record IsReady (c : Computation) : Type 0 where
  pub valid : IsValid (plain_of c)
  pub numbered : (p : VPid) (guest : GuestPart) → map.get c.guests p ≡ Some guest → guest.pid ≡ p

-- the thread stands there, and can go on
pub record CanGoOn (g : Plain) (p : VPid) (t : Tid) (ran : Ran) : Type 0 where
  pub stands : StandsAt g.users p t.0 ran
  pub goes : goes_on g p t.0 (map.get g.users p) ≡ true

abbrev pub CanWork : Plain → VPid → Tid → Next → Type 0
CanWork g p t (next_is.Deliver s) = CanDeliver g p t s
CanWork g p t (next_is.GoOn ran) = CanGoOn g p t ran

-- the signal that is delivered first, if one is
abbrev pub first_signal : Next → Option SignalNumber
first_signal (next_is.Deliver s) = Some s.0
first_signal (next_is.GoOn ran) = None

abbrev pub IsDid : Did → Record → Type 0
IsDid (did_was.Ran ran) (User p t n) = Unit {0}
IsDid did_was.Served (Call p t) = Unit {0}
IsDid did_was.Delivered (Deliver p t s) = Unit {0}
IsDid _ _ = ⊥

abbrev pub IsTold : Users → VPid → Tid → Did → Type 0
IsTold users p t (did_was.Ran ran) = StandsAt users p t.0 ran
IsTold users p t _ = Unit {0}

-- the place in the rounds is a turn of the thread in which this comes next; where the thread has run its
-- quantum it stands at a call or a trap
pub record IsTurnAt (g : Plain) (p : VPid) (t : Tid) (next : Next) (here : Place) : Type 0 where
  pub process : here.p ≡ p
  pub thread : here.t ≡ t.0
  pub first : here.signal ≡ first_signal next
  pub stopped : here.has_run ≡ true → stands_in (map.get g.users p) t.0 ≡ true

pub record Worked (before after : Plain) (p : VPid) (t : Tid) (next : Next) (did : Did)
    (from to : TraceState) (console : Sunk) : Type 0 where
  pub noted : Record
  pub took : Takes before after noted from to console
  pub kind : IsDid did noted
  pub told : IsTold after.users p t did
  pub due : (here : Place) → IsTurnAt before p t next here → IsDueWork before here noted

pub record Failed (before after : Plain) (p : VPid) (t : Tid) (next : Next)
    (from to : TraceState) (console : Sunk) : Type 0 where
  pub noted : Record
  pub broke : Breaks before after noted from to console
  pub due : (here : Place) → IsTurnAt before p t next here → IsDueWork before here noted
