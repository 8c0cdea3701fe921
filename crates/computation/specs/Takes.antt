-- What one record does to a plain state, the trace and the console.
--     Takes, Breaks     a record on the trace, with its bytes on the console, or a first part of them
--     IsDueWork         it is work that is due at the place in the rounds
use Rattle.std.specs.Prelude.{◌≡◌, ℕ, true, List, ◌++◌, Some, is_some}
use Rattle.sys_abi.specs.declared.identity.VPid.{VPid}
use Rattle.sys_abi.specs.declared.identity.Tid.{Tid}
use Rattle.sys_abi.specs.declared.identity.Signal.{Signal}
use Rattle.sys_abi.specs.declared.record.Record.{Record}
use Rattle.sys_abi.specs.declared.record.Record.TheVariants.{Deliver}
use Rattle.trace_log.specs.Trace.{TraceState, with_record}
use Rattle.trace_log.specs.Turns.{Place, is_due_in}
use Rattle.plain_machine.specs.declared.plain.Plain.{Plain}
use Rattle.plain_machine.specs.Records.{outcome}
use Rattle.plain_machine.specs.Tests.{is_work}
use Rattle.edge_io.specs.Sunk.{Sunk, Took, TookFront}

-- the signal is that of the trap at which the thread stands, or it is pending and the thread's mask lets it
-- through
abbrev pub CanDeliver : Plain → VPid → Tid → Signal → Type 0
CanDeliver g p t s = is_some (outcome g (Deliver p t s)) ≡ true

-- this record was made, and the console took its bytes
pub record Takes (before after : Plain) (r : Record) (from to : TraceState) (console : Sunk) : Type 0 where
  pub bytes : List ℕ
  pub outcome : outcome before r ≡ Some (record { state = after; console = bytes })
  pub trace : to ≡ with_record from r
  pub shown : Took console bytes

-- this record was made, and the console took a first part of its bytes; the kernel part is that after it, and
-- its answer may not be put
pub record Breaks (before after : Plain) (r : Record) (from to : TraceState) (console : Sunk) : Type 0 where
  pub bytes : List ℕ
  pub state : Plain
  pub outcome : outcome before r ≡ Some (record { state = state; console = bytes })
  pub kernel : after.kernel ≡ state.kernel
  pub trace : to ≡ with_record from r
  pub shown : TookFront console bytes

-- a record of work that is due at the place
pub record IsDueWork (now : Plain) (here : Place) (r : Record) : Type 0 where
  pub work : is_work r ≡ true
  pub due : is_due_in now here r ≡ true
