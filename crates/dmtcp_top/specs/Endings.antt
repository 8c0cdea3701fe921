-- How a call comes to its end, before the log has its last line.
--     IsAtEnding ending session log        what holds there
--     KeepsPaceAt ending session log       how far console and log came, with a run by one thread
--     ComesToEnd ending words trace before now     both, and what a crash leaves
--     ending_by end records                how a call ends whose run ended so, in a trace of this room
--     IsLeft result back end records       what such a run leaves
--     IsCarriedOut result words trace before now     how a run came to its end, with the system there
use Rattle.std.specs.Prelude.{◌≡◌, ◌≢◌, ℕ, List, Option, Some, Result, Ok, Err, IfSome}
use Rattle.sys_abi.specs.declared.record.Record.{Record}
use Rattle.plain_machine.specs.declared.kernel.PlainKernel.{PlainKernel}
use Rattle.option_words.specs.Options.{Text}
use Rattle.trace_log.specs.LogText.{log_text}
use Rattle.endings.specs.declared.status.Status.TheVariants.{Done as IsDone, Memory as IsMemory}
use Rattle.endings.specs.declared.ending.Ending.{Ending}
use Rattle.endings.specs.declared.ending.Ending.TheVariants.{Done, SinkFault, Budget, Stuck, Memory}
use Rattle.endings.specs.Log.{memory_line}
use Rattle.endings.specs.Endings.{status_of, line_of}
use Rattle.edge_io.specs.Sunk.{Sunk, Took, TookFront}
use Rattle.drive.specs.declared.loop_end.LoopEnd.{LoopEnd}
use Rattle.drive.specs.RunEnds.{KernelAtEnd}
use Rattle.drive.specs.Pace.{LinesOf}
use Rattle.drive.specs.declared.loop_end.LoopEnd.TheVariants as loop_ended
use Rattle.dmtcp_top.specs.Sessions.{Session, Beginning, Outside, session_in, log_in}
use Rattle.dmtcp_top.specs.Ends.{Reaches, SinkFailed, Stopped, CallGoesInRounds}
use Rattle.dmtcp_top.specs.Promise.{StaysWhole}

abbrev pub IsAtEnding : Ending → Session → Sunk → Type 0
IsAtEnding SinkFault session log = SinkFailed session log
IsAtEnding Memory session log =
    Reaches IsMemory session memory_line × TookFront log (log_text session.left.trace)
IsAtEnding ending session log =
    Reaches (status_of ending) session (line_of ending) × Took log (log_text session.left.trace)

abbrev pub KeepsPaceAt : Ending → Session → Sunk → Type 0
KeepsPaceAt SinkFault session log = Stopped session log
KeepsPaceAt Memory session log = (lines : List ℕ) × (LinesOf session.left.trace lines × Took log lines)
KeepsPaceAt _ session log = Unit {0}

-- how a call came to its end with these words and this trace, from what is seen of what is outside at its
-- start to what is seen of it then
pub record ComesToEnd (ending : Ending) (words : List Text) (trace : List Record) (before now : Outside)
    : Type 0 where
  pub start : Option Beginning
  pub there : IsAtEnding ending (session_in words start trace before now) (log_in before now)
  pub pace : KeepsPaceAt ending (session_in words start trace before now) (log_in before now)
  pub in_rounds : CallGoesInRounds (session_in words start trace before now)
  pub whole : StaysWhole start trace before.folder now.folder

abbrev pub ending_by : LoopEnd → ℕ → Ending
ending_by loop_ended.Done records = Done
ending_by loop_ended.Budget records = Budget records
ending_by loop_ended.Stuck records = Stuck
ending_by loop_ended.SinkFault records = SinkFault
ending_by loop_ended.Memory records = Memory

-- where nobody lives it is the system that came back
abbrev pub IsLeft : Result PlainKernel Ending → Option PlainKernel → LoopEnd → ℕ → Type 0
IsLeft (Ok system) back end records = (back ≡ Some system) × (end ≡ loop_ended.Done)
IsLeft (Err ending) back end records = (ending ≡ ending_by end records) × (end ≢ loop_ended.Done)

-- how the call ends whose run gave this
abbrev pub ending_in : Result PlainKernel Ending → Ending
ending_in (Ok system) = Done
ending_in (Err ending) = ending

-- nobody lives at the end of the run, and this is the kernel part there
pub record IsRunOut (system : PlainKernel) (words : List Text) (trace : List Record) (before now : Outside)
    : Type 0 where
  pub come : ComesToEnd Done words trace before now
  pub state : IfSome come.start (λ begun. KernelAtEnd begun.state trace system)

-- it came to its end otherwise
pub record IsStopped (ending : Ending) (words : List Text) (trace : List Record) (before now : Outside)
    : Type 0 where
  pub come : ComesToEnd ending words trace before now
  pub other : status_of ending ≢ IsDone

abbrev pub IsCarriedOut : Result PlainKernel Ending → List Text → List Record → Outside → Outside → Type 0
IsCarriedOut (Ok system) words trace before now = IsRunOut system words trace before now
IsCarriedOut (Err ending) words trace before now = IsStopped ending words trace before now
