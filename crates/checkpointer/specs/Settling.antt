-- How a cut's set is told, behind the marks of what is refilled.
--     told_of generation result     the outcome of a set that was put, or refused
--     refilled g trace              the trace with the marks of what is refilled, as far as it has room
--     past_refills g trace checkpointer     the checkpointer that made these marks
--     IsUntold ..                   they fill the trace, and the outcome has no mark
--     IsTold ..                     the outcome stands behind them, and the log took its line, or a first part
--                                   of it where it failed
--     Settles ..                    the one or the other
use Rattle.std.specs.Prelude.{◌≡◌, ◌⊎◌, ℕ, ◌<◌, List, Option, Result, Ok, Err, OnOk, OnErr, take}
use Rattle.sys_abi.specs.declared.record.Record.{Record}
use Rattle.sys_abi.specs.declared.record.Record.TheVariants.{Complete, Refused}
use Rattle.sys_abi.specs.declared.record.Cause.{Cause}
use Rattle.plain_machine.specs.declared.plain.Plain.{Plain}
use Rattle.trace_log.specs.Requests.{tally_after}
use Rattle.trace_log.specs.LogText.{line_of, after, after_all}
use Rattle.trace_log.specs.Trace.{TraceState, with_record}
use Rattle.image_store.specs.StoreStates.{Known}
use Rattle.edge_io.specs.Sunk.{sunk, Took, TookFront}
use Rattle.staged_cut.specs.HandedOn.{Stop}
use Rattle.checkpointer.specs.declared.checkpointer.Checkpointer.{Checkpointer}
use Rattle.checkpointer.specs.declared.marks.Pass.TheVariants as pass
use Rattle.checkpointer.specs.Marks.{marks_of, with_marks}

abbrev pub told_of : ℕ → Result Known Cause → Record
told_of generation (Ok done) = Complete generation
told_of generation (Err cause) = Refused cause

abbrev pub refilled : Plain → TraceState → TraceState
refilled g trace = with_marks trace (marks_of pass.Refill g)

abbrev pub past_refills : Plain → TraceState → Checkpointer → Checkpointer
past_refills g trace checkpointer =
    record checkpointer { lines = after_all checkpointer.lines (take trace.room (marks_of pass.Refill g)) }

pub record IsUntold (g : Plain) (result : Result (Unit {0}) Stop) (before later : Checkpointer)
    (from to : TraceState) (had has : Option (List ℕ)) : Type 0 where
  pub fine : result ≡ Ok tt
  pub checkpointer : later ≡ past_refills g from before
  pub trace : to ≡ refilled g from
  pub full : to.room ≡ 0
  pub silent : has ≡ had

pub record IsTold (g : Plain) (outcome : Record) (result : Result (Unit {0}) Stop)
    (before later : Checkpointer) (from to : TraceState) (had has : Option (List ℕ)) : Type 0 where
  pub room : 0 < (refilled g from).room
  pub checkpointer : OnOk result (later ≡ record (past_refills g from before) {
    tally = tally_after before.tally outcome;
    lines = after (past_refills g from before).lines outcome;
  })
  pub trace : to ≡ with_record (refilled g from) outcome
  pub ok : OnOk result (Took (sunk had has) (line_of (past_refills g from before).lines outcome))
  pub err : OnErr result (TookFront (sunk had has) (line_of (past_refills g from before).lines outcome))

abbrev pub Settles : Plain → Record → Result (Unit {0}) Stop → Checkpointer → Checkpointer → TraceState
    → TraceState → Option (List ℕ) → Option (List ℕ) → Type 0
Settles g outcome result before later from to had has =
    IsUntold g result before later from to had has ⊎ IsTold g outcome result before later from to had has
