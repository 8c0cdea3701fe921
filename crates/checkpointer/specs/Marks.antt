-- The marks of one kind between a cut and its outcome, as far as the trace has room.
--     mark_of passes dir n        the mark that the bytes of a direction were drained, or refilled
--     marks_of passes g           those of all directions with bytes left, in rising order
--     with_marks trace marks      the trace with as many of them as it has room for
--     unsupported_at found        a descriptor that no image holds, in the words of the machine
use Rattle.std.specs.Prelude.{ℕ, ◌-◌, List, ◌++◌, length, take}
use Rattle.sys_abi.specs.declared.identity.Dir.{Dir}
use Rattle.sys_abi.specs.declared.record.Record.{Record}
use Rattle.sys_abi.specs.declared.record.Record.TheVariants.{Drained, Refilled}
use Rattle.plain_tables.specs.Tables.{slot}
use Rattle.plain_machine.specs.declared.plain.Plain.{Plain}
use Rattle.plain_machine.specs.Tests.{UnsupportedAt}
use Rattle.trace_log.specs.Requests.{all_left}
use Rattle.trace_log.specs.Trace.{TraceState}
use Rattle.checkpointer.specs.declared.marks.Pass.{Pass}
use Rattle.checkpointer.specs.declared.marks.Pass.TheVariants as pass
use Rattle.checkpointer.specs.declared.unsupported.Unsupported.{Unsupported}

abbrev pub mark_of : Pass → Dir → ℕ → Record
mark_of pass.Drain dir n = Drained dir n
mark_of pass.Refill dir n = Refilled dir n

abbrev pub marks_of : Pass → Plain → List Record
marks_of passes g = all_left (mark_of passes) g

abbrev pub with_marks : TraceState → List Record → TraceState
with_marks trace marks = record {
  records = trace.records ++ take trace.room marks;
  room = trace.room - length marks;
}

abbrev pub unsupported_at : Unsupported → UnsupportedAt
unsupported_at found = record { slot = slot found.p found.fd.0; kind = found.kind }
