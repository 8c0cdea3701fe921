-- The lines of a run's log for the checkpoints in its trace, one for each outcome of a request:
--     checkpoint I complete: generation G, drained N
--     checkpoint I refused: process P descriptor D is a datagram pair        or an event counter
--     checkpoint I refused: disk fault
--     checkpoint I refused: memory
--     checkpoint I lapsed
-- I counts the outcomes from 1, and N is the sum of the bytes drained since the outcome before.
use Rattle.std.specs.Prelude.{ℕ, ◌+◌, List, [], ◌∷◌, ◌++◌, codes}
use Rattle.std.specs.Fmt.{decimal}
use Rattle.views.specs.Numbers.{Byte}
use Rattle.sys_abi.specs.declared.identity.VPid.{VPid}
use Rattle.sys_abi.specs.declared.identity.Fd.{Fd}
use Rattle.sys_abi.specs.declared.record.Record.{Record}
use Rattle.sys_abi.specs.declared.record.Record.TheVariants.{Drained, Complete, Refused, Lapsed}
use Rattle.sys_abi.specs.declared.record.Cause.TheVariants.{Unsupported, DiskFault, Memory}
use Rattle.sys_abi.specs.declared.record.Kind.{Kind}
use Rattle.sys_abi.specs.declared.record.Kind.TheVariants.{Console, File, Stream, Socket, Listener, Datagram, Counter}
use Rattle.trace_log.specs.declared.log_lines.Progress.{Progress}

-- a checkpoint is refused for a datagram pair or an event counter alone. The other kinds have a text so that
-- each record has its line
unfoldable pub kind_text : Kind → List Byte
kind_text Console = codes "the console"
kind_text File = codes "a file"
kind_text Stream = codes "a stream"
kind_text Socket = codes "a socket"
kind_text Listener = codes "a listener"
kind_text Datagram = codes "a datagram pair"
kind_text Counter = codes "an event counter"

-- a line about the request that has its outcome
abbrev pub about : Progress → List Byte → List Byte
about so_far text = codes "checkpoint " ++ decimal so_far.request ++ text

abbrev pub complete_text : ℕ → ℕ → List Byte
complete_text generation drained =
    codes " complete: generation " ++ decimal generation ++ codes ", drained " ++ decimal drained

abbrev pub unsupported_text : VPid → Fd → Kind → List Byte
unsupported_text p fd kind =
    codes " refused: process " ++ decimal p.0 ++ codes " descriptor " ++ decimal fd.0
    ++ codes " is " ++ kind_text kind

-- the line of a record, or nothing where it is no outcome
unfoldable pub line_of : Progress → Record → List Byte
line_of so_far (Complete generation) = about so_far (complete_text generation so_far.drained ++ codes "\n")
line_of so_far (Refused (Unsupported p fd kind)) = about so_far (unsupported_text p fd kind ++ codes "\n")
line_of so_far (Refused DiskFault) = about so_far (codes " refused: disk fault\n")
line_of so_far (Refused Memory) = about so_far (codes " refused: memory\n")
line_of so_far Lapsed = about so_far (codes " lapsed\n")
line_of so_far _ = []

-- how far things are after the record
unfoldable pub after : Progress → Record → Progress
after so_far (Drained dir n) = record so_far { drained = so_far.drained + n }
after so_far (Complete generation) = record { request = so_far.request + 1; drained = 0 }
after so_far (Refused cause) = record { request = so_far.request + 1; drained = 0 }
after so_far Lapsed = record { request = so_far.request + 1; drained = 0 }
after so_far _ = so_far

-- how far things are after the records
abbrev pub after_all : Progress → List Record → Progress
after_all so_far [] = so_far
after_all so_far (r ∷ rs) = after_all (after so_far r) rs

-- the lines of the records, from there on
abbrev pub lines_from : Progress → List Record → List Byte
lines_from so_far [] = []
lines_from so_far (r ∷ rs) = line_of so_far r ++ lines_from (after so_far r) rs

abbrev pub at_start : Progress
at_start = record { request = 1; drained = 0 }

abbrev pub log_text : List Record → List Byte
log_text trace = lines_from at_start trace
