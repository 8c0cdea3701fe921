-- What a sink that failed took of what belongs to the last record.
--     TookThen sink bytes more     all of these bytes, and a first part of those that follow
--     CutLines trace lines         the lines of a trace, cut off in that of its last record
use Rattle.std.specs.Prelude.{◌≡◌, ℕ, true, List, [], ◌∷◌, ◌++◌, take}
use Rattle.views.specs.Numbers.{Byte}
use Rattle.sys_abi.specs.declared.record.Record.{Record}
use Rattle.trace_log.specs.Requests.{is_outcome}
use Rattle.trace_log.specs.LogText.{at_start, after_all, line_of, log_text}
use Rattle.edge_io.specs.Sunk.{Sunk, Took}

-- in the call the sink took these bytes, and then some first part of those that follow
abbrev pub TookThen : Sunk → List Byte → List Byte → Type 0
TookThen sink bytes more = (n : ℕ) × Took sink (bytes ++ take n more)

-- the trace ends with an outcome: the lines of all before it, and a first part of its own
pub record CutLines (trace : List Record) (lines : List Byte) : Type 0 where
  pub front : List Record
  pub last : Record
  pub whole : trace ≡ front ++ last ∷ []
  pub outcome : is_outcome last ≡ true
  pub count : ℕ
  pub text : lines ≡ log_text front ++ take count (line_of (after_all at_start front) last)
