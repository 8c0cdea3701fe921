-- A trace: its records in order, and the room for further ones.
use Rattle.std.specs.Prelude.{ℕ, ◌-◌, List, [], ◌∷◌, ◌++◌, refl}
use Rattle.std.specs.Coded.{Coded, code_by, coded×, coded_ℕ, coded_list}
use Rattle.sys_abi.specs.declared.record.Record.{Record}
use Rattle.sys_abi.specs.contracts.record.Record as event

pub record TraceState : Type 0 where
  pub records : List Record
  pub room : ℕ

-- stored as the pair of its fields
abbrev pub trace_code : Coded TraceState
trace_code = code_by (List Record × ℕ) (coded× (coded_list event.the_row.coded) coded_ℕ) (λ s. (s.records, s.room)) (λ p. record { records = p.0; room = p.1 }) (λ _. refl)

-- the trace with a record more, and with room for one less
abbrev pub with_record : TraceState → Record → TraceState
with_record trace r = record { records = trace.records ++ r ∷ []; room = trace.room - 1 }
