-- A sink in memory: the bytes taken, its calls, and how many pieces were refused for want of memory.
use Rattle.std.specs.Prelude.{ℕ, List, refl}
use Rattle.std.specs.Coded.{Coded, code_by, coded×, coded_ℕ, coded_list}
use Rattle.edge_io.specs.declared.fault_script.FaultScript.{FaultScript}
use Rattle.edge_io.specs.contracts.fault_script.FaultScript as script

pub record SinkState : Type 0 where
  pub bytes : List ℕ
  pub script : FaultScript
  pub refusals : ℕ

-- stored as the triple of its fields
abbrev pub sink_state_code : Coded SinkState
sink_state_code =
    code_by (List ℕ × (FaultScript × ℕ)) (coded× (coded_list coded_ℕ) (coded× script.the_row.coded coded_ℕ))
    (λ s. (s.bytes, (s.script, s.refusals)))
    (λ p. record { bytes = p.0; script = p.1.0; refusals = p.1.1 }) (λ _. refl)
