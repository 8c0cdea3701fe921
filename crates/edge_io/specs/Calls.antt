-- The calls of an object in memory. They are numbered from 1, up to the greatest number of 64 bits.
use Rattle.std.specs.Prelude.{ℕ, ◌+◌, ◌-◌, ◌^◌, Bool, List, min, ◌==◌, if◌then◌else◌}
use Rattle.std.specs.List.{list_any}
use Rattle.edge_io.specs.declared.fault_script.FaultScript.{FaultScript}

-- one more, in a counter that stays at its greatest value
abbrev pub raised : ℕ → ℕ
raised count = min (count + 1) (2 ^ 64 - 1)

-- before the first call, where the calls of these numbers are to fail
abbrev pub new_script : List ℕ → FaultScript
new_script fails = record { fails = fails; calls = 0; faults = 0 }

-- whether the next call is one of those that are to fail
abbrev pub is_due : FaultScript → Bool
is_due script = list_any (λ number. number == raised script.calls) script.fails

-- after a call that went well
abbrev pub after_success : FaultScript → FaultScript
after_success script = record script { calls = raised script.calls }

-- after a call that failed
abbrev pub after_fault : FaultScript → FaultScript
after_fault script = record script { calls = raised script.calls; faults = raised script.faults }

-- how many calls were refused for want of memory, after a call that failed though it wasn't to
abbrev pub after_refusal : FaultScript → ℕ → ℕ
after_refusal script refusals = if is_due script then refusals else raised refusals
