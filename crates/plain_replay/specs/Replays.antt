-- What the steps of records tell, and where a trace is no run.
--     state_of outcome                the state alone
--     after_told is_step g            the state after a step, none where there is no step
--     FirstRefused start trace n      the records before number n are steps from the start, one after the other, and record n is none
use Rattle.std.specs.Prelude.{◌≡◌, ℕ, Bool, List, take, slice_get, Option, Some, None, if◌then◌else◌}
use Rattle.std.specs.Option.{option_map}
use Rattle.sys_abi.specs.declared.record.Record.{Record}
use Rattle.plain_machine.specs.declared.plain.Plain.{Plain}
use Rattle.plain_machine.specs.Records.{Outcome, step}
use Rattle.plain_machine.specs.Runs.{run}

abbrev pub state_of : Option Outcome → Option Plain
state_of outcome = option_map (λ o. o.state) outcome

abbrev pub after_told : Bool → Plain → Option Plain
after_told is_step g = if is_step then Some g else None

pub record FirstRefused (start : Plain) (trace : List Record) (n : ℕ) : Type 0 where
  pub before : Plain
  pub refused : Record
  pub steps : run start (take n trace) ≡ Some before
  pub place : slice_get trace n ≡ Some refused
  pub no_step : step before refused ≡ None
