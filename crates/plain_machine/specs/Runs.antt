-- A run: the state after a trace, none once a record is no step, and the console bytes of the trace.
use Rattle.std.specs.Prelude.{List, [], ◌∷◌, ◌++◌, Option, Some, None, option_and_then}
use Rattle.plain_tables.specs.OfViews.Numbers.{Byte}
use Rattle.plain_tables.specs.OfSysAbi.declared.record.Record.{Record}
use Rattle.plain_machine.specs.declared.plain.Plain.{Plain}
use Rattle.plain_machine.specs.Records.{Outcome, outcome, step}

unfoldable pub run : Plain → List Record → Option Plain
run g [] = Some g
run g (r ∷ rest) = option_and_then (λ next. run next rest) (step g r)

abbrev pub console_from : (Plain → List Byte) → Option Outcome → List Byte
console_from later None = []
console_from later (Some o) = o.console ++ later o.state

unfoldable pub console : Plain → List Record → List Byte
console g [] = []
console g (r ∷ rest) = console_from (λ next. console next rest) (outcome g r)
