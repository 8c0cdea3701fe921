-- What a record that was made says of a computation: what the console took where it writes nothing, and that the computation
-- is ready after it.
--     took_nothing      quiet_takes      ready_after
use Rattle.std.proofs.Common.{◌≡◌, ℕ, List, [], Option, Some, None, refl, sym, ap, subst, ◌∙◌, append-nil}
use Rattle.std.specs.Option.{option_map}
use Rattle.sys_abi.specs.declared.record.Record.{Record}
use Rattle.trace_log.specs.Trace.{TraceState, with_record}
use Rattle.plain_machine.specs.declared.plain.Plain.{Plain}
use Rattle.plain_machine.specs.Records.{Outcome, outcome, quiet}
use Rattle.plain_machine.specs.Valid.{IsValid}
use Rattle.plain_machine.proofs.StepBounds.{step_keeps_valid}
use Rattle.edge_io.specs.Sunk.{Sunk, sunk, Took}
use Rattle.computation.specs.Takes.{Takes}

pub took_nothing : (taken : Option (List ℕ)) → Took (sunk taken taken) []
took_nothing None = refl
took_nothing (Some bytes) = ap (λ xs. Some xs) (sym (append-nil bytes))

pub quiet_takes : (before after next : Plain) (r : Record) (from to : TraceState) (taken : Option (List ℕ)) → outcome before r ≡ Some (quiet next) → after ≡ next → to ≡ with_record from r
    → Takes before after r from to (sunk taken taken)
quiet_takes before after next r from to taken goes is noted = record {
  bytes = [];
  outcome = goes ∙ ap (λ g. Some (quiet g)) (sym is);
  trace = noted;
  shown = took_nothing taken;
}

pub valid_after : (before after next : Plain) (r : Record) (console : List ℕ) → IsValid before → outcome before r ≡ Some (record { state = next; console = console }) → after ≡ next → IsValid after
valid_after before after next r console valid goes is = subst IsValid (sym is) (step_keeps_valid before next r valid (ap (option_map (λ (o : Outcome). o.state)) goes))

pub takes_valid : (before after : Plain) (r : Record) (from to : TraceState) (console : Sunk) → IsValid before → Takes before after r from to console → IsValid after
takes_valid before after r from to console valid takes = valid_after before after after r takes.bytes valid takes.outcome refl
