-- A run before its first record.
--     starting     all is as the empty trace says
use Rattle.std.proofs.Common.{◌≡◌, ℕ, List, [], Option, refl, sym, ap, subst, arith}
use Rattle.disk_folder.specs.SeenFolder.{SeenFolder}
use Rattle.plain_machine.specs.declared.plain.Plain.{Plain}
use Rattle.trace_log.specs.declared.log_lines.Progress.{Progress}
use Rattle.trace_log.specs.Trace.{TraceState}
use Rattle.trace_log.specs.LogText.{at_start as log_start}
use Rattle.trace_log.specs.Requests.{IsAnswered, first_tally}
use Rattle.trace_log.specs.Turns.{NewRound}
use Rattle.edge_io.specs.Sunk.{sunk}
use Rattle.checkpointer.specs.declared.checkpointer.Checkpointer.{Checkpointer}
use Rattle.checkpointer.specs.UnderWay.{IsUnderWay}
use Rattle.checkpointer.proofs.Running.{running_start}
use Rattle.checkpointer.proofs.Safety.{safe_start}
use Rattle.checkpointer.proofs.Sinks.{took_nothing}

-- no request is open there
pub record Starts (h : Plain) (checkpointer : Checkpointer) (trace : TraceState) (taken told : Option (List ℕ)) (disk : SeenFolder) : Type 0 where
  pub now : IsUnderWay checkpointer.schedule h h NewRound checkpointer trace (sunk taken taken) (sunk told told) disk disk
  pub free : IsAnswered now.running.requests

pub starting : (h : Plain) (checkpointer : Checkpointer) (trace : TraceState) (taken told : Option (List ℕ)) (disk : SeenFolder) → trace.records ≡ [] → checkpointer.tally ≡ first_tally checkpointer.schedule → checkpointer.lines ≡ log_start
    → Starts h checkpointer trace taken told disk
unfolding running_start
starting h checkpointer trace taken told disk empty tally lines =
    subst (λ rs. Starts h checkpointer (record { records = rs; room = trace.room }) taken told disk) (sym empty) (record {
      now = record {
        running = running_start checkpointer.schedule h taken;
        noted = record {
          scheduled = refl;
          tallied = tally;
          lined = lines;
          logged = took_nothing told;
          few = let one = ap (λ (l : Progress). l.request) lines in omega arith;
          dry = λ _. ap (λ (l : Progress). l.drained) lines;
        };
        safe = safe_start h disk;
      };
      free = refl;
    })
