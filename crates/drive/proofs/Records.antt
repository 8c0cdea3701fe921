-- One more record of the rounds, where no request is open.
--     grows      the run goes on by it
--     breaks     the console took a first part of its bytes
use Rattle.std.proofs.Common.{◌≡◌, ℕ, ◌+◌, ◌≤◌, false, List, [], ◌∷◌, ◌++◌, length, Option, Some, refl, sym, ap, subst, arith}
use Rattle.std.specs.Option.{option_map}
use Rattle.std.proofs.lemmas.List.{length-append}
use Rattle.sys_abi.specs.declared.record.Record.{Record}
use Rattle.plain_machine.specs.declared.plain.Plain.{Plain}
use Rattle.plain_machine.specs.Records.{Outcome, step}
use Rattle.plain_machine.specs.Runs.{run, console}
use Rattle.plain_machine.proofs.RunLaws.{console_of_one_more}
use Rattle.trace_log.specs.declared.requests.Schedule.{Schedule}
use Rattle.trace_log.specs.Trace.{TraceState}
use Rattle.trace_log.specs.Requests.{IsAnswered, is_mark, first_requests, next_requests}
use Rattle.trace_log.proofs.RequestFronts.{runs}
use Rattle.trace_log.specs.Turns.{Due, Upcoming, After, due_at}
use Rattle.edge_io.specs.Sunk.{sunk, TookFront}
use Rattle.drive.specs.declared.rounds.Made.{Made}
use Rattle.drive.specs.Scheduling.{Notes, Spoils}
use Rattle.checkpointer.specs.Pace.{TookThen}
use Rattle.checkpointer.specs.Rounds.{GoesInRounds, first_standing}
use Rattle.checkpointer.specs.Running.{IsRunning}
use Rattle.checkpointer.proofs.Running.{console_of_one, free_stands, one_more, runs_on, standing_of, steps_of}
use Rattle.checkpointer.proofs.Sinks.{took_then, took_more}
use Rattle.checkpointer.proofs.Walks.{free_is_due, moved_on, pushed}
use Rattle.drive.specs.Pace.{ConsoleStops}
use Rattle.drive.specs.RunEnds.{ShownInPart}

module _ (schedule : Schedule) (g h : Plain) (upcoming : Upcoming) (d : Due) (from to : TraceState) (had mid has : Option (List ℕ))
    (running : IsRunning schedule g h upcoming from.records (sunk had mid)) (free : IsAnswered running.requests) (there : due_at h upcoming ≡ Some d) where
  steps : run g from.records ≡ Some h
  steps = steps_of schedule g h upcoming from.records (sunk had mid) running

  -- the run with the record
  abbrev Grows : Plain → Record → TraceState → Type 0
  Grows k r trace =
      (after : IsRunning schedule g k (After d r) trace.records (sunk had has)) × (after.requests ≡ next_requests schedule h running.requests r)

  pub grows : (k : Plain) (made : Made) (notes : Notes h k (Some d) made from to (sunk mid has)) → Grows k notes.noted to
  grows k made notes =
      let r = notes.noted in
      let at = standing_of upcoming running.requests in
      subst (λ (t : TraceState). Grows k r t) (sym notes.took.trace)
      (runs_on schedule g h k upcoming (After d r) from.records had mid has r notes.took.bytes running (free_is_due h at d r free there notes.own) (free_stands h running.requests r free notes.no_mark)
      notes.took.outcome notes.took.shown (moved_on h at d r free there notes.no_mark))

  -- what a run has come to whose last record broke off
  abbrev Breaks : ℕ → Plain → TraceState → Type 0
  Breaks room last trace =
      ShownInPart schedule g room trace.records (sunk had has) × ConsoleStops g trace.records (sunk had has) × GoesInRounds schedule g trace.records × (run g trace.records ≡ Some last)

  pub breaks : (room : ℕ) (k : Plain) (spoils : Spoils h k (Some d) from to (sunk mid has)) → is_mark spoils.noted ≡ false → length from.records + 1 ≤ room → Breaks room spoils.broke.state to
  breaks room k spoils plain fits =
      let r = spoils.noted in
      let broke = spoils.broke in
      let o : Outcome = record { state = broke.state; console = broke.bytes } in
      let goes : step h r ≡ Some broke.state = ap (option_map (λ x. x.state)) broke.outcome in
      let at = standing_of upcoming running.requests in
      let on = pushed schedule g h broke.state (first_standing schedule) at from.records r steps running.walked running.order (free_is_due h at d r free there spoils.own) goes in
      let reached = one_more schedule g broke.state h upcoming from.records (sunk had mid) r running (free_stands h running.requests r free plain) goes in
      let shows : TookThen (sunk had has) (console g from.records) (console h (r ∷ [])) =
      subst (TookThen (sunk had has) (console g from.records)) (sym (console_of_one h r o broke.outcome)) (took_then had mid has (console g from.records) broke.bytes running.shown broke.shown) in
      let part : TookFront (sunk had has) (console g (from.records ++ r ∷ [])) =
      subst (TookFront (sunk had has)) (sym (console_of_one_more g h from.records r o steps broke.outcome)) (took_more had mid has (console g from.records) broke.bytes running.shown broke.shown) in
      let ends : run g (from.records ++ r ∷ []) ≡ Some broke.state =
      runs schedule g broke.state (first_requests schedule) (next_requests schedule h running.requests r) (from.records ++ r ∷ []) reached in
      let shown : ShownInPart schedule g room (from.records ++ r ∷ []) (sunk had has) = record {
        state = broke.state;
        run = record {
          steps = ends;
          requests = next_requests schedule h running.requests r;
          reaches = reached;
          fits = omega (arith, length-append from.records (r ∷ []));
        };
        console = part;
      } in
      let stops : ConsoleStops g (from.records ++ r ∷ []) (sunk had has) = record {
        front = from.records;
        last = r;
        whole = refl;
        work = spoils.work;
        before = h;
        there = steps;
        shown = shows;
      } in
      subst (λ (t : TraceState). Breaks room broke.state t) (sym broke.trace) (shown, stops, on.order, ends)
