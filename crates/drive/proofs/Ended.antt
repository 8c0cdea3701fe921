-- How a run ends, from how far it has come.
--     running_shown      what the console took
--     ran_out, filled_up, got_stuck    nobody lives, the trace is full, nobody can go on
--     at_memory          memory was wanted before the next record
--     at_break           the checkpointer broke off
--     kernel_left        what is left of the kernel part
use Rattle.std.proofs.Common.{◌≡◌, ℕ, ◌+◌, ◌<◌, ◌≤◌, true, false, List, ◌++◌, length, take, inl, inr, refl, sym, ap, subst, ◌∙◌, arith}
use Rattle.std.specs.Prelude.{◌⊎◌}
use Rattle.std.proofs.Math.Seq.{take-append-add}
use Rattle.sys_abi.specs.declared.record.Record.{Record}
use Rattle.edge_io.specs.Sink.{appended}
use Rattle.edge_io.specs.Sunk.{Sunk, Took, TookFront}
use Rattle.disk_folder.specs.SeenFolder.{SeenFolder}
use Rattle.plain_machine.specs.declared.plain.Plain.{Plain}
use Rattle.plain_machine.specs.Runs.{console}
use Rattle.plain_machine.specs.Tests.{ended, full_arrive, IsStuck}
use Rattle.trace_log.specs.declared.requests.Schedule.{Schedule}
use Rattle.trace_log.specs.Trace.{TraceState}
use Rattle.trace_log.specs.Requests.{IsAnswered}
use Rattle.trace_log.specs.LogText.{at_start as log_start, after_all, line_of, log_text}
use Rattle.trace_log.proofs.LogLines.{log_grows}
use Rattle.trace_log.specs.Turns.{Upcoming}
use Rattle.drive.specs.HandedOn.{Stop}
use Rattle.drive.specs.StopVariants.{Sink, Memory}
use Rattle.checkpointer.specs.declared.checkpointer.Checkpointer.{Checkpointer}
use Rattle.checkpointer.specs.Pace.{CutLines}
use Rattle.checkpointer.specs.Running.{IsRunning}
use Rattle.checkpointer.specs.UnderWay.{IsUnderWay, IsBrokenOff, IsSettled}
use Rattle.checkpointer.proofs.Running.{steps_of}
use Rattle.checkpointer.proofs.Sinks.{took_front}
use Rattle.drive.specs.declared.loop_end.LoopEnd.{LoopEnd}
use Rattle.drive.specs.declared.loop_end.LoopEnd.TheVariants as loop_ended
use Rattle.drive.specs.Going.{HasEnded, end_of}
use Rattle.drive.specs.RunEnds.{EndsAt, KernelAtEnd, IsRun, Shown, ShownInPart, RanOut, FilledUp, GotStuck}

-- lines that are cut off are a first part of all
cut_front : (trace : List Record) (lines : List ℕ) (log : Sunk) → CutLines trace lines → Took log lines → TookFront log (log_text trace)
cut_front trace lines log cut took =
    let line = line_of (after_all log_start cut.front) cut.last in
    let all : log_text trace ≡ log_text cut.front ++ line = ap log_text cut.whole ∙ log_grows cut.front cut.last in
    (length (log_text cut.front) + cut.count, took ∙ ap (appended log.before) (cut.text ∙ sym (take-append-add (log_text cut.front) line cut.count) ∙ ap (take (length (log_text cut.front) + cut.count)) (sym all)))

module _ (schedule : Schedule) (g h : Plain) (upcoming : Upcoming) (trace : TraceState) (sink : Sunk) (room : ℕ) where
  abbrev Runs : Type 0
  Runs = IsRunning schedule g h upcoming trace.records sink

  is_run : (running : Runs) → length trace.records ≤ room → IsRun schedule g room trace.records h
  is_run running fits = record {
    steps = steps_of schedule g h upcoming trace.records sink running;
    requests = running.requests;
    reaches = running.reaches;
    fits = fits;
  }

  pub running_shown : Runs → length trace.records ≤ room → Shown schedule g room trace.records sink
  running_shown running fits = record { state = h; run = is_run running fits; console = running.shown }

  shown_in_part : Runs → length trace.records ≤ room → ShownInPart schedule g room trace.records sink
  shown_in_part running fits = record { state = h; run = is_run running fits; console = took_front sink (console g trace.records) running.shown }

  ran_out : (running : Runs) → IsSettled running.requests trace → length trace.records + trace.room ≡ room → ended h ≡ true → RanOut schedule g room trace.records sink
  unfolding running_shown is_run
  ran_out running settled size over = record {
    shown = running_shown running (omega arith);
    nobody = over;
    answered = by settled;
  }
    where
      by : IsSettled running.requests trace → IsAnswered running.requests ⊎ (length trace.records ≡ room)
      by (inl free) = inl free
      by (inr none) = inr (omega arith)

  filled_up : Runs → trace.room ≡ 0 → length trace.records + trace.room ≡ room → ended h ≡ false → FilledUp schedule g room trace.records sink
  unfolding running_shown
  filled_up running none size on = record { shown = running_shown running (omega arith); somebody = on; full = omega arith }

  got_stuck : (running : Runs) → IsAnswered running.requests → 0 < trace.room → length trace.records + trace.room ≡ room → IsStuck h → full_arrive h ≡ h → GotStuck schedule g room trace.records sink
  unfolding running_shown is_run
  got_stuck running free some size stuck arrived = record {
    shown = running_shown running (omega arith);
    stuck = stuck;
    arrived = arrived;
    answered = free;
    roomy = omega arith;
  }

  module _ (checkpointer : Checkpointer) (log : Sunk) (first disk : SeenFolder) where
    abbrev Going : Type 0
    Going = IsUnderWay schedule g h upcoming checkpointer trace sink log first disk

    pub at_end : (under : Going) → IsSettled under.running.requests trace → length trace.records + trace.room ≡ room → ended h ≡ true
        → HasEnded loop_ended.Done schedule g room trace.records h sink log first disk
    at_end under settled size over =
        record { ends = (ran_out under.running settled size over, under.noted.logged); left = steps_of schedule g h upcoming trace.records sink under.running; pace = tt; in_rounds = under.running.order; safe = under.safe }

    pub at_full : Going → trace.room ≡ 0 → length trace.records + trace.room ≡ room → ended h ≡ false
        → HasEnded loop_ended.Budget schedule g room trace.records h sink log first disk
    at_full under none size on =
        record { ends = (filled_up under.running none size on, under.noted.logged); left = steps_of schedule g h upcoming trace.records sink under.running; pace = tt; in_rounds = under.running.order; safe = under.safe }

    pub at_rest : (under : Going) → IsAnswered under.running.requests → 0 < trace.room → length trace.records + trace.room ≡ room → IsStuck h → full_arrive h ≡ h
        → HasEnded loop_ended.Stuck schedule g room trace.records h sink log first disk
    at_rest under free some size stuck arrived =
        record { ends = (got_stuck under.running free some size stuck arrived, under.noted.logged); left = steps_of schedule g h upcoming trace.records sink under.running; pace = tt; in_rounds = under.running.order; safe = under.safe }

    pub at_memory : Going → length trace.records ≤ room → HasEnded loop_ended.Memory schedule g room trace.records h sink log first disk
    at_memory under fits = record {
      ends = (running_shown under.running fits, took_front log (log_text trace.records) under.noted.logged);
      left = steps_of schedule g h upcoming trace.records sink under.running;
      pace = (log_text trace.records, (inl refl, under.noted.logged));
      in_rounds = under.running.order;
      safe = under.safe;
    }

  pub at_break : (stop : Stop) (log : Sunk) (first disk : SeenFolder) → IsBrokenOff schedule g h upcoming trace sink log first disk → length trace.records ≤ room
      → HasEnded (end_of stop) schedule g room trace.records h sink log first disk
  at_break Sink log first disk broken fits = record {
    ends = (shown_in_part broken.running fits, cut_front trace.records broken.lines log broken.cut broken.logged);
    left = (h, (steps_of schedule g h upcoming trace.records sink broken.running, refl));
    pace = inr (broken.running.shown, (broken.lines, (broken.cut, broken.logged)));
    in_rounds = broken.running.order;
    safe = broken.safe;
  }
  at_break Memory log first disk broken fits = record {
    ends = (running_shown broken.running fits, cut_front trace.records broken.lines log broken.cut broken.logged);
    left = steps_of schedule g h upcoming trace.records sink broken.running;
    pace = (broken.lines, (inr broken.cut, broken.logged));
    in_rounds = broken.running.order;
    safe = broken.safe;
  }

-- the same said of how it is told
pub ended_so : {schedule : Schedule} {g : Plain} {room : ℕ} {trace : List Record} {state : Plain} {sink log : Sunk} {first disk : SeenFolder} (end : LoopEnd) (stop : Stop) → end ≡ end_of stop
    → HasEnded (end_of stop) schedule g room trace state sink log first disk → HasEnded end schedule g room trace state sink log first disk
ended_so {schedule} {g} {room} {trace} {state} {sink} {log} {first} {disk} end stop is ended = subst (λ e. HasEnded e schedule g room trace state sink log first disk) (sym is) ended

-- at each end the kernel part that is left is that at the end of the run
pub kernel_left : (g : Plain) (trace : List Record) (state : Plain) (end : LoopEnd) → EndsAt end g trace state → KernelAtEnd g trace state.kernel
kernel_left g trace state loop_ended.SinkFault left = left
kernel_left g trace state loop_ended.Done left = (state, (left, refl))
kernel_left g trace state loop_ended.Budget left = (state, (left, refl))
kernel_left g trace state loop_ended.Stuck left = (state, (left, refl))
kernel_left g trace state loop_ended.Memory left = (state, (left, refl))
