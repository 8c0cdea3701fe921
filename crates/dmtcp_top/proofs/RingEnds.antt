-- How a call for the ring ends, from how it came to its end and what became of the last line.
--     ring_ends            what console and log took
--     is_ring              the contract of the call
--     refused_memory       memory was wanted before the launch
use Rattle.std.proofs.Common.{◌≡◌, ℕ, ◌≤◌, List, [], take, Option, inl, inr, refl, sym, ap, subst, ◌∙◌, append-nil}
use Rattle.std.specs.Prelude.{◌⊎◌}
use Rattle.views.specs.Faults.{Rose}
use Rattle.views.proofs.FaultCounts.{Rose-after}
use Rattle.sys_abi.specs.declared.record.Record.{Record}
use Rattle.edge_io.specs.Inputs.{SeenInputs}
use Rattle.edge_io.specs.Sink.{SeenSink, appended}
use Rattle.edge_io.specs.Sunk.{Sunk, sunk, Took, TookFront}
use Rattle.disk_folder.specs.SeenFolder.{SeenFolder}
use Rattle.trace_log.specs.LogText.{log_text}
use Rattle.job_words.specs.declared.job.RingJob.{RingJob}
use Rattle.endings.specs.declared.status.Status.{Status}
use Rattle.endings.specs.declared.status.Status.TheVariants.{Done as IsDone, SinkFault as IsSinkFault, DiskFault as IsDiskFault}
use Rattle.endings.specs.declared.ending.Ending.{Ending}
use Rattle.endings.specs.declared.ending.Ending.TheVariants.{Done, Usage, InputFault, Missing, BadElf, TooBig, SinkFault, DiskFault, NoSet, Damaged, Budget, Stuck, Memory}
use Rattle.endings.specs.Endings.{status_of, line_of, Concludes}
use Rattle.endings.specs.Log.{done_line}
use Rattle.drive.proofs.HandedOn.{took_both, took_then}
use Rattle.dmtcp_top.specs.Sessions.{StreamsFailed, FolderFailed, outside}
use Rattle.dmtcp_top.specs.Ring.{RingCall, RingEnded, RingEnds, RingCutOff, IsRing, call_of}
use Rattle.dmtcp_top.specs.RingEndings.{IsTold, SummaryFailed, RingIsAt, RingComesToEnd}
use Rattle.dmtcp_top.proofs.Conclusions.{front_of_nothing, status_kept}

either : {A B P : Type 0} → A ⊎ B → (A → P) → (B → P) → P
either (inl a) f h = f a
either (inr b) f h = h b

module _ (call : RingCall) (console : Sunk) (had mid has : Option (List ℕ)) where
  abbrev After : Status → Type 0
  After status = RingEnded status call console (sunk had has)

  -- the last line came whole
  ended_whole : (status : Status) (last : List ℕ) → IsTold status last call console (sunk had mid) → Took (sunk mid has) last → After status
  ended_whole status last at took = record {
    reached = status;
    shown = at.shown;
    last = last;
    there = at.there;
    text = at.text;
    lines = at.lines;
    told = inl (refl, at.took, took_both had mid has at.text last at.logged took);
  }

  -- the log failed at it
  ended_cut : (status : Status) (last : List ℕ) → IsTold status last call console (sunk had mid) → TookFront (sunk mid has) last → RingEnds IsSinkFault call console (sunk had has)
  ended_cut status last at front = inr (record {
    reached = status;
    shown = at.shown;
    last = last;
    there = at.there;
    text = at.text;
    lines = at.lines;
    told = inr (inr (refl, at.took, took_then had mid has at.text last at.logged front));
  })

  -- a sink had failed before, and there is no last line
  no_more : (bytes : List ℕ) → Took (sunk had mid) bytes → Took (sunk mid has) [] → Took (sunk had has) bytes
  no_more bytes first second = took_both had mid has bytes [] first second ∙ ap (appended had) (append-nil bytes)

  failed_before : RingCutOff call console (sunk had mid) ⊎ SummaryFailed call console (sunk had mid) → Took (sunk mid has) [] → RingEnds IsSinkFault call console (sunk had has)
  failed_before (inl cut) nothing = inl (record {
    cut = cut.cut;
    nothing = cut.nothing;
    lines = (cut.lines.0, no_more (take cut.lines.0 (log_text call.launch.left.trace)) cut.lines.1 nothing);
  })
  failed_before (inr at) nothing = inr (record {
    reached = IsDone;
    shown = at.shown;
    last = done_line;
    there = at.there;
    text = log_text call.launch.left.trace;
    lines = refl;
    told = inr (inl (refl, at.took, no_more (log_text call.launch.left.trace) at.logged nothing));
  })

  whole : (ending : Ending) → RingIsAt ending call console (sunk had mid) → Took (sunk mid has) (line_of ending) → RingEnds (status_of ending) call console (sunk had has)
  whole SinkFault at took = failed_before at took
  whole Done at took = ended_whole (status_of Done) (line_of Done) at took
  whole Usage at took = ended_whole (status_of Usage) (line_of Usage) at took
  whole (InputFault who) at took = ended_whole (status_of (InputFault who)) (line_of (InputFault who)) at took
  whole (Missing who) at took = ended_whole (status_of (Missing who)) (line_of (Missing who)) at took
  whole (BadElf who fault) at took = ended_whole (status_of (BadElf who fault)) (line_of (BadElf who fault)) at took
  whole TooBig at took = ended_whole (status_of TooBig) (line_of TooBig) at took
  whole DiskFault at took = ended_whole (status_of DiskFault) (line_of DiskFault) at took
  whole NoSet at took = ended_whole (status_of NoSet) (line_of NoSet) at took
  whole (Damaged slot damage) at took = ended_whole (status_of (Damaged slot damage)) (line_of (Damaged slot damage)) at took
  whole (Budget records) at took = ended_whole (status_of (Budget records)) (line_of (Budget records)) at took
  whole Stuck at took = ended_whole (status_of Stuck) (line_of Stuck) at took
  whole Memory at took = ended_whole (status_of Memory) (line_of Memory) at took

  cut : (ending : Ending) → RingIsAt ending call console (sunk had mid) → TookFront (sunk mid has) (line_of ending) → RingEnds IsSinkFault call console (sunk had has)
  cut SinkFault at front = failed_before at (front_of_nothing (sunk mid has) front)
  cut Done at front = ended_cut (status_of Done) (line_of Done) at front
  cut Usage at front = ended_cut (status_of Usage) (line_of Usage) at front
  cut (InputFault who) at front = ended_cut (status_of (InputFault who)) (line_of (InputFault who)) at front
  cut (Missing who) at front = ended_cut (status_of (Missing who)) (line_of (Missing who)) at front
  cut (BadElf who fault) at front = ended_cut (status_of (BadElf who fault)) (line_of (BadElf who fault)) at front
  cut TooBig at front = ended_cut (status_of TooBig) (line_of TooBig) at front
  cut DiskFault at front = ended_cut (status_of DiskFault) (line_of DiskFault) at front
  cut NoSet at front = ended_cut (status_of NoSet) (line_of NoSet) at front
  cut (Damaged slot damage) at front = ended_cut (status_of (Damaged slot damage)) (line_of (Damaged slot damage)) at front
  cut (Budget records) at front = ended_cut (status_of (Budget records)) (line_of (Budget records)) at front
  cut Stuck at front = ended_cut (status_of Stuck) (line_of Stuck) at front
  cut Memory at front = ended_cut (status_of Memory) (line_of Memory) at front

  pub ring_ends : (ending : Ending) (status : Status) → RingIsAt ending call console (sunk had mid) → Concludes ending status (sunk mid has) → RingEnds status call console (sunk had has)
  ring_ends ending status at (inl all) = subst (λ s. RingEnds s call console (sunk had has)) (sym all.0) (whole ending at all.1)
  ring_ends ending status at (inr failed) = subst (λ s. RingEnds s call console (sunk had has)) (sym failed.0) (cut ending at failed.1)

module _ (ending : Ending) (status : Status) (ring : RingJob) (trace : List Record) (inputs : SeenInputs) (out shown had mid has : SeenSink) (old new : SeenFolder) (concludes : Concludes ending status (sunk mid.taken has.taken)) where
  pub is_ring : RingComesToEnd ending ring trace old new (sunk out.taken shown.taken) (sunk had.taken mid.taken)
      → (status_of ending ≡ IsSinkFault → StreamsFailed (outside inputs out had old) (outside inputs shown has new))
      → (status_of ending ≡ IsDiskFault → FolderFailed (outside inputs out had old) (outside inputs shown has new))
      → (status ≡ IsSinkFault → (status_of ending ≡ IsSinkFault) ⊎ Rose mid.faults has.faults) → had.faults ≤ mid.faults
      → IsRing status ring trace (outside inputs out had old) (outside inputs shown has new)
  is_ring come sink disk cause later = record {
    halves = come.halves;
    ends = ring_ends (call_of come.halves trace) (sunk out.taken shown.taken) had.taken mid.taken has.taken ending status come.there concludes;
    same = refl;
    sink_failed = λ is. either (cause is) sink (λ rose. inr (Rose-after had.faults mid.faults has.faults later rose));
    disk_failed = λ is. disk (status_kept ending status IsDiskFault (sunk mid.taken has.taken) concludes (λ e. absurd (cc)) is);
  }
