-- How a call ends, from how it came to its end and what became of the last line.
use Rattle.std.specs.Prelude.{◌⊎◌}
use Rattle.std.proofs.Common.{◌≡◌, ◌≢◌, ℕ, zero, suc, List, [], ◌++◌, take, Option, inl, inr, refl, sym, ap, subst, ◌∙◌, append-nil}
use Rattle.edge_io.specs.Sink.{appended}
use Rattle.edge_io.specs.Sunk.{Sunk, sunk, Took, TookFront}
use Rattle.sys_abi.specs.declared.record.Record.{Record}
use Rattle.plain_machine.specs.declared.plain.Plain.{Plain}
use Rattle.trace_log.specs.LogText.{log_text}
use Rattle.endings.specs.declared.status.Status.{Status}
use Rattle.endings.specs.declared.status.Status.TheVariants.{SinkFault as IsSinkFault, Memory as IsMemory}
use Rattle.endings.specs.declared.ending.Ending.{Ending}
use Rattle.endings.specs.declared.ending.Ending.TheVariants.{Done, Usage, InputFault, Missing, BadElf, TooBig, SinkFault, DiskFault, NoSet, Damaged, Budget, Stuck, Memory}
use Rattle.endings.specs.Log.{memory_line}
use Rattle.dmtcp_top.specs.Sessions.{Session}
use Rattle.drive.specs.Pace.{StopsAtRecord, LinesOf}
use Rattle.drive.specs.HandedOn.{CutLines}
use Rattle.dmtcp_top.specs.Ends.{Ends, Reaches, SinkFailed, LogFailed, Stopped, CallKeepsPace}
use Rattle.endings.specs.Endings.{status_of, line_of, Concludes}
use Rattle.dmtcp_top.specs.Endings.{IsAtEnding, KeepsPaceAt}
use Rattle.drive.proofs.HandedOn.{took_both, took_then}

-- no first part of nothing is more than nothing
take_of_nothing : (n : ℕ) (xs : List ℕ) → xs ≡ [] → take n xs ≡ []
take_of_nothing zero xs is = refl
take_of_nothing (suc n) xs is = ap (take (suc n)) is

pub front_of_nothing : (sink : Sunk) → TookFront sink [] → Took sink []
front_of_nothing sink front = front.1 ∙ ap (appended sink.before) (take_of_nothing front.0 [] refl)

module _ (session : Session) (had mid has : Option (List ℕ)) where
  -- the last line came whole
  reached_whole : (ending : Ending) → Reaches (status_of ending) session (line_of ending) → Took (sunk had mid) (log_text session.left.trace) → Took (sunk mid has) (line_of ending) → Took (sunk had has) (log_text session.left.trace ++ line_of ending)
  reached_whole ending reached lines took = took_both had mid has (log_text session.left.trace) (line_of ending) lines took

  -- a run in which a sink failed has no line
  nothing_more : (bytes : List ℕ) → Took (sunk had mid) bytes → Took (sunk mid has) [] → Took (sunk had has) bytes
  nothing_more bytes first second = took_both had mid has bytes [] first second ∙ ap (appended had) (append-nil bytes)

  front_stays : (bytes : List ℕ) → TookFront (sunk had mid) bytes → Took (sunk mid has) [] → TookFront (sunk had has) bytes
  front_stays bytes front took = (front.0, nothing_more (take front.0 bytes) front.1 took)

  cut_off : SinkFailed session (sunk had mid) → Took (sunk mid has) [] → SinkFailed session (sunk had has)
  cut_off there took = (there.0, front_stays (log_text session.left.trace) there.1 took)

  stops_so : (g : Plain) (trace : List Record) (console : Sunk) → StopsAtRecord g trace console (sunk had mid) → Took (sunk mid has) [] → StopsAtRecord g trace console (sunk had has)
  stops_so g trace console (inl there) took = inl (there.0, nothing_more (log_text trace) there.1 took)
  stops_so g trace console (inr there) took = inr (there.0, (there.1.0, (there.1.1.0, nothing_more there.1.0 there.1.1.1 took)))

  stopped : Stopped session (sunk had mid) → Took (sunk mid has) [] → Stopped session (sunk had has)
  stopped at took = record {
    begun = at.begun;
    start = at.start;
    there = stops_so at.begun.state session.left.trace session.left.console at.there took;
  }

  -- the log failed at the last line
  fails_so : {IsCut : List ℕ → Type 0} (ending : Ending) → Reaches (status_of ending) session (line_of ending) → Took (sunk had mid) (log_text session.left.trace) → TookFront (sunk mid has) (line_of ending) → LogFailed IsCut session (sunk had has)
  fails_so ending reached lines front = record {
    status = status_of ending;
    last = line_of ending;
    reached = reached;
    text = log_text session.left.trace;
    lines = inl refl;
    took = took_then had mid has (log_text session.left.trace) (line_of ending) lines front;
  }

  fails : (ending : Ending) → Reaches (status_of ending) session (line_of ending) → Took (sunk had mid) (log_text session.left.trace) → TookFront (sunk mid has) (line_of ending) → Ends IsSinkFault session (sunk had has)
  fails ending reached lines front = inr (fails_so ending reached lines front)

  paced : (ending : Ending) → Reaches (status_of ending) session (line_of ending) → Took (sunk had mid) (log_text session.left.trace) → TookFront (sunk mid has) (line_of ending) → CallKeepsPace IsSinkFault session (sunk had has)
  paced ending reached lines front = inr (fails_so ending reached lines front)

  logged : (ending : Ending) → IsAtEnding ending session (sunk had mid) → Took (sunk mid has) (line_of ending) → Ends (status_of ending) session (sunk had has)
  logged Done there took = record { last = line_of Done; reached = there.0; took = reached_whole Done there.0 there.1 took }
  logged Usage there took = record { last = line_of Usage; reached = there.0; took = reached_whole Usage there.0 there.1 took }
  logged (InputFault name) there took = record { last = line_of (InputFault name); reached = there.0; took = reached_whole (InputFault name) there.0 there.1 took }
  logged (Missing name) there took = record { last = line_of (Missing name); reached = there.0; took = reached_whole (Missing name) there.0 there.1 took }
  logged (BadElf name fault) there took = record { last = line_of (BadElf name fault); reached = there.0; took = reached_whole (BadElf name fault) there.0 there.1 took }
  logged TooBig there took = record { last = line_of TooBig; reached = there.0; took = reached_whole TooBig there.0 there.1 took }
  logged SinkFault there took = inl (cut_off there took)
  logged DiskFault there took = record { last = line_of DiskFault; reached = there.0; took = reached_whole DiskFault there.0 there.1 took }
  logged NoSet there took = record { last = line_of NoSet; reached = there.0; took = reached_whole NoSet there.0 there.1 took }
  logged (Damaged slot damage) there took = record { last = line_of (Damaged slot damage); reached = there.0; took = reached_whole (Damaged slot damage) there.0 there.1 took }
  logged (Budget records) there took = record { last = line_of (Budget records); reached = there.0; took = reached_whole (Budget records) there.0 there.1 took }
  logged Stuck there took = record { last = line_of Stuck; reached = there.0; took = reached_whole Stuck there.0 there.1 took }
  logged Memory there took =
      let text = take there.1.0 (log_text session.left.trace) in
      record {
        last = memory_line;
        reached = there.0;
        text = text;
        lines = inr (there.1.0, refl);
        took = took_both had mid has text memory_line there.1.1 took;
      }

  -- and console and log came as far as a run by one thread does
  logged_paced : (ending : Ending) → IsAtEnding ending session (sunk had mid) → KeepsPaceAt ending session (sunk had mid) → Took (sunk mid has) (line_of ending) → CallKeepsPace (status_of ending) session (sunk had has)
  logged_paced Done there at took = tt
  logged_paced Usage there at took = tt
  logged_paced (InputFault name) there at took = tt
  logged_paced (Missing name) there at took = tt
  logged_paced (BadElf name fault) there at took = tt
  logged_paced TooBig there at took = tt
  logged_paced SinkFault there at took = inl (stopped at took)
  logged_paced DiskFault there at took = tt
  logged_paced NoSet there at took = tt
  logged_paced (Damaged slot damage) there at took = tt
  logged_paced (Budget records) there at took = tt
  logged_paced Stuck there at took = tt
  logged_paced Memory there at took = record {
    last = memory_line;
    reached = there.0;
    text = at.0;
    lines = at.1.0;
    took = took_both had mid has at.0 memory_line at.1.1 took;
  }

  cut : (ending : Ending) → IsAtEnding ending session (sunk had mid) → TookFront (sunk mid has) (line_of ending) → Ends IsSinkFault session (sunk had has)
  cut Done there front = fails Done there.0 there.1 front
  cut Usage there front = fails Usage there.0 there.1 front
  cut (InputFault name) there front = fails (InputFault name) there.0 there.1 front
  cut (Missing name) there front = fails (Missing name) there.0 there.1 front
  cut (BadElf name fault) there front = fails (BadElf name fault) there.0 there.1 front
  cut TooBig there front = fails TooBig there.0 there.1 front
  cut SinkFault there front = inl (cut_off there (front_of_nothing (sunk mid has) front))
  cut DiskFault there front = fails DiskFault there.0 there.1 front
  cut NoSet there front = fails NoSet there.0 there.1 front
  cut (Damaged slot damage) there front = fails (Damaged slot damage) there.0 there.1 front
  cut (Budget records) there front = fails (Budget records) there.0 there.1 front
  cut Stuck there front = fails Stuck there.0 there.1 front
  cut Memory there front =
      let text = take there.1.0 (log_text session.left.trace) in
      inr (record {
        status = IsMemory;
        last = memory_line;
        reached = there.0;
        text = text;
        lines = inr (refl, (there.1.0, refl));
        took = took_then had mid has text memory_line there.1.1 front;
      })

  cut_paced : (ending : Ending) → IsAtEnding ending session (sunk had mid) → KeepsPaceAt ending session (sunk had mid) → TookFront (sunk mid has) (line_of ending) → CallKeepsPace IsSinkFault session (sunk had has)
  cut_paced Done there at front = paced Done there.0 there.1 front
  cut_paced Usage there at front = paced Usage there.0 there.1 front
  cut_paced (InputFault name) there at front = paced (InputFault name) there.0 there.1 front
  cut_paced (Missing name) there at front = paced (Missing name) there.0 there.1 front
  cut_paced (BadElf name fault) there at front = paced (BadElf name fault) there.0 there.1 front
  cut_paced TooBig there at front = paced TooBig there.0 there.1 front
  cut_paced SinkFault there at front = inl (stopped at (front_of_nothing (sunk mid has) front))
  cut_paced DiskFault there at front = paced DiskFault there.0 there.1 front
  cut_paced NoSet there at front = paced NoSet there.0 there.1 front
  cut_paced (Damaged slot damage) there at front = paced (Damaged slot damage) there.0 there.1 front
  cut_paced (Budget records) there at front = paced (Budget records) there.0 there.1 front
  cut_paced Stuck there at front = paced Stuck there.0 there.1 front
  cut_paced Memory there at front = inr (record {
    status = IsMemory;
    last = memory_line;
    reached = there.0;
    text = at.0;
    lines = by at.1.0;
    took = took_then had mid has at.0 memory_line at.1.1 front;
  })
    where
      by : {text : List ℕ} → LinesOf session.left.trace text → text ≡ log_text session.left.trace ⊎ (IsMemory ≡ IsMemory) × CutLines session.left.trace text
      by (inl whole) = inl whole
      by (inr part) = inr (refl, part)

pub call_ends : (ending : Ending) (status : Status) (session : Session) (had mid has : Option (List ℕ)) → IsAtEnding ending session (sunk had mid) → Concludes ending status (sunk mid has) → Ends status session (sunk had has)
call_ends ending status session had mid has arrives (inl whole) = subst (λ s. Ends s session (sunk had has)) (sym whole.0) (logged session had mid has ending arrives whole.1)
call_ends ending status session had mid has arrives (inr failed) = subst (λ s. Ends s session (sunk had has)) (sym failed.0) (cut session had mid has ending arrives failed.1)

pub call_keeps_pace : (ending : Ending) (status : Status) (session : Session) (had mid has : Option (List ℕ)) → IsAtEnding ending session (sunk had mid) → KeepsPaceAt ending session (sunk had mid) → Concludes ending status (sunk mid has) → CallKeepsPace status session (sunk had has)
call_keeps_pace ending status session had mid has there at (inl whole) = subst (λ s. CallKeepsPace s session (sunk had has)) (sym whole.0) (logged_paced session had mid has ending there at whole.1)
call_keeps_pace ending status session had mid has there at (inr failed) = subst (λ s. CallKeepsPace s session (sunk had has)) (sym failed.0) (cut_paced session had mid has ending there at failed.1)

-- the status is the one that the call came to, but for a sink's fault
pub status_kept : (ending : Ending) (status wanted : Status) (log : Sunk) → Concludes ending status log → wanted ≢ IsSinkFault → status ≡ wanted → status_of ending ≡ wanted
status_kept ending status wanted log (inl whole) other is = sym whole.0 ∙ is
status_kept ending status wanted log (inr failed) other is = absurd (other (sym is ∙ failed.0))
