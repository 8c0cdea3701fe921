-- The promise of a call, from how it came to its end and what became of the last line.
--     come_of, ended_by  how a run that was carried out comes to its end
--     refused_start      how a call comes to its end that has no job
--     promised           the promise
use Rattle.std.proofs.Common.{◌≡◌, ◌≢◌, ◌≤◌, List, [], None, inl, inr, refl}
use Rattle.std.specs.Prelude.{◌⊎◌, Result, Ok, Err, IfErr}
use Rattle.views.specs.Faults.{Rose}
use Rattle.views.proofs.FaultCounts.{Rose-after}
use Rattle.sys_abi.specs.declared.record.Record.{Record}
use Rattle.plain_machine.specs.declared.kernel.PlainKernel.{PlainKernel}
use Rattle.edge_io.specs.Sink.{SeenSink}
use Rattle.edge_io.specs.Sunk.{sunk}
use Rattle.option_words.specs.Options.{Text}
use Rattle.endings.specs.declared.status.Status.{Status}
use Rattle.endings.specs.declared.status.Status.TheVariants.{Done as IsDone, Usage as IsUsage, InputFault, SinkFault, DiskFault, Memory as IsMemory}
use Rattle.endings.specs.declared.ending.Ending.{Ending}
use Rattle.endings.specs.declared.ending.Ending.TheVariants as an_ending
use Rattle.endings.specs.Endings.{status_of, Concludes}
use Rattle.dmtcp_top.specs.Endings.{ComesToEnd, IsCarriedOut, ending_in}
use Rattle.dmtcp_top.specs.Loads.{RefusesWords}
use Rattle.dmtcp_top.specs.Promise.{IsPromised}
use Rattle.dmtcp_top.specs.Sessions.{Outside, InputsFailed, StreamsFailed, FolderFailed, outside, session_in}
use Rattle.dmtcp_top.proofs.Arrivals.{words_refused, unbegun_paced}
use Rattle.dmtcp_top.proofs.Conclusions.{call_ends, call_keeps_pace, status_kept}
use Rattle.dmtcp_top.proofs.Decisions.{words_decide, inputs_decide, decided}
use Rattle.dmtcp_top.proofs.Loads.{looks_none, whole_unbegun}
use Rattle.dmtcp_top.proofs.SetLaws.{set_laws}
use Rattle.drive.proofs.HandedOn.{took_nothing}

-- what was carried out came to its end
pub come_of : (result : Result PlainKernel Ending) (words : List Text) (trace : List Record) (before now : Outside) → IsCarriedOut result words trace before now → ComesToEnd (ending_in result) words trace before now
come_of (Ok system) words trace before now out = out.come
come_of (Err ending) words trace before now out = out.come

-- and what its ending says of what failed outside
pub ended_by : {P : Type 0} (result : Result PlainKernel Ending) (wanted : Status) → IsDone ≢ wanted → IfErr result (λ ending. status_of ending ≡ wanted → P) → status_of (ending_in result) ≡ wanted → P
ended_by (Ok system) wanted apart holds is = absurd (apart is)
ended_by (Err ending) wanted apart holds is = holds is

pub refused_start : (ending : Ending) (words : List Text) (trace : List Record) (at : Outside) → trace ≡ [] → RefusesWords ending words → ComesToEnd ending words trace at at
refused_start ending words trace at none why =
    let quiet = took_nothing at.console.taken in
    let unlogged = took_nothing at.log.taken in
    let console = sunk at.console.taken at.console.taken in
    let log = sunk at.log.taken at.log.taken in
    let there = words_refused words at.inputs.files at.folder.files trace console log none quiet unlogged ending why in
    record {
      start = None;
      there = there;
      pace = unbegun_paced words at.inputs.files at.folder.files trace console log none quiet unlogged ending there;
      in_rounds = tt;
      whole = whole_unbegun trace at.folder at.folder none (looks_none at.folder);
    }

-- nothing outside failed where the words are refused
pub refused_status : (ending : Ending) (words : List Text) → RefusesWords ending words → (status_of ending ≡ IsUsage) ⊎ (status_of ending ≡ IsMemory)
refused_status an_ending.Usage words why = inl refl
refused_status an_ending.Memory words why = inr refl
refused_status an_ending.Done words why = absurd why
refused_status (an_ending.InputFault who) words why = absurd why
refused_status (an_ending.Missing who) words why = absurd why
refused_status (an_ending.BadElf who fault) words why = absurd why
refused_status an_ending.TooBig words why = absurd why
refused_status an_ending.SinkFault words why = absurd why
refused_status an_ending.DiskFault words why = absurd why
refused_status an_ending.NoSet words why = absurd why
refused_status (an_ending.Damaged slot damage) words why = absurd why
refused_status (an_ending.Budget records) words why = absurd why
refused_status an_ending.Stuck words why = absurd why

either : {A B P : Type 0} → A ⊎ B → (A → P) → (B → P) → P
either (inl a) f h = f a
either (inr b) f h = h b

-- the log goes on from what was seen of it at the end
abbrev pub with_log : Outside → SeenSink → Outside
with_log now log = outside now.inputs now.console log now.folder

module _ (ending : Ending) (status : Status) (words : List Text) (trace : List Record) (before now : Outside) (log : SeenSink) (concludes : Concludes ending status (sunk now.log.taken log.taken)) where
  pub promised : ComesToEnd ending words trace before now
      → (status_of ending ≡ InputFault → InputsFailed before now)
      → (status_of ending ≡ SinkFault → StreamsFailed before (with_log now log))
      → (status_of ending ≡ DiskFault → FolderFailed before now)
      → (status ≡ SinkFault → (status_of ending ≡ SinkFault) ⊎ Rose now.log.faults log.faults)
      → now.inputs.files ≡ before.inputs.files → before.log.faults ≤ now.log.faults
      → IsPromised status words trace before (with_log now log)
  promised come input sink disk cause same later =
      let called = session_in words come.start trace before now in
      let had = before.log.taken in
      let ends = call_ends ending status called had now.log.taken log.taken come.there concludes in
      let input_failed : status ≡ InputFault → InputsFailed before now = λ is. input (status_kept ending status InputFault (sunk now.log.taken log.taken) concludes (λ e. absurd (cc)) is) in
      let disk_failed : status ≡ DiskFault → FolderFailed before now = λ is. disk (status_kept ending status DiskFault (sunk now.log.taken log.taken) concludes (λ e. absurd (cc)) is) in
      let sink_failed : status ≡ SinkFault → StreamsFailed before (with_log now log) = λ is. either (cause is) sink (λ rose. inr (Rose-after before.log.faults now.log.faults log.faults later rose)) in
      record {
        start = come.start;
        ends = ends;
        pace = call_keeps_pace ending status called had now.log.taken log.taken come.there come.pace concludes;
        in_rounds = come.in_rounds;
        whole = come.whole;
        same = same;
        input_failed = input_failed;
        sink_failed = sink_failed;
        disk_failed = disk_failed;
        usage = λ no_stream. words_decide status called (sunk had log.taken) ends (λ is. no_stream (sink_failed is));
        inputs = λ no_input no_stream. inputs_decide status called (sunk had log.taken) ends (λ is. no_input (input_failed is)) (λ is. no_stream (sink_failed is));
        decided = λ no_input no_stream no_disk. decided set_laws status called (sunk had log.taken) ends (λ is. no_input (input_failed is)) (λ is. no_stream (sink_failed is)) (λ is. no_disk (disk_failed is));
      }
