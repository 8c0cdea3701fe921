-- The halves of a ring, from what each promises.
--     first_stops, second_stops      the ring ends with one of them
--     both_done                      both came to their end
--     told_so                        and the line that tells it was put, or not
use Rattle.std.proofs.Common.{◌≡◌, ◌≢◌, ℕ, List, [], take, Option, Some, None, inl, inr, refl, sym, ap, subst, ◌∙◌, append-nil}
use Rattle.std.specs.Prelude.{IfSome, codes}
use Rattle.sys_abi.specs.declared.record.Record.{Record}
use Rattle.edge_io.specs.Sink.{SeenSink, appended}
use Rattle.edge_io.specs.Sunk.{Sunk, sunk, Took, TookFront}
use Rattle.disk_folder.specs.Files.{FolderFiles as Folder}
use Rattle.disk_folder.specs.SeenFolder.{SeenFolder}
use Rattle.plain_machine.specs.declared.plain.Plain.{Plain}
use Rattle.plain_machine.specs.Runs.{run}
use Rattle.option_words.specs.Options.{Text}
use Rattle.trace_log.specs.LogText.{log_text}
use Rattle.job_words.specs.declared.job.Job.{Job}
use Rattle.job_words.specs.declared.job.Job.TheVariants.{Launch, Restart}
use Rattle.job_words.specs.declared.job.RestartJob.{RestartJob}
use Rattle.job_words.specs.declared.job.RingJob.{RingJob}
use Rattle.job_words.specs.Commands.{words_of_command}
use Rattle.endings.specs.declared.status.Status.{Status}
use Rattle.endings.specs.declared.status.Status.TheVariants.{Done as IsDone, Usage as IsUsage, InputFault as IsInputFault, Missing as IsMissing, BadElf as IsBadElf, TooBig as IsTooBig, SinkFault as IsSinkFault, DiskFault as IsDiskFault, NoSet as IsNoSet, Damaged as IsDamaged, Budget as IsBudget, Stuck as IsStuck, Memory as IsMemory}
use Rattle.endings.specs.declared.ending.Ending.{Ending}
use Rattle.endings.specs.declared.ending.Ending.TheVariants.{Done, Usage, InputFault, Missing, BadElf, TooBig, SinkFault, DiskFault, NoSet, Damaged, Budget, Stuck, Memory}
use Rattle.endings.specs.Endings.{status_of, line_of}
use Rattle.endings.specs.Log.{done_line, missing_line, bad_program_line, too_big_line, memory_line}
use Rattle.launch_start.specs.JobInputs.{missing, bad, too_big, first_refusal, inputs_in}
use Rattle.drive.proofs.HandedOn.{took_both, took_front}
use Rattle.drive.specs.RunEnds.{IsRun, RanOut, ShownInPart}
use Rattle.launch_start.specs.RingJobs.{launch_of, restart_of, ring_files}
use Rattle.launch_start.specs.Values.{content_named, summary}
use Rattle.dmtcp_top.specs.declared.ring.Values.{Values}
use Rattle.dmtcp_top.specs.Sessions.{Session, Beginning, given}
use Rattle.dmtcp_top.specs.Launches.{LaunchAsked, Begun, origin, schedule_in}
use Rattle.dmtcp_top.specs.Launches.Begun.{ByLaunch, ByRestart}
use Rattle.dmtcp_top.specs.Ends.{CameTo, Ends, Reaches, InputsDecide}
use Rattle.dmtcp_top.specs.Endings.{ComesToEnd, IsStopped}
use Rattle.dmtcp_top.specs.Loads.{OnlyLooks}
use Rattle.dmtcp_top.specs.Ring.{RingCall, RingHalves, RingReaches, HalfReaches, AreLines, BothEnd, launch_half, restart_half, call_of, unseen, value_left}
use Rattle.dmtcp_top.specs.RingEndings.{AreHalves, IsTold, RingIsAt, RingComesToEnd, AreDone, Telling, half_outside}
use Rattle.dmtcp_top.proofs.Conclusions.{front_of_nothing}
use Rattle.dmtcp_top.proofs.Decisions.{inputs_decide, same_restart, not_both}
use Rattle.dmtcp_top.proofs.RingLaunches.{nothing_refused}
use Rattle.dmtcp_top.proofs.RingRuns.{silent, then_looks, value_found, wants_memory}

none_some : {A P : Type 0} (o : Option A) (a : A) → o ≡ None → o ≡ Some a → P
none_some o a none some = let is : None ≡ Some a = sym none ∙ some in absurd (cc)

-- what belongs nowhere but on the log: a status of a half
module _ (call : RingCall) (console log : Sunk) (quiet : Took console []) where
  -- the log took its lines, whole
  told : (status : Status) (last : List ℕ) → RingReaches status call [] last → AreLines status call (log_text call.launch.left.trace) → Took log (log_text call.launch.left.trace) → IsTold status last call console log
  told status last there lines logged = record {
    shown = [];
    there = there;
    took = quiet;
    text = log_text call.launch.left.trace;
    lines = lines;
    logged = logged;
  }

  -- or a first part of them, where memory was wanted
  told_memory : HalfReaches IsMemory call memory_line → TookFront log (log_text call.launch.left.trace) → IsTold IsMemory memory_line call console log
  told_memory there front = record {
    shown = [];
    there = (there, refl);
    took = quiet;
    text = take front.0 (log_text call.launch.left.trace);
    lines = (front.0, refl);
    logged = front.1;
  }

-- ---- the launch

module _ (ring : RingJob) (launch restart : Job) (are : AreHalves ring launch restart) where
  abbrev launch_words : List Text
  launch_words = words_of_command (launch_of ring)

  abbrev restart_words : List Text
  restart_words = words_of_command (restart_of ring)

  -- the launch is refused for nothing that it reads
  module _ (folder : Option Folder) (start : Option Beginning) (trace : List Record) (last : List ℕ) where
    abbrev launched_half : Session
    launched_half = launch_half ring folder start trace

    asked : LaunchAsked launched_half.given
    asked = record { job = are.launch_job; asks = are.launches }

    -- what it is refused for decides the status, whatever the log took
    decided : (status : Status) → Ends status launched_half unseen → status ≢ IsInputFault → status ≢ IsSinkFault → InputsDecide status launched_half.given
    decided status ends input sink = inputs_decide status launched_half unseen ends input sink

    none : first_refusal (inputs_in ring_files are.launch_job) ≡ None
    none = nothing_refused ring are.launch_job are.launch_as

    never_missing : {P : Type 0} → Reaches IsMissing launched_half last → P
    unfolding asked
    never_missing reached =
        let ends : Ends IsMissing launched_half unseen = record { last = last; reached = reached; took = refl } in
        let why = ((decided IsMissing ends (λ e. absurd (cc)) (λ e. absurd (cc))).missing ring_files asked refl (λ e. absurd (cc))).0 refl in
        none_some (first_refusal (inputs_in ring_files are.launch_job)) (missing why.0) none why.1

    never_bad : {P : Type 0} → Reaches IsBadElf launched_half last → P
    unfolding asked
    never_bad reached =
        let ends : Ends IsBadElf launched_half unseen = record { last = last; reached = reached; took = refl } in
        let why = ((decided IsBadElf ends (λ e. absurd (cc)) (λ e. absurd (cc))).bad ring_files asked refl (λ e. absurd (cc))).0 refl in
        none_some (first_refusal (inputs_in ring_files are.launch_job)) (bad why.0 why.1.0) none why.1.1

    never_too_big : {P : Type 0} → Reaches IsTooBig launched_half last → P
    unfolding asked
    never_too_big reached =
        let ends : Ends IsTooBig launched_half unseen = record { last = last; reached = reached; took = refl } in
        let why = ((decided IsTooBig ends (λ e. absurd (cc)) (λ e. absurd (cc))).too_big ring_files asked refl (λ e. absurd (cc))).0 refl in
        none_some (first_refusal (inputs_in ring_files are.launch_job)) too_big none why

  -- ---- the ring ends with the launch
  module _ (old new : SeenFolder) (had has : SeenSink) (trace : List Record) (console : Sunk) (quiet : Took console []) where
    abbrev log : Sunk
    log = sunk had.taken has.taken

    abbrev launch_alone : {ending : Ending} → ComesToEnd ending launch_words trace (half_outside had old) (half_outside has new) → RingHalves ring old new
    launch_alone come = record {
      first = come.start;
      launched = trace;
      second = None;
      restarted = [];
      in_rounds = come.in_rounds;
      again_in_rounds = tt;
      whole = come.whole;
    }

    stops_at : (ending : Ending) (come : ComesToEnd ending launch_words trace (half_outside had old) (half_outside has new)) → status_of ending ≢ IsDone → status_of ending ≢ IsInputFault
        → RingIsAt ending (call_of (launch_alone come) trace) console log
    stops_at Done come other input = absurd (other refl)
    stops_at Usage come other input = absurd (come.there.0.1 (Launch are.launch_job) are.launches)
    stops_at (InputFault who) come other input = absurd (input refl)
    stops_at (Missing who) come other input = never_missing old.files come.start trace (missing_line who.now) come.there.0
    stops_at (BadElf who fault) come other input = never_bad old.files come.start trace (bad_program_line who.now fault) come.there.0
    stops_at TooBig come other input = never_too_big old.files come.start trace too_big_line come.there.0
    stops_at SinkFault come other input = inl (record { cut = inl (come.there.0, refl); nothing = quiet; lines = come.there.1 })
    stops_at DiskFault come other input =
        told (call_of (launch_alone come) trace) console log quiet (status_of DiskFault) (line_of DiskFault) (inl (come.there.0, refl), refl) refl come.there.1
    stops_at NoSet come other input =
        told (call_of (launch_alone come) trace) console log quiet (status_of NoSet) (line_of NoSet) (inl (come.there.0, refl), refl) refl come.there.1
    stops_at (Damaged slot damage) come other input =
        told (call_of (launch_alone come) trace) console log quiet (status_of (Damaged slot damage)) (line_of (Damaged slot damage)) (inl (come.there.0, refl), refl) refl come.there.1
    stops_at (Budget records) come other input =
        told (call_of (launch_alone come) trace) console log quiet (status_of (Budget records)) (line_of (Budget records)) (inl (come.there.0, refl), refl) refl come.there.1
    stops_at Stuck come other input =
        told (call_of (launch_alone come) trace) console log quiet (status_of Stuck) (line_of Stuck) (inl (come.there.0, refl), refl) refl come.there.1
    stops_at Memory come other input = told_memory (call_of (launch_alone come) trace) console log quiet (inl (come.there.0, refl)) come.there.1

    pub first_stops : (ending : Ending) → IsStopped ending launch_words trace (half_outside had old) (half_outside has new) → status_of ending ≢ IsInputFault → RingComesToEnd ending ring trace old new console log
    first_stops ending stopped input = record { halves = launch_alone stopped.come; there = stops_at ending stopped.come stopped.other input }

  -- ---- the restart follows
  module _ (old mid new : SeenFolder) (had amid has : SeenSink) (launched trace : List Record) (come : ComesToEnd Done launch_words launched (half_outside had old) (half_outside amid mid)) (looks : OnlyLooks mid new) where
    abbrev whole_log : Sunk
    whole_log = sunk had.taken has.taken

    abbrev Again : Ending → Type 0
    Again ending = ComesToEnd ending restart_words trace (half_outside amid mid) (half_outside has new)

    abbrev both_made : {ending : Ending} → Again ending → RingHalves ring old new
    both_made again = record {
      first = come.start;
      launched = launched;
      second = again.start;
      restarted = trace;
      in_rounds = come.in_rounds;
      again_in_rounds = again.in_rounds;
      whole = then_looks come.start launched old mid new come.whole looks;
    }

    -- the restart's folder is the one that is left
    moved : (start : Option Beginning) (P : Session → Type 0) → P (restart_half ring mid.files start trace) → P (restart_half ring new.files start trace)
    moved start P holds = subst (λ (folder : Option Folder). P (restart_half ring folder start trace)) (sym looks.nothing.same) holds

    module _ (start : Option Beginning) where
      abbrev again_half : Session
      again_half = restart_half ring mid.files start trace

      quiet_schedule : (begun : Begun again_half.given) → (schedule_in begun).every ≡ None
      quiet_schedule (ByLaunch begun) = absurd (not_both restart_words begun.asked.job are.restart_job begun.asked.asks are.restarts)
      quiet_schedule (ByRestart begun) = ap (λ (job : RestartJob). job.every) (same_restart restart_words begun.asked.job are.restart_job begun.asked.asks are.restarts) ∙ are.quiet

      -- it has no lines but the last one
      run_silent : (begun : Begun again_half.given) (last : Plain) (room : ℕ) → IsRun (schedule_in begun) (origin begun) room trace last → log_text trace ≡ []
      run_silent begun last room is = silent (schedule_in begun) (origin begun) last room trace (quiet_schedule begun) is

      half_silent : (status : Status) (last : List ℕ) → Reaches status again_half last → log_text trace ≡ []
      half_silent IsDone last r = run_silent r.0.begun r.0.run.shown.state _ r.0.run.shown.run
      half_silent IsDiskFault last r = ap log_text r.nothing.trace
      half_silent IsNoSet last r = ap log_text r.nothing.trace
      half_silent IsDamaged last r = ap log_text r.nothing.trace
      half_silent IsBudget last r = run_silent r.begun r.run.shown.state _ r.run.shown.run
      half_silent IsStuck last r = run_silent r.0.begun r.0.run.shown.state _ r.0.run.shown.run
      half_silent IsMemory last (inl unbegun, is) = ap log_text unbegun.0.trace
      half_silent IsMemory last (inr came, is) = run_silent came.begun came.run.state _ came.run.run
      half_silent IsUsage last r = ap log_text r.0.trace
      half_silent IsInputFault last r = ap log_text r.1.0.nothing.trace
      half_silent IsMissing last r = ap log_text r.1.0.nothing.trace
      half_silent IsBadElf last r = ap log_text r.1.1.0.nothing.trace
      half_silent IsTooBig last r = ap log_text r.0.nothing.trace
      half_silent IsSinkFault last r = absurd r

    lines_then : Took (sunk amid.taken has.taken) [] → Took whole_log (log_text launched)
    lines_then nothing = took_both had.taken amid.taken has.taken (log_text launched) [] come.there.1 nothing ∙ ap (appended had.taken) (append-nil (log_text launched))

    lines_are : log_text trace ≡ [] → Took (sunk amid.taken has.taken) (log_text trace) → Took whole_log (log_text launched)
    lines_are none took = lines_then (subst (Took (sunk amid.taken has.taken)) none took)

    front_is : log_text trace ≡ [] → TookFront (sunk amid.taken has.taken) (log_text trace) → Took whole_log (log_text launched)
    front_is none front = lines_then (front_of_nothing (sunk amid.taken has.taken) (subst (TookFront (sunk amid.taken has.taken)) none front))

    never_launched : {P : Type 0} → LaunchAsked (given restart_words (Some ring_files) mid.files) → P
    never_launched other = absurd (not_both restart_words other.job are.restart_job other.asks are.restarts)

    module _ (console : Sunk) (quiet : Took console []) where
      -- the restart came to this status
      stops_again : (ending : Ending) (again : Again ending) → Reaches (status_of ending) (restart_half ring mid.files again.start trace) (line_of ending)
          → Took (sunk amid.taken has.taken) (log_text trace) → (HalfReaches (status_of ending) (call_of (both_made again) trace) (line_of ending) → RingReaches (status_of ending) (call_of (both_made again) trace) [] (line_of ending))
          → (Took whole_log (log_text launched) → AreLines (status_of ending) (call_of (both_made again) trace) (log_text launched))
          → IsTold (status_of ending) (line_of ending) (call_of (both_made again) trace) console whole_log
      stops_again ending again reached took there lines =
          let logged = lines_are (half_silent again.start (status_of ending) (line_of ending) reached) took in
          told (call_of (both_made again) trace) console whole_log quiet (status_of ending) (line_of ending)
          (there (inr (come.there.0.0, moved again.start (λ half. Reaches (status_of ending) half (line_of ending)) reached, refl))) (lines logged) logged

      restarts_at : (ending : Ending) (again : Again ending) → status_of ending ≢ IsDone → RingIsAt ending (call_of (both_made again) trace) console whole_log
      restarts_at Done again other = absurd (other refl)
      restarts_at Usage again other = absurd (again.there.0.1 (Restart are.restart_job) are.restarts)
      restarts_at (InputFault who) again other = never_launched again.there.0.1.0.asked
      restarts_at (Missing who) again other = never_launched again.there.0.1.0.asked
      restarts_at (BadElf who fault) again other = never_launched again.there.0.1.1.0.asked
      restarts_at TooBig again other = never_launched again.there.0.0.asked
      restarts_at SinkFault again other =
          let came = again.there.0 in
          let none = run_silent again.start came.begun came.run.state _ came.run.run in
          inl (record {
            cut = inr (come.there.0.0, moved again.start (CameTo ShownInPart) came, refl);
            nothing = quiet;
            lines = took_front whole_log (log_text launched) (front_is none again.there.1);
          })
      restarts_at DiskFault again other = stops_again DiskFault again again.there.0 again.there.1 (λ there. (there, refl)) (λ logged. refl)
      restarts_at NoSet again other = stops_again NoSet again again.there.0 again.there.1 (λ there. (there, refl)) (λ logged. refl)
      restarts_at (Damaged slot damage) again other = stops_again (Damaged slot damage) again again.there.0 again.there.1 (λ there. (there, refl)) (λ logged. refl)
      restarts_at (Budget records) again other = stops_again (Budget records) again again.there.0 again.there.1 (λ there. (there, refl)) (λ logged. refl)
      restarts_at Stuck again other = stops_again Stuck again again.there.0 again.there.1 (λ there. (there, refl)) (λ logged. refl)
      restarts_at Memory again other =
          let logged = front_is (half_silent again.start IsMemory memory_line again.there.0) again.there.1 in
          told_memory (call_of (both_made again) trace) console whole_log quiet
          (inr (come.there.0.0, moved again.start (λ half. Reaches IsMemory half memory_line) again.there.0, refl)) (took_front whole_log (log_text launched) logged)

      pub second_stops : (ending : Ending) → IsStopped ending restart_words trace (half_outside amid mid) (half_outside has new) → RingComesToEnd ending ring trace old new console whole_log
      second_stops ending stopped = record { halves = both_made stopped.come; there = restarts_at ending stopped.come stopped.other }

    -- both came to their end
    pub both_done : (values : Values) (again : Again Done)
        → IfSome come.start (λ begun. (g : Plain) × (run begun.state launched ≡ Some g) × (values.launched ≡ content_named g.kernel (codes "value")))
        → IfSome again.start (λ begun. (g : Plain) × (run begun.state trace ≡ Some g) × (values.restarted ≡ content_named g.kernel (codes "value")))
        → AreDone values ring trace old new whole_log
    both_done values again value other =
        let came = moved again.start (CameTo RanOut) again.there.0.0 in
        record {
          halves = both_made again;
          kept = refl;
          launch = come.there.0.0;
          restart = came;
          launched_is = value_found (launch_half ring old.files come.start launched) come.there.0.0 values.launched value;
          restarted_is = value_found (restart_half ring new.files again.start trace) came values.restarted other;
          logged = lines_are (half_silent again.start IsDone done_line again.there.0) again.there.1;
        }

-- ---- the line that tells what both left

module _ (ring : RingJob) (trace : List Record) (old new : SeenFolder) (values : Values) (console log : Sunk) (done : AreDone values ring trace old new log) where
  abbrev told_line : List ℕ
  told_line = summary ring.processes values.launched values.restarted

  both_end : BothEnd (call_of done.halves trace) told_line done_line
  both_end = record {
    launched = done.launch;
    restarted = done.restart;
    trace = done.kept;
    value = ap (λ (v : List ℕ). summary ring.processes v values.restarted) done.launched_is ∙ ap (λ (w : List ℕ). summary ring.processes (value_left done.launch) w) done.restarted_is;
    line = refl;
  }

  told_at : (ending : Ending) → Telling ending told_line console → RingIsAt ending (call_of done.halves trace) console log
  told_at Done told = record { shown = told_line; there = both_end; took = told; text = log_text done.halves.launched; lines = refl; logged = done.logged }
  told_at SinkFault told = inr (record { shown = told_line; there = both_end; took = told; logged = done.logged })
  told_at Memory told =
      told_memory (call_of done.halves trace) console log told (inr (done.launch, wants_memory (call_of done.halves trace).restart done.restart, done.kept)) (took_front log (log_text done.halves.launched) done.logged)
  told_at Usage told = absurd told
  told_at (InputFault who) told = absurd told
  told_at (Missing who) told = absurd told
  told_at (BadElf who fault) told = absurd told
  told_at TooBig told = absurd told
  told_at DiskFault told = absurd told
  told_at NoSet told = absurd told
  told_at (Damaged slot damage) told = absurd told
  told_at (Budget records) told = absurd told
  told_at Stuck told = absurd told

  pub told_so : (ending : Ending) → Telling ending told_line console → RingComesToEnd ending ring trace old new console log
  told_so ending told = record { halves = done.halves; there = told_at ending told }
