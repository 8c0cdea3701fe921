-- How a call comes to its end, from what its parts promise.
--     memory_arrives            no run was begun for want of memory
--     words_refused, launch_refused, restart_refused      no run was begun
--     launch_arrives, restart_arrives      a run was begun, and came to its end
use Rattle.std.proofs.Common.{◌≡◌, ℕ, List, [], Option, Some, None, inl, inr, refl, sym, ap, subst, ◌∙◌}
use Rattle.sys_abi.specs.declared.record.Record.{Record}
use Rattle.edge_io.specs.Inputs.{NamedFiles}
use Rattle.edge_io.specs.Sunk.{Sunk, Took}
use Rattle.disk_folder.specs.Files.{FolderFiles as Folder}
use Rattle.plain_machine.specs.declared.plain.Plain.{Plain}
use Rattle.plain_machine.specs.Valid.{IsValid}
use Rattle.trace_log.specs.declared.requests.Schedule.{Schedule}
use Rattle.trace_log.specs.LogText.{log_text}
use Rattle.endings.specs.declared.ending.Ending.{Ending}
use Rattle.endings.specs.declared.ending.Ending.TheVariants.{Done, Usage, InputFault, Missing, BadElf, TooBig, SinkFault, DiskFault, NoSet, Damaged, Budget, Stuck, Memory}
use Rattle.drive.specs.declared.loop_end.LoopEnd.{LoopEnd}
use Rattle.drive.specs.RunEnds.{EndsRun}
use Rattle.drive.specs.Pace.{KeepsPace, LinesOf}
use Rattle.drive.specs.declared.loop_end.LoopEnd.TheVariants.{Done as LoopDone, Budget as LoopBudget, Stuck as LoopStuck, SinkFault as LoopSinkFault, Memory as LoopMemory}
use Rattle.job_words.specs.declared.job.Job.TheVariants.{Launch, Restart}
use Rattle.job_words.specs.declared.job.LaunchJob.{LaunchJob}
use Rattle.job_words.specs.declared.job.RestartJob.{RestartJob}
use Rattle.dmtcp_top.specs.Jobs.{Asks, AskNothing, AskSomething, settings_of}
use Rattle.endings.specs.Log.{budget_line}
use Rattle.dmtcp_top.specs.Sessions.{Beginning, Session, given, session}
use Rattle.dmtcp_top.specs.Launches.{LaunchAsked, RestartAsked, Begun, origin, settings_in, schedule_in, beginning, schedule_of}
use Rattle.dmtcp_top.specs.Launches.Begun.{ByLaunch, ByRestart}
use Rattle.dmtcp_top.specs.Ends.{NotBegun}
use Rattle.dmtcp_top.specs.Ends.NeedsStore.{ToLaunch, ToRestart}
use Rattle.dmtcp_top.specs.declared.start.Start.{Start}
use Rattle.dmtcp_top.specs.Endings.{IsAtEnding, KeepsPaceAt, ending_by}
use Rattle.dmtcp_top.specs.Loads.{IsLaunched, IsRestarted, RefusesWords, RefusesLaunch, RefusesRestart, plain_of}
use Rattle.dmtcp_top.proofs.Decisions.{of_job}
use Rattle.drive.proofs.HandedOn.{took_front}

-- a trace of no records has no lines
silent_log : (trace : List Record) (log : Sunk) → trace ≡ [] → Took log [] → Took log (log_text trace)
silent_log trace log none took = subst (λ records. Took log (log_text records)) (sym none) took

module _ (words : List (List ℕ)) (files : Option NamedFiles) (folder : Option Folder) (trace : List Record) (console log : Sunk) (none : trace ≡ []) (quiet : Took console []) (unlogged : Took log []) where
  abbrev unbegun_call : Session
  unbegun_call = session (given words files folder) None trace console

  unbegun : NotBegun unbegun_call
  unbegun = record { start = refl; trace = none; console = quiet }

  lines : Took log (log_text trace)
  lines = silent_log trace log none unlogged

  pub usage_arrives : AskNothing words → IsAtEnding Usage unbegun_call log
  usage_arrives nothing = ((unbegun, nothing, refl), lines)

  pub memory_arrives : AskSomething words → IsAtEnding Memory unbegun_call log
  memory_arrives something = ((inl (unbegun, something), refl), took_front log (log_text trace) lines)

  pub words_refused : (ending : Ending) → RefusesWords ending words → IsAtEnding ending unbegun_call log
  words_refused Usage why = usage_arrives why
  words_refused Memory why = memory_arrives why.0
  words_refused Done why = absurd why
  words_refused (InputFault who) why = absurd why
  words_refused (Missing who) why = absurd why
  words_refused (BadElf who fault) why = absurd why
  words_refused TooBig why = absurd why
  words_refused SinkFault why = absurd why
  words_refused DiskFault why = absurd why
  words_refused NoSet why = absurd why
  words_refused (Damaged slot damage) why = absurd why
  words_refused (Budget number) why = absurd why
  words_refused Stuck why = absurd why

  -- no line is cut off
  all_lines : (lines : List ℕ) × (LinesOf trace lines × Took log lines)
  all_lines = (log_text trace, (inl refl, lines))

  pub unbegun_paced : (ending : Ending) → IsAtEnding ending unbegun_call log → KeepsPaceAt ending unbegun_call log
  unbegun_paced SinkFault there = absurd (let none : None ≡ Some (beginning there.0.begun) = there.0.start in cc)
  unbegun_paced Memory there = all_lines
  unbegun_paced Done there = tt
  unbegun_paced Usage there = tt
  unbegun_paced (InputFault who) there = tt
  unbegun_paced (Missing who) there = tt
  unbegun_paced (BadElf who fault) there = tt
  unbegun_paced TooBig there = tt
  unbegun_paced DiskFault there = tt
  unbegun_paced NoSet there = tt
  unbegun_paced (Damaged slot damage) there = tt
  unbegun_paced (Budget number) there = tt
  unbegun_paced Stuck there = tt

  -- the words ask for this launch
  abbrev launch_asked : (job : LaunchJob) → Asks words (Launch job) → LaunchAsked (given words files folder)
  launch_asked job asks = record { job = job; asks = asks }

  pub launch_refused : (ending : Ending) (job : LaunchJob) → Asks words (Launch job) → RefusesLaunch ending files job → IsAtEnding ending unbegun_call log
  launch_refused (InputFault who) job asks why = ((who.now, (record { nothing = unbegun; asked = launch_asked job asks; first = why }, refl)), lines)
  launch_refused (Missing who) job asks why = ((who.now, (record { nothing = unbegun; asked = launch_asked job asks; first = why }, refl)), lines)
  launch_refused (BadElf who fault) job asks why = ((who.now, (fault, (record { nothing = unbegun; asked = launch_asked job asks; first = why }, refl))), lines)
  launch_refused TooBig job asks why = ((record { nothing = unbegun; asked = launch_asked job asks; first = why }, refl), lines)
  launch_refused DiskFault job asks why = (record { nothing = unbegun; needs = ToLaunch (launch_asked job asks) why.1.0 why.0 why.1.1; line = refl }, lines)
  launch_refused Memory job asks why = memory_arrives (of_job words (Launch job) asks)
  launch_refused Done job asks why = absurd why
  launch_refused Usage job asks why = absurd why
  launch_refused SinkFault job asks why = absurd why
  launch_refused NoSet job asks why = absurd why
  launch_refused (Damaged slot damage) job asks why = absurd why
  launch_refused (Budget number) job asks why = absurd why
  launch_refused Stuck job asks why = absurd why

  abbrev restart_asked : (job : RestartJob) → Asks words (Restart job) → RestartAsked (given words files folder)
  restart_asked job asks = record { job = job; asks = asks }

  pub restart_refused : (ending : Ending) (job : RestartJob) → Asks words (Restart job) → RefusesRestart ending folder → IsAtEnding ending unbegun_call log
  restart_refused DiskFault job asks why = (record { nothing = unbegun; needs = ToRestart (restart_asked job asks); line = refl }, lines)
  restart_refused NoSet job asks why = (record { nothing = unbegun; asked = restart_asked job asks; none = why; line = refl }, lines)
  restart_refused (Damaged slot damage) job asks why = (record { nothing = unbegun; asked = restart_asked job asks; slot = slot; damage = damage; spoilt = why; line = refl }, lines)
  restart_refused Memory job asks why = memory_arrives (of_job words (Restart job) asks)
  restart_refused Done job asks why = absurd why
  restart_refused Usage job asks why = absurd why
  restart_refused (InputFault who) job asks why = absurd why
  restart_refused (Missing who) job asks why = absurd why
  restart_refused (BadElf who fault) job asks why = absurd why
  restart_refused TooBig job asks why = absurd why
  restart_refused SinkFault job asks why = absurd why
  restart_refused (Budget number) job asks why = absurd why
  restart_refused Stuck job asks why = absurd why

-- how a run began
abbrev pub beginning_of : Start → Beginning
beginning_of start = record { state = plain_of start; schedule = start.checkpoints.schedule }

-- a run that began so comes to its end so
module _ (words : List (List ℕ)) (files : Option NamedFiles) (folder : Option Folder) (trace : List Record) (console log : Sunk) (at : Beginning) where
  abbrev begun_call : Session
  begun_call = session (given words files folder) (Some at) trace console

  arrives_by : (end : LoopEnd) (begun : Begun (given words files folder)) (records : ℕ) → at ≡ beginning begun → (settings_in begun).records ≡ records → EndsRun end (schedule_in begun) (origin begun) (settings_in begun).records trace console log → IsAtEnding (ending_by end records) begun_call log
  arrives_by LoopDone begun records from same ends = ((record { begun = begun; start = ap (λ is. Some is) from; run = ends.0 }, refl), ends.1)
  arrives_by LoopBudget begun records from same ends = (record { begun = begun; start = ap (λ is. Some is) from; run = ends.0; line = ap budget_line (sym same) }, ends.1)
  arrives_by LoopStuck begun records from same ends = ((record { begun = begun; start = ap (λ is. Some is) from; run = ends.0 }, refl), ends.1)
  arrives_by LoopSinkFault begun records from same ends = (record { begun = begun; start = ap (λ is. Some is) from; run = ends.0 }, ends.1)
  arrives_by LoopMemory begun records from same ends = ((inr (record { begun = begun; start = ap (λ is. Some is) from; run = ends.0 }), refl), ends.1)

  pub paced_by : (end : LoopEnd) (records : ℕ) → KeepsPace end at.state trace console log → KeepsPaceAt (ending_by end records) begun_call log
  paced_by LoopDone records paced = tt
  paced_by LoopBudget records paced = tt
  paced_by LoopStuck records paced = tt
  paced_by LoopSinkFault records paced = record { begun = at; start = refl; there = paced }
  paced_by LoopMemory records paced = paced

  ends_at : (end : LoopEnd) (begun : Begun (given words files folder)) (room : ℕ) → at ≡ beginning begun → room ≡ (settings_in begun).records → EndsRun end at.schedule at.state room trace console log
      → EndsRun end (schedule_in begun) (origin begun) (settings_in begun).records trace console log
  ends_at end begun room from full ends =
      subst (λ (b : Beginning). EndsRun end b.schedule b.state (settings_in begun).records trace console log) from (subst (λ n. EndsRun end at.schedule at.state n trace console log) full ends)

abbrev same_beginning : Plain → Schedule → Beginning
same_beginning state schedule = record { state = state; schedule = schedule }

begins_so : (state other : Plain) (schedule same : Schedule) → state ≡ other → schedule ≡ same → same_beginning state schedule ≡ same_beginning other same
begins_so state other schedule same states schedules = ap (λ g. same_beginning g schedule) states ∙ ap (same_beginning other) schedules

pub launch_arrives : (words : List (List ℕ)) (files : Option NamedFiles) (folder : Option Folder) (trace : List Record) (console log : Sunk) (end : LoopEnd) (start : Start) (job : LaunchJob) (room : ℕ)
    → Asks words (Launch job) → (launched : IsLaunched files folder job start) → room ≡ job.records
    → EndsRun end start.checkpoints.schedule (plain_of start) room trace console log
    → IsAtEnding (ending_by end job.records) (session (given words files folder) (Some (beginning_of start)) trace console) log
launch_arrives words files folder trace console log end start job room asks launched full ends =
    let begun : Begun (given words files folder) = ByLaunch (record {
      asked = record { job = job; asks = asks };
      inputs = launched.inputs;
      loaded = launched.loaded;
      valid = subst IsValid launched.state launched.ready.valid;
      opening = launched.opening;
      opened = launched.opened;
    }) in
    let from = begins_so (plain_of start) (origin begun) start.checkpoints.schedule (schedule_of (settings_of (Launch job)) launched.opening) launched.state launched.schedule in
    arrives_by words files folder trace console log (beginning_of start) end begun job.records from refl (ends_at words files folder trace console log (beginning_of start) end begun room from full ends)

pub restart_arrives : (words : List (List ℕ)) (files : Option NamedFiles) (folder : Option Folder) (trace : List Record) (console log : Sunk) (end : LoopEnd) (start : Start) (job : RestartJob) (room : ℕ)
    → Asks words (Restart job) → (restarted : IsRestarted folder (settings_of (Restart job)) start) → room ≡ job.records
    → EndsRun end start.checkpoints.schedule (plain_of start) room trace console log
    → IsAtEnding (ending_by end job.records) (session (given words files folder) (Some (beginning_of start)) trace console) log
restart_arrives words files folder trace console log end start job room asks restarted full ends =
    let begun : Begun (given words files folder) = ByRestart (record {
      asked = record { job = job; asks = asks };
      generation = restarted.generation;
      state = plain_of start;
      valid = restarted.ready.valid;
      images = restarted.images;
      spelled = restarted.spelled;
      counted = restarted.counted;
    }) in
    let from = begins_so (plain_of start) (plain_of start) start.checkpoints.schedule (schedule_of (settings_of (Restart job)) restarted.generation) refl restarted.schedule in
    arrives_by words files folder trace console log (beginning_of start) end begun job.records from refl (ends_at words files folder trace console log (beginning_of start) end begun room from full ends)
