-- Restarts from one set, without checkpoints, answer one and leave one trace, which is that of the rounds from the set's state to their end.
--     one_restart, restart_ends_so
use Rattle.std.proofs.Common.{◌≡◌, ℕ, List, Option, Some, None, inl, inr, refl, sym, ap, subst}
use Rattle.std.specs.Prelude.{◌⊎◌, IfSome}
use Rattle.sys_abi.specs.declared.record.Record.{Record}
use Rattle.plain_machine.specs.declared.plain.Plain.{Plain}
use Rattle.plain_machine.specs.Valid.{IsValid}
use Rattle.disk_folder.specs.Files.{FolderFiles as Folder}
use Rattle.trace_log.specs.declared.requests.Schedule.{Schedule}
use Rattle.job_words.specs.declared.job.Job.TheVariants.{Restart}
use Rattle.drive.specs.declared.loop_end.LoopEnd.{LoopEnd}
use Rattle.drive.specs.HandedOn.{SpellsSet}
use Rattle.drive.specs.declared.loop_end.LoopEnd.TheVariants.{Done as LoopDone, Budget as LoopBudget, Stuck as LoopStuck, Memory as LoopMemory}
use Rattle.dmtcp_top.specs.declared.settings.Settings.{Settings}
use Rattle.endings.specs.declared.status.Status.{Status}
use Rattle.endings.specs.declared.status.Status.TheVariants.{Done, Budget, Stuck, Memory}
use Rattle.dmtcp_top.specs.Jobs.{settings_of}
use Rattle.edge_io.specs.Sunk.{Sunk}
use Rattle.dmtcp_top.specs.Sessions.{Session}
use Rattle.dmtcp_top.specs.Launches.{RestartAsked, Begun, origin, settings_in, opening_in, schedule_of}
use Rattle.dmtcp_top.specs.Launches.Begun.{ByLaunch, ByRestart}
use Rattle.dmtcp_top.specs.Ends.{Ends, RunsOn, CallGoesInRounds}
use Rattle.dmtcp_top.specs.OneOrder.{Answers, OneRestart, RestartEndsSo, RunsToEnd, no_checkpoints}
use Rattle.dmtcp_top.proofs.Decisions.{not_both, same_restart}
use Rattle.dmtcp_top.proofs.RoundTrips.{one_state}
use Rattle.dmtcp_top.proofs.OneOrder.{EndedRun, one_ended, order_of, run_to_end, valid_origin}

told : (P : Folder → Type 0) (o : Option Folder) (files : Folder) → o ≡ Some files → IfSome o P → P files
told P o files is holds = subst (λ p. IfSome p P) is holds

abbrev end_of : Status → LoopEnd
end_of Done = LoopDone
end_of Budget = LoopBudget
end_of Stuck = LoopStuck
end_of _ = LoopMemory

module _ (files : Folder) (generation : ℕ) (g : Plain) (spells : SpellsSet files generation g) (session : Session) (asked : RestartAsked session.given) (folder : session.given.folder ≡ Some files) where
  abbrev settings : Settings
  settings = settings_of (Restart asked.job)

  begins : (begun : Begun session.given) → (origin begun ≡ g) × (settings_in begun ≡ settings)
  begins (ByLaunch launched) = absurd (not_both session.given.words launched.asked.job asked.job launched.asked.asks asked.asks)
  begins (ByRestart restarted) = (
    (one_state files restarted.generation generation restarted.state g (told (λ f. SpellsSet f restarted.generation restarted.state) session.given.folder files folder restarted.counted) spells).1,
    ap (λ job. settings_of (Restart job)) (same_restart session.given.words restarted.asked.job asked.job restarted.asked.asks asked.asks),
  )

  abbrev EndsAs : LoopEnd → Type 0
  EndsAs end = (opening : ℕ) × EndedRun end (schedule_of settings opening) g settings.records session.left.trace × IsValid g

  begun_here : (end : LoopEnd) (begun : Begun session.given) → EndedRun end (schedule_of (settings_in begun) (opening_in begun)) (origin begun) (settings_in begun).records session.left.trace → EndsAs end
  begun_here end begun is =
      let at = begins begun in (
        opening_in begun,
        subst (λ h. EndedRun end (schedule_of settings (opening_in begun)) h settings.records session.left.trace) at.0
            (subst (λ (s : Settings). EndedRun end (schedule_of s (opening_in begun)) (origin begun) s.records session.left.trace) at.1 is),
        subst IsValid at.0 (valid_origin session.given begun),
      )

  restart_run : (status : Status) (log : Sunk) → Answers status → Ends status session log → CallGoesInRounds session → EndsAs (end_of status)
  restart_run Done log answers ends order =
      let is = ends.reached.0 in begun_here LoopDone is.begun (record { last = is.run.shown.state; is = is.run.shown.run; order = order_of session is.begun is.start order; there = is.run.nobody })
  restart_run Budget log answers ends order =
      let is = ends.reached in begun_here LoopBudget is.begun (record { last = is.run.shown.state; is = is.run.shown.run; order = order_of session is.begun is.start order; there = (is.run.somebody, is.run.full) })
  restart_run Stuck log answers ends order =
      let is = ends.reached.0 in begun_here LoopStuck is.begun (record { last = is.run.shown.state; is = is.run.shown.run; order = order_of session is.begun is.start order; there = (is.run.stuck, is.run.arrived, is.run.roomy) })
  restart_run _ log answers ends order = absurd answers

one_status : (first second : Status) → Answers first → Answers second → end_of first ≡ end_of second → first ≡ second
one_status Done Done answers too is = refl
one_status Done Budget answers too is = absurd (cc)
one_status Done Stuck answers too is = absurd (cc)
one_status Budget Done answers too is = absurd (cc)
one_status Budget Budget answers too is = refl
one_status Budget Stuck answers too is = absurd (cc)
one_status Stuck Done answers too is = absurd (cc)
one_status Stuck Budget answers too is = absurd (cc)
one_status Stuck Stuck answers too is = refl
one_status Done _ answers too is = absurd too
one_status Budget _ answers too is = absurd too
one_status Stuck _ answers too is = absurd too
one_status _ second answers too is = absurd answers

pub one_restart : OneRestart
one_restart files generation g a b asked too first second log other spells none none_too room folder folder_too answers answers_too ends ends_too order order_too =
    let one = restart_run files generation g spells a asked folder first log answers ends order in
    let two = restart_run files generation g spells b too folder_too second other answers_too ends_too order_too in
    let one_schedule : Schedule = schedule_of (settings_of (Restart asked.job)) one.0 in
    let two_schedule : Schedule = schedule_of (settings_of (Restart too.job)) two.0 in
    let there = subst (λ n. EndedRun (end_of second) two_schedule g n b.left.trace) (sym room) two.1 in
    let same = one_ended one_schedule two_schedule g asked.job.records a.left.trace b.left.trace (end_of first) (end_of second) one.2 none none_too one.1 there in
    (one_status first second answers answers_too same.0, same.1)

module _ (files : Folder) (generation : ℕ) (g : Plain) (records : List Record) (session : Session) (asked : RestartAsked session.given) (log : Sunk) (spells : SpellsSet files generation g)
    (folder : session.given.folder ≡ Some files) (none : asked.job.every ≡ None) (to : RunsToEnd g asked.job.records records) (order : CallGoesInRounds session) where
  abbrev DoesSo : Status → Type 0
  DoesSo status = (status ≡ Done) × (session.left.trace ≡ records)

  does_so : (status : Status) → Answers status → Ends status session log → DoesSo status
  does_so status answers ends =
      let one = restart_run files generation g spells session asked folder status log answers ends order in
      let schedule : Schedule = schedule_of (settings_of (Restart asked.job)) one.0 in
      let same = one_ended no_checkpoints schedule g asked.job.records records session.left.trace LoopDone (end_of status) one.2 refl none (run_to_end g asked.job.records records to) one.1 in
      (one_status status Done answers tt (sym same.0), sym same.1)

  by_status : (status : Status) → Ends status session log → RunsOn status → (status ≡ Memory) ⊎ DoesSo status
  by_status status ends (inl is) = inr (does_so status (subst Answers (sym is) tt) ends)
  by_status status ends (inr (inl is)) = inr (does_so status (subst Answers (sym is) tt) ends)
  by_status status ends (inr (inr (inl is))) = inr (does_so status (subst Answers (sym is) tt) ends)
  by_status status ends (inr (inr (inr is))) = inl is

pub restart_ends_so : RestartEndsSo
restart_ends_so files generation g records session asked status log spells folder none to ends order decided =
    by_status files generation g records session asked log spells folder none to order status ends (decided.restarts files generation g asked folder spells)
