-- Which status comes where nothing outside failed: by what the call was given.
use Rattle.std.proofs.Common.{◌≡◌, ◌≢◌, ℕ, List, Option, Some, None, IfSome, inl, inr, refl, sym, ap, subst, ◌∙◌}
use Rattle.std.specs.Prelude.{◌↔◌}
use Rattle.edge_io.specs.Inputs.{NamedFiles}
use Rattle.edge_io.specs.Sunk.{Sunk}
use Rattle.disk_folder.specs.Files.{FolderFiles as Folder}
use Rattle.plain_machine.specs.declared.plain.Plain.{Plain}
use Rattle.image_format.specs.declared.damage.Damage.{Damage}
use Rattle.image_store.specs.Slots.{last as set_that_counts}
use Rattle.option_words.specs.Options.{Text}
use Rattle.job_words.specs.declared.job.Job.{Job}
use Rattle.job_words.specs.declared.job.Job.TheVariants.{Launch, Restart}
use Rattle.job_words.specs.declared.job.LaunchJob.{LaunchJob}
use Rattle.job_words.specs.declared.job.RestartJob.{RestartJob}
use Rattle.job_words.proofs.OneJob.{one_job}
use Rattle.endings.specs.declared.status.Status.{Status}
use Rattle.endings.specs.declared.status.Status.TheVariants.{Done, Usage, InputFault, Missing, BadElf, SinkFault, DiskFault, NoSet, Damaged, Budget, Stuck, Memory, TooBig}
use Rattle.dmtcp_top.specs.Jobs.{Asks, AskNothing, AskSomething}
use Rattle.launch_start.specs.JobInputs.{JobInputs, Refusal, missing, bad, too_big, IsMissing, IsBad, IsTooBig, AreInputs, first_refusal, inputs_in}
use Rattle.drive.specs.HandedOn.{SpellsSet, SpoilsSet}
use Rattle.dmtcp_top.specs.Sessions.{Session}
use Rattle.dmtcp_top.specs.Launches.{LaunchAsked, RestartAsked, Begun}
use Rattle.dmtcp_top.specs.Launches.Begun.{ByLaunch, ByRestart}
use Rattle.dmtcp_top.specs.Ends.{Ends, WordsDecide, InputsDecide, IsDecided, Reaches, RunsOn, NeedsStore}
use Rattle.dmtcp_top.specs.Ends.NeedsStore.{ToLaunch, ToRestart}
use Rattle.launch_start.proofs.Refusals.{IsKnown}
use Rattle.launch_start.proofs.JobInputs.{told_refusal}
use Rattle.dmtcp_top.proofs.SetLaws.{SetLaws, none_spelled, none_spoilt, spelled_or_spoilt}

none_some : {A P : Type 0} (a : A) → None ≡ Some a → P
none_some a is = cc

inner : {A : Type 0} (a b : A) → Some a ≡ Some b → a ≡ b
inner a b is = cc

-- words ask for one job at most
launch_in : Job → Option LaunchJob
launch_in (Launch job) = Some job
launch_in _ = None

restart_in : Job → Option RestartJob
restart_in (Restart job) = Some job
restart_in _ = None

pub same_launch : (words : List Text) (job other : LaunchJob) → Asks words (Launch job) → Asks words (Launch other) → job ≡ other
unfolding launch_in
same_launch words job other first second = inner job other (ap launch_in (one_job words (Launch job) (Launch other) first.is second.is))

pub same_restart : (words : List Text) (job other : RestartJob) → Asks words (Restart job) → Asks words (Restart other) → job ≡ other
unfolding restart_in
same_restart words job other first second = inner job other (ap restart_in (one_job words (Restart job) (Restart other) first.is second.is))

pub not_both : (words : List Text) (job : LaunchJob) (other : RestartJob) → Asks words (Launch job) → Asks words (Restart other) → ⊥
unfolding launch_in
not_both words job other launch restart = none_some job (sym (ap launch_in (one_job words (Launch job) (Restart other) launch.is restart.is)))

-- words that ask for a job ask for something
pub of_job : (words : List Text) (job : Job) → Asks words job → AskSomething words
of_job words job asks nothing = nothing job asks

seen_in : {A : Type 0} (P : A → Type 0) (o : Option A) (a : A) → o ≡ Some a → IfSome o P → P a
seen_in P o a is holds = subst (λ (p : Option _). IfSome p P) is holds

-- what a status says of what a launch is refused for
abbrev IsRefusedSo : Status → Option Refusal → Type 0
IsRefusedSo Missing refusal = IsMissing refusal
IsRefusedSo BadElf refusal = IsBad refusal
IsRefusedSo TooBig refusal = IsTooBig refusal
IsRefusedSo _ refusal = refusal ≡ None

not_none : {A P : Type 0} (o : Option A) (a : A) → o ≡ None → o ≡ Some a → P
not_none o a none some = none_some a (sym none ∙ some)

-- of two things one alone is the refusal
not_both_refuse : {P : Type 0} (o : Option Refusal) (a b : Refusal) → (Some a ≡ Some b → ⊥) → o ≡ Some a → o ≡ Some b → P
not_both_refuse o a b apart first second = absurd (apart (sym first ∙ second))

missing_decided : (status : Status) (refusal : Option Refusal) → IsRefusedSo status refusal → (status ≡ Missing) ↔ IsMissing refusal
missing_decided Missing refusal so = (λ is. so, λ there. refl)
missing_decided BadElf refusal so = (λ is. absurd (cc), λ there. not_both_refuse refusal (missing there.0) (bad so.0 so.1.0) (λ e. absurd (cc)) there.1 so.1.1)
missing_decided TooBig refusal so = (λ is. absurd (cc), λ there. not_both_refuse refusal (missing there.0) too_big (λ e. absurd (cc)) there.1 so)
missing_decided Done refusal so = (λ is. absurd (cc), λ there. not_none refusal (missing there.0) so there.1)
missing_decided Usage refusal so = (λ is. absurd (cc), λ there. not_none refusal (missing there.0) so there.1)
missing_decided InputFault refusal so = (λ is. absurd (cc), λ there. not_none refusal (missing there.0) so there.1)
missing_decided SinkFault refusal so = (λ is. absurd (cc), λ there. not_none refusal (missing there.0) so there.1)
missing_decided DiskFault refusal so = (λ is. absurd (cc), λ there. not_none refusal (missing there.0) so there.1)
missing_decided NoSet refusal so = (λ is. absurd (cc), λ there. not_none refusal (missing there.0) so there.1)
missing_decided Damaged refusal so = (λ is. absurd (cc), λ there. not_none refusal (missing there.0) so there.1)
missing_decided Budget refusal so = (λ is. absurd (cc), λ there. not_none refusal (missing there.0) so there.1)
missing_decided Stuck refusal so = (λ is. absurd (cc), λ there. not_none refusal (missing there.0) so there.1)
missing_decided Memory refusal so = (λ is. absurd (cc), λ there. not_none refusal (missing there.0) so there.1)

bad_decided : (status : Status) (refusal : Option Refusal) → IsRefusedSo status refusal → (status ≡ BadElf) ↔ IsBad refusal
bad_decided BadElf refusal so = (λ is. so, λ there. refl)
bad_decided Missing refusal so = (λ is. absurd (cc), λ there. not_both_refuse refusal (missing so.0) (bad there.0 there.1.0) (λ e. absurd (cc)) so.1 there.1.1)
bad_decided TooBig refusal so = (λ is. absurd (cc), λ there. not_both_refuse refusal too_big (bad there.0 there.1.0) (λ e. absurd (cc)) so there.1.1)
bad_decided Done refusal so = (λ is. absurd (cc), λ there. not_none refusal (bad there.0 there.1.0) so there.1.1)
bad_decided Usage refusal so = (λ is. absurd (cc), λ there. not_none refusal (bad there.0 there.1.0) so there.1.1)
bad_decided InputFault refusal so = (λ is. absurd (cc), λ there. not_none refusal (bad there.0 there.1.0) so there.1.1)
bad_decided SinkFault refusal so = (λ is. absurd (cc), λ there. not_none refusal (bad there.0 there.1.0) so there.1.1)
bad_decided DiskFault refusal so = (λ is. absurd (cc), λ there. not_none refusal (bad there.0 there.1.0) so there.1.1)
bad_decided NoSet refusal so = (λ is. absurd (cc), λ there. not_none refusal (bad there.0 there.1.0) so there.1.1)
bad_decided Damaged refusal so = (λ is. absurd (cc), λ there. not_none refusal (bad there.0 there.1.0) so there.1.1)
bad_decided Budget refusal so = (λ is. absurd (cc), λ there. not_none refusal (bad there.0 there.1.0) so there.1.1)
bad_decided Stuck refusal so = (λ is. absurd (cc), λ there. not_none refusal (bad there.0 there.1.0) so there.1.1)
bad_decided Memory refusal so = (λ is. absurd (cc), λ there. not_none refusal (bad there.0 there.1.0) so there.1.1)

too_big_decided : (status : Status) (refusal : Option Refusal) → IsRefusedSo status refusal → (status ≡ TooBig) ↔ IsTooBig refusal
too_big_decided TooBig refusal so = (λ is. so, λ there. refl)
too_big_decided Missing refusal so = (λ is. absurd (cc), λ there. not_both_refuse refusal (missing so.0) too_big (λ e. absurd (cc)) so.1 there)
too_big_decided BadElf refusal so = (λ is. absurd (cc), λ there. not_both_refuse refusal (bad so.0 so.1.0) too_big (λ e. absurd (cc)) so.1.1 there)
too_big_decided Done refusal so = (λ is. absurd (cc), λ there. not_none refusal too_big so there)
too_big_decided Usage refusal so = (λ is. absurd (cc), λ there. not_none refusal too_big so there)
too_big_decided InputFault refusal so = (λ is. absurd (cc), λ there. not_none refusal too_big so there)
too_big_decided SinkFault refusal so = (λ is. absurd (cc), λ there. not_none refusal too_big so there)
too_big_decided DiskFault refusal so = (λ is. absurd (cc), λ there. not_none refusal too_big so there)
too_big_decided NoSet refusal so = (λ is. absurd (cc), λ there. not_none refusal too_big so there)
too_big_decided Damaged refusal so = (λ is. absurd (cc), λ there. not_none refusal too_big so there)
too_big_decided Budget refusal so = (λ is. absurd (cc), λ there. not_none refusal too_big so there)
too_big_decided Stuck refusal so = (λ is. absurd (cc), λ there. not_none refusal too_big so there)
too_big_decided Memory refusal so = (λ is. absurd (cc), λ there. not_none refusal too_big so there)

module _ (called : Session) (line : List ℕ) where
  against_both : {P : Type 0} → LaunchAsked called.given → RestartAsked called.given → P
  against_both launch restart = absurd (not_both called.given.words launch.job restart.job launch.asks restart.asks)

  none_launched : {P : Type 0} → LaunchAsked called.given → AskNothing called.given.words → P
  none_launched asked nothing = absurd (nothing (Launch asked.job) asked.asks)

  none_restarted : {P : Type 0} → RestartAsked called.given → AskNothing called.given.words → P
  none_restarted asked nothing = absurd (nothing (Restart asked.job) asked.asks)

  none_needed : {P : Type 0} → NeedsStore called.given → AskNothing called.given.words → P
  none_needed (ToLaunch asked inputs every loaded) nothing = none_launched asked nothing
  none_needed (ToRestart asked) nothing = none_restarted asked nothing

  none_begun : {P : Type 0} → Begun called.given → AskNothing called.given.words → P
  none_begun (ByLaunch launched) nothing = none_launched launched.asked nothing
  none_begun (ByRestart restarted) nothing = none_restarted restarted.asked nothing

  usage_only : (s : Status) → Reaches s called line → s ≡ Usage → AskNothing called.given.words
  usage_only Usage r is = r.1
  usage_only Done r is = absurd (cc)
  usage_only InputFault r is = absurd (cc)
  usage_only Missing r is = absurd (cc)
  usage_only BadElf r is = absurd (cc)
  usage_only SinkFault r is = absurd (cc)
  usage_only DiskFault r is = absurd (cc)
  usage_only NoSet r is = absurd (cc)
  usage_only Damaged r is = absurd (cc)
  usage_only Budget r is = absurd (cc)
  usage_only Stuck r is = absurd (cc)
  usage_only Memory r is = absurd (cc)
  usage_only TooBig r is = absurd (cc)

  usage_there : (s : Status) → Reaches s called line → AskNothing called.given.words → s ≡ Usage
  usage_there Usage r nothing = refl
  usage_there Done r nothing = none_begun r.0.begun nothing
  usage_there InputFault r nothing = none_launched r.1.0.asked nothing
  usage_there Missing r nothing = none_launched r.1.0.asked nothing
  usage_there BadElf r nothing = none_launched r.1.1.0.asked nothing
  usage_there SinkFault r nothing = absurd r
  usage_there DiskFault r nothing = none_needed r.needs nothing
  usage_there NoSet r nothing = none_restarted r.asked nothing
  usage_there Damaged r nothing = none_restarted r.asked nothing
  usage_there Budget r nothing = none_begun r.begun nothing
  usage_there Stuck r nothing = none_begun r.0.begun nothing
  usage_there Memory (inl unbegun, is) nothing = absurd (unbegun.1 nothing)
  usage_there Memory (inr begun, is) nothing = none_begun begun.begun nothing
  usage_there TooBig r nothing = none_launched r.0.asked nothing

  words_decided : (status : Status) → Reaches status called line → WordsDecide status called.given.words
  words_decided status r = (usage_only status r, usage_there status r)

  -- what the inputs hold is what the call read
  module _ (held : NamedFiles) (asked : LaunchAsked called.given) (holds : called.given.files ≡ Some held) where
    abbrev told : Option Refusal
    told = first_refusal (inputs_in held asked.job)

    same_inputs : (other : LaunchAsked called.given) (inputs : JobInputs) (refusal : Option Refusal) → AreInputs called.given.files other.job inputs → first_refusal inputs ≡ refusal → IsKnown refusal → told ≡ refusal
    same_inputs other inputs refusal are is known =
        ap (λ job. first_refusal (inputs_in held job)) (same_launch called.given.words asked.job other.job asked.asks other.asks)
        ∙ told_refusal held called.given.files holds other.job inputs are refusal is known

    begun_loaded : Begun called.given → told ≡ None
    begun_loaded (ByLaunch launched) = same_inputs launched.asked launched.inputs None launched.loaded.are launched.loaded.none tt
    begun_loaded (ByRestart restarted) = against_both asked restarted.asked

    needed_loaded : NeedsStore called.given → told ≡ None
    needed_loaded (ToLaunch other inputs every loaded) = same_inputs other inputs None loaded.are loaded.none tt
    needed_loaded (ToRestart restart) = against_both asked restart

    refused_so : (status : Status) → Reaches status called line → status ≢ InputFault → status ≢ Memory → IsRefusedSo status told
    refused_so Done r fault memory = begun_loaded r.0.begun
    refused_so Usage r fault memory = none_launched asked r.1
    refused_so InputFault r fault memory = absurd (fault refl)
    refused_so Missing r fault memory =
        (r.0, same_inputs r.1.0.asked r.1.0.first.inputs (Some (missing r.0)) r.1.0.first.are r.1.0.first.first tt)
    refused_so BadElf r fault memory =
        (r.0, (r.1.0, same_inputs r.1.1.0.asked r.1.1.0.first.inputs (Some (bad r.0 r.1.0)) r.1.1.0.first.are r.1.1.0.first.first tt))
    refused_so TooBig r fault memory = same_inputs r.0.asked r.0.first.inputs (Some too_big) r.0.first.are r.0.first.first tt
    refused_so SinkFault r fault memory = absurd r
    refused_so DiskFault r fault memory = needed_loaded r.needs
    refused_so NoSet r fault memory = against_both asked r.asked
    refused_so Damaged r fault memory = against_both asked r.asked
    refused_so Budget r fault memory = begun_loaded r.begun
    refused_so Stuck r fault memory = begun_loaded r.0.begun
    refused_so Memory r fault memory = absurd (memory refl)

    launch_decided : (status : Status) → Reaches status called line → status ≢ InputFault → status ≢ DiskFault → told ≡ None → RunsOn status
    launch_decided Done r fault disk fine = inl refl
    launch_decided Usage r fault disk fine = none_launched asked r.1
    launch_decided InputFault r fault disk fine = absurd (fault refl)
    launch_decided Missing r fault disk fine = let so = refused_so Missing r fault (λ e. absurd (cc)) in not_none told (missing so.0) fine so.1
    launch_decided BadElf r fault disk fine = let so = refused_so BadElf r fault (λ e. absurd (cc)) in not_none told (bad so.0 so.1.0) fine so.1.1
    launch_decided TooBig r fault disk fine = not_none told too_big fine (refused_so TooBig r fault (λ e. absurd (cc)))
    launch_decided SinkFault r fault disk fine = absurd r
    launch_decided DiskFault r fault disk fine = absurd (disk refl)
    launch_decided NoSet r fault disk fine = against_both asked r.asked
    launch_decided Damaged r fault disk fine = against_both asked r.asked
    launch_decided Budget r fault disk fine = inr (inl refl)
    launch_decided Stuck r fault disk fine = inr (inr (inl refl))
    launch_decided Memory r fault disk fine = inr (inr (inr refl))

  module _ (files : Folder) (asked : RestartAsked called.given) (reads : called.given.folder ≡ Some files) where
    -- a run began with the state that the folder's set spells
    begun_set : {P : Type 0} → Begun called.given → ((generation : ℕ) (g : Plain) → SpellsSet files generation g → P) → P
    begun_set (ByLaunch launched) next = against_both launched.asked asked
    begun_set (ByRestart restarted) next = next restarted.generation restarted.state (seen_in (λ there. SpellsSet there restarted.generation restarted.state) called.given.folder files reads restarted.counted)

    no_set : {P : Type 0} → Begun called.given → set_that_counts files ≡ None → P
    no_set begun none = begun_set begun (λ generation g spells. absurd (none_spelled files generation g none spells))

    setless_decided : (status : Status) → Reaches status called line → status ≢ DiskFault → status ≢ Memory → (status ≡ NoSet) ↔ (set_that_counts files ≡ None)
    setless_decided Done r disk memory = (λ is. absurd (cc), λ none. no_set r.0.begun none)
    setless_decided Usage r disk memory = (λ is. absurd (cc), λ none. none_restarted asked r.1)
    setless_decided InputFault r disk memory = (λ is. absurd (cc), λ none. against_both r.1.0.asked asked)
    setless_decided Missing r disk memory = (λ is. absurd (cc), λ none. against_both r.1.0.asked asked)
    setless_decided BadElf r disk memory = (λ is. absurd (cc), λ none. against_both r.1.1.0.asked asked)
    setless_decided TooBig r disk memory = (λ is. absurd (cc), λ none. against_both r.0.asked asked)
    setless_decided SinkFault r disk memory = absurd r
    setless_decided DiskFault r disk memory = absurd (disk refl)
    setless_decided NoSet r disk memory = (λ is. seen_in (λ there. set_that_counts there ≡ None) called.given.folder files reads r.none, λ none. refl)
    setless_decided Damaged r disk memory =
        (λ is. absurd (cc), λ none. absurd (none_spoilt files r.slot r.damage none (seen_in (λ there. SpoilsSet there r.slot r.damage) called.given.folder files reads r.spoilt)))
    setless_decided Budget r disk memory = (λ is. absurd (cc), λ none. no_set r.begun none)
    setless_decided Stuck r disk memory = (λ is. absurd (cc), λ none. no_set r.0.begun none)
    setless_decided Memory r disk memory = absurd (memory refl)

    module _ (laws : SetLaws) where
      spoiled : (slot : ℕ) (damage : Damage) → SpoilsSet files slot damage → (status : Status) → Reaches status called line → status ≢ DiskFault → status ≢ Memory → status ≡ Damaged
      spoiled slot damage spoils Done r disk memory = begun_set r.0.begun (λ generation g spells. absurd (spelled_or_spoilt laws files generation g slot damage spells spoils))
      spoiled slot damage spoils Usage r disk memory = none_restarted asked r.1
      spoiled slot damage spoils InputFault r disk memory = against_both r.1.0.asked asked
      spoiled slot damage spoils Missing r disk memory = against_both r.1.0.asked asked
      spoiled slot damage spoils BadElf r disk memory = against_both r.1.1.0.asked asked
      spoiled slot damage spoils TooBig r disk memory = against_both r.0.asked asked
      spoiled slot damage spoils SinkFault r disk memory = absurd r
      spoiled slot damage spoils DiskFault r disk memory = absurd (disk refl)
      spoiled slot damage spoils NoSet r disk memory =
          absurd (none_spoilt files slot damage (seen_in (λ there. set_that_counts there ≡ None) called.given.folder files reads r.none) spoils)
      spoiled slot damage spoils Damaged r disk memory = refl
      spoiled slot damage spoils Budget r disk memory = begun_set r.begun (λ generation g spells. absurd (spelled_or_spoilt laws files generation g slot damage spells spoils))
      spoiled slot damage spoils Stuck r disk memory = begun_set r.0.begun (λ generation g spells. absurd (spelled_or_spoilt laws files generation g slot damage spells spoils))
      spoiled slot damage spoils Memory r disk memory = absurd (memory refl)

      spoilt_in : (status : Status) → Reaches status called line → status ≡ Damaged → (slot : ℕ) × ((damage : Damage) × SpoilsSet files slot damage)
      spoilt_in Damaged r is = (r.slot, (r.damage, seen_in (λ there. SpoilsSet there r.slot r.damage) called.given.folder files reads r.spoilt))
      spoilt_in Done r is = absurd (cc)
      spoilt_in Usage r is = absurd (cc)
      spoilt_in InputFault r is = absurd (cc)
      spoilt_in Missing r is = absurd (cc)
      spoilt_in BadElf r is = absurd (cc)
      spoilt_in SinkFault r is = absurd (cc)
      spoilt_in DiskFault r is = absurd (cc)
      spoilt_in NoSet r is = absurd (cc)
      spoilt_in Budget r is = absurd (cc)
      spoilt_in Stuck r is = absurd (cc)
      spoilt_in Memory r is = absurd (cc)
      spoilt_in TooBig r is = absurd (cc)

      spoilt_decided : (status : Status) → Reaches status called line → status ≢ DiskFault → status ≢ Memory → (status ≡ Damaged) ↔ ((slot : ℕ) × ((damage : Damage) × SpoilsSet files slot damage))
      spoilt_decided status reached disk memory = (spoilt_in status reached, λ there. spoiled there.0 there.1.0 there.1.1 status reached disk memory)

      restart_decided : (generation : ℕ) (g : Plain) → SpellsSet files generation g → (status : Status) → Reaches status called line → status ≢ DiskFault → RunsOn status
      restart_decided generation g spells Done r disk = inl refl
      restart_decided generation g spells Usage r disk = none_restarted asked r.1
      restart_decided generation g spells InputFault r disk = against_both r.1.0.asked asked
      restart_decided generation g spells Missing r disk = against_both r.1.0.asked asked
      restart_decided generation g spells BadElf r disk = against_both r.1.1.0.asked asked
      restart_decided generation g spells TooBig r disk = against_both r.0.asked asked
      restart_decided generation g spells SinkFault r disk = absurd r
      restart_decided generation g spells DiskFault r disk = absurd (disk refl)
      restart_decided generation g spells NoSet r disk =
          absurd (none_spelled files generation g (seen_in (λ there. set_that_counts there ≡ None) called.given.folder files reads r.none) spells)
      restart_decided generation g spells Damaged r disk =
          absurd (spelled_or_spoilt laws files generation g r.slot r.damage spells (seen_in (λ there. SpoilsSet there r.slot r.damage) called.given.folder files reads r.spoilt))
      restart_decided generation g spells Budget r disk = inr (inl refl)
      restart_decided generation g spells Stuck r disk = inr (inr (inl refl))
      restart_decided generation g spells Memory r disk = inr (inr (inr refl))

-- but for the failure of a sink the call came to its status
reached_of : (status : Status) (called : Session) (log : Sunk) → Ends status called log → status ≢ SinkFault → (line : List ℕ) × Reaches status called line
reached_of Done called log ends sink = (ends.last, ends.reached)
reached_of Usage called log ends sink = (ends.last, ends.reached)
reached_of InputFault called log ends sink = (ends.last, ends.reached)
reached_of Missing called log ends sink = (ends.last, ends.reached)
reached_of BadElf called log ends sink = (ends.last, ends.reached)
reached_of SinkFault called log ends sink = absurd (sink refl)
reached_of DiskFault called log ends sink = (ends.last, ends.reached)
reached_of NoSet called log ends sink = (ends.last, ends.reached)
reached_of Damaged called log ends sink = (ends.last, ends.reached)
reached_of Budget called log ends sink = (ends.last, ends.reached)
reached_of Stuck called log ends sink = (ends.last, ends.reached)
reached_of Memory called log ends sink = (ends.last, ends.reached)
reached_of TooBig called log ends sink = (ends.last, ends.reached)

pub words_decide : (status : Status) (called : Session) (log : Sunk) → Ends status called log → status ≢ SinkFault → WordsDecide status called.given.words
words_decide status called log ends sink = let there = reached_of status called log ends sink in words_decided called there.0 status there.1

pub inputs_decide : (status : Status) (called : Session) (log : Sunk) → Ends status called log → status ≢ InputFault → status ≢ SinkFault → InputsDecide status called.given
inputs_decide status called log ends fault sink =
    let there = reached_of status called log ends sink in
    record {
      missing = λ held asked holds memory. missing_decided status (first_refusal (inputs_in held asked.job)) (refused_so called there.0 held asked holds status there.1 fault memory);
      bad = λ held asked holds memory. bad_decided status (first_refusal (inputs_in held asked.job)) (refused_so called there.0 held asked holds status there.1 fault memory);
      too_big = λ held asked holds memory. too_big_decided status (first_refusal (inputs_in held asked.job)) (refused_so called there.0 held asked holds status there.1 fault memory);
    }

pub decided : SetLaws → (status : Status) (called : Session) (log : Sunk) → Ends status called log → status ≢ InputFault → status ≢ SinkFault → status ≢ DiskFault → IsDecided status called.given
decided laws status called log ends fault sink disk =
    let there = reached_of status called log ends sink in
    record {
      launches = λ held asked holds fine. launch_decided called there.0 held asked holds status there.1 fault disk fine;
      setless = λ files asked reads memory. setless_decided called there.0 files asked reads status there.1 disk memory;
      spoilt = λ files asked reads memory. spoilt_decided called there.0 files asked reads laws status there.1 disk memory;
      restarts = λ files generation g asked reads spells. restart_decided called there.0 files asked reads laws generation g spells status there.1 disk;
    }
