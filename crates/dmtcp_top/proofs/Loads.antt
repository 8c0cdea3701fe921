-- Looking at the folder of sets before a run, and the run after it.
--     looks_none, looks_then           no call of the folder, and two stretches that only look
--     whole_unbegun, whole_begun       what a crash leaves of a call that began no run, and of one that did
--     has_none, has_store              the store of the run's sets
--     begins_at                        the run begins at the state of the start that was loaded, or restored
--     launched, restarted              so it begins as a launch or a restart does
use Rattle.std.proofs.Common.{◌≡◌, ℕ, suc, List, [], Option, Some, None, inl, inr, refl, sym, ap, subst, ◌∙◌, arith}
use Rattle.std.specs.Prelude.{◌⊎◌, IfSome, Result, Ok, Err, is_some, max, option_map}
use Rattle.std.specs.FinMap as map
use Rattle.std.proofs.Math.Nat.{zero-max}
use Rattle.std.specs.List.{Contains}
use Rattle.std.specs.Option.{ForSome, option_map_or}
use Rattle.sys_abi.specs.declared.record.Record.{Record}
use Rattle.sys_abi.specs.declared.record.Record.TheVariants.{Complete}
use Rattle.disk_folder.specs.Files.{FolderFiles as Folder}
use Rattle.disk_folder.specs.Crash.{Same}
use Rattle.disk_folder.proofs.Stretches.{joins, weakens, told_then}
use Rattle.sys_abi.specs.declared.identity.VPid.{VPid}
use Rattle.guest_proc.specs.Guests.{GuestPart}
use Rattle.launch_start.proofs.HandedOn.{Guests, seen}
use Rattle.trace_log.specs.declared.requests.Schedule.{Schedule}
use Rattle.disk_folder.specs.SeenFolder.{SeenFolder}
use Rattle.dmtcp_top.specs.Sessions.{Beginning}
use Rattle.image_store.specs.declared.set_info.SetInfo.{SetInfo}
use Rattle.image_format.specs.declared.damage.Damage.{Damage}
use Rattle.image_codec.specs.Sets.{DamagedFiles}
use Rattle.image_store.specs.SetDamages.{HasDamage}
use Rattle.image_store.specs.FoundSets.{FoundSet, set_of, last_set, IsSet, HasSet}
use Rattle.image_store.specs.StoreStates.{Known, FitsFolder, next_generation, generation_after}
use Rattle.image_store.specs.StoreCrashes.{ChangesNothing}
use Rattle.image_store.proofs.Passing.{passes_then}
use Rattle.endings.specs.declared.ending.Ending.{Ending}
use Rattle.endings.specs.declared.ending.Ending.TheVariants.{Done, Usage, InputFault, Missing, BadElf, TooBig, SinkFault, DiskFault, NoSet, Damaged, Budget, Stuck, Memory}
use Rattle.launch_start.specs.HandedOn.{Start as Origin, state_of, AreParts, CanBegin}
use Rattle.drive.specs.HandedOn.{SpellsSet, SpellsState, SpoilsSet, IsOpening, SpellsCut, CountsFaults, IsSafe}
use Rattle.dmtcp_top.specs.declared.settings.Settings.{Settings}
use Rattle.dmtcp_top.specs.Launches.{schedule_of}
use Rattle.dmtcp_top.specs.Loads.{BeginsAt, HasStore, IsLaunched, IsMade, IsOriginIn, IsRestarted, IsRestored, OnlyLooks, Restored, store_for}
use Rattle.dmtcp_top.specs.Jobs.{settings_of}
use Rattle.plain_machine.specs.declared.kernel.PlainKernel.{PlainKernel}
use Rattle.plain_machine.specs.declared.plain.Plain.{Plain}
use Rattle.plain_machine.specs.Valid.{IsValid}
use Rattle.edge_io.specs.Inputs.{NamedFiles}
use Rattle.job_words.specs.declared.job.Job.TheVariants.{Launch}
use Rattle.job_words.specs.declared.job.LaunchJob.{LaunchJob}
use Rattle.launch_start.specs.JobStarts.{IsLoaded}
use Rattle.dmtcp_top.specs.declared.start.Checkpoints.{Checkpoints}
use Rattle.dmtcp_top.specs.declared.start.Start.{Start}
use Rattle.dmtcp_top.specs.Promise.{SpellsCutOf, StaysWhole}

nothing_there : (generation : ℕ) → Contains {X = Record} [] (Complete generation) → ⊥
nothing_there generation there = let below = there.1 in omega arith

-- what could be left after calls that change nothing could be left before them
pub left_before : (old new : SeenFolder) (image : Folder) → ChangesNothing old new → new.may_leave image → old.may_leave image
left_before old new image nothing left = let before = nothing.crash.now image left in subst old.may_leave (sym before.2) before.1

opening_before : (old new : SeenFolder) (image : Folder) → ChangesNothing old new → IsOpening new.may_leave image → IsOpening old.may_leave image
opening_before old new image nothing opening = record { old = opening.old; could = left_before old new opening.old nothing opening.could; same = opening.same }

pub looks_none : (d : SeenFolder) → OnlyLooks d d
looks_none d = record {
  nothing = record {
    same = refl;
    crash = record {
      later = omega arith;
      now = λ image left. (image, left, refl);
      since = λ t image le left. inl left;
      keeps = λ t image le left. left;
      wants = λ want. want;
    };
  };
  crash = record {
    later = omega arith;
    each = d.only_now;
    before = λ t image le left. inl left;
  };
  counts = record { later = omega arith; small = λ small. small };
}

pub looks_then : (old mid new : SeenFolder) → OnlyLooks old mid → OnlyLooks mid new → OnlyLooks old new
looks_then old mid new first second = record {
  nothing = record {
    same = second.nothing.same ∙ first.nothing.same;
    crash = passes_then Same first.nothing.crash second.nothing.crash (λ before after same. same) (λ before between after same again. again ∙ same);
  };
  crash = joins old mid new old.may_leave first.crash
      (weakens mid new mid.may_leave old.may_leave second.crash (λ image left. left_before old mid image first.nothing left));
  counts = record {
    later = let one = first.counts.later in let two = second.counts.later in omega arith;
    small = λ small. second.counts.small (first.counts.small small);
  };
}

pub whole_unbegun : (trace : List Record) (old new : SeenFolder) → trace ≡ [] → OnlyLooks old new → StaysWhole None trace old new
whole_unbegun trace old new none looks = subst (λ records. StaysWhole None records old new) (sym none) (record {
  crash = λ files is. weakens old new old.may_leave (λ image. IsOpening old.may_leave image ⊎ SpellsCutOf None [] image) looks.crash
      (λ image left. inl (record { old = image; could = left; same = refl }));
  complete = λ files is generation image there left. absurd (nothing_there generation there);
  counted = inl (let later = looks.counts.later in omega arith);
})

pub whole_begun : (begun : Beginning) (trace : List Record) (old mid new : SeenFolder) → OnlyLooks old mid → IsSafe begun.state trace mid new → StaysWhole (Some begun) trace old new
whole_begun begun trace old mid new looks safe = record {
  crash = λ files is. joins old mid new (λ image. IsOpening old.may_leave image ⊎ SpellsCutOf (Some begun) trace image)
      (weakens old mid old.may_leave (λ image. IsOpening old.may_leave image ⊎ SpellsCutOf (Some begun) trace image) looks.crash (λ image left. inl (record { old = image; could = left; same = refl })))
      (weakens mid new (λ image. IsOpening mid.may_leave image ⊎ SpellsCut begun.state trace image) (λ image. IsOpening old.may_leave image ⊎ SpellsCutOf (Some begun) trace image) (safe.crash files (looks.nothing.same ∙ is)) good);
  complete = λ files is. safe.complete files (looks.nothing.same ∙ is);
  counted = counted safe.counted;
}
  where
    good : (image : Folder) → IsOpening mid.may_leave image ⊎ SpellsCut begun.state trace image → IsOpening old.may_leave image ⊎ SpellsCutOf (Some begun) trace image
    good image (inl opening) = inl (opening_before old mid image looks.nothing opening)
    good image (inr cut) = inr (record { begun = begun; began = refl; cut = cut })

    counted : CountsFaults trace mid.faults new.faults → CountsFaults trace old.faults new.faults
    counted (inl counts) = inl (let later = looks.counts.later in omega arith)
    counted (inr full) = inr full

abbrev pub generation_of : Option SetInfo → ℕ
generation_of info = option_map_or (λ (i : SetInfo). i.generation) info 0

next_after : (store : Known) → store.floor ≡ 0 → next_generation store ≡ suc (generation_of store.last)
unfolding generation_after
next_after store none = ap (λ floor. suc (max floor (generation_of store.last))) none ∙ ap suc (zero-max (generation_of store.last))

-- no checkpoints are asked for
pub has_none : (checkpoints : Checkpoints) (settings : Settings) (opening : ℕ) (folder : SeenFolder)
    → settings.every ≡ None → checkpoints.schedule ≡ schedule_of settings opening → checkpoints.store ≡ None
    → HasStore checkpoints folder
has_none checkpoints settings opening folder none scheduled unstored = record {
  stored = ap is_some unstored ∙ sym (ap (λ (s : Schedule). is_some s.every) scheduled ∙ ap is_some none);
  follows = subst (λ o. IfSome o (λ known. next_generation known ≡ suc checkpoints.schedule.opening)) (sym unstored) tt;
  fits = subst (λ (o : Option Known). IfSome o (λ known. FitsFolder known folder)) (sym unstored) tt;
}

is_stored : (every : Option ℕ) (store : Known) → is_some (store_for every store) ≡ is_some every
is_stored None store = refl
is_stored (Some n) store = refl

if_stored : (P : Known → Type 0) (every : Option ℕ) (store : Known) → P store → IfSome (store_for every store) P
if_stored P None store holds = tt
if_stored P (Some n) store holds = holds

pub has_store : (checkpoints : Checkpoints) (settings : Settings) (store : Known) (folder : SeenFolder)
    → checkpoints.schedule ≡ schedule_of settings (generation_of store.last)
    → checkpoints.store ≡ store_for settings.every store → store.floor ≡ 0 → FitsFolder store folder
    → HasStore checkpoints folder
has_store checkpoints settings store folder scheduled stored none fits = record {
  stored = ap is_some stored ∙ is_stored settings.every store
      ∙ sym (ap (λ (s : Schedule). is_some s.every) scheduled);
  follows = subst (λ o. IfSome o Follows) (sym stored) (if_stored Follows settings.every store next);
  fits = subst (λ o. IfSome o Fits) (sym stored) (if_stored Fits settings.every store fits);
}
  where
    Follows : Known → Type 0
    Follows known = next_generation known ≡ suc checkpoints.schedule.opening

    Fits : Known → Type 0
    Fits known = FitsFolder known folder

    next : Follows store
    next = next_after store none ∙ ap (λ (s : Schedule). suc s.opening) (sym scheduled)

module _ (folder : SeenFolder) (store : Known) (info : SetInfo) (known : store.last ≡ Some info) (fits : FitsFolder store folder) where
  -- the set that counts is the one that the store knows
  found_set : (files : Folder) → folder.files ≡ Some files → last_set files ≡ Some (set_of files info)
  unfolding last_set
  found_set files is = ap (option_map (set_of files)) ((fits files is).last ∙ known)

  slot_is : (files : Folder) → (set_of files info).slot ≡ info.slot
  unfolding set_of
  slot_is files = refl

  pub damage_found : (damage : Damage) → ForSome folder.files (λ files. HasDamage (last_set files) damage) → IfSome folder.files (λ files. SpoilsSet files info.slot damage)
  damage_found damage damaged = told_then folder.files (λ files is.
      let found = damaged files is in
      record {
        found = found.0;
        counts = found.1;
        place = let same : found.0 ≡ set_of files info = let here = found_set files is in let there = found.1 in cc in ap (λ (set : FoundSet). set.slot) same ∙ slot_is files;
        damaged = inl found.2;
      })

  pub damage_spelled : (bytes : List (List ℕ)) (damage : Damage) → ForSome folder.files (λ files. HasSet (last_set files) info.generation bytes) → DamagedFiles bytes damage.file damage.offset → IfSome folder.files (λ files. SpoilsSet files info.slot damage)
  damage_spelled bytes damage has damaged = told_then folder.files (λ files is.
      let found = has files is in
      record {
        found = found.0;
        counts = found.1;
        place = let same : found.0 ≡ set_of files info = let here = found_set files is in let there = found.1 in cc in ap (λ (set : FoundSet). set.slot) same ∙ slot_is files;
        damaged = inr (bytes, (subst (λ n. IsSet found.0 n bytes) (sym found.2.generation) found.2, damaged));
      })

  pub restored : (result : Result Origin Ending) (bytes : List (List ℕ)) → ForSome folder.files (λ files. HasSet (last_set files) info.generation bytes) → IsOriginIn result info.slot bytes → Restored result info folder.files
  restored (Ok origin) bytes has of = record {
    images = bytes;
    spelled = of.0;
    counted = told_then folder.files (λ files is. record { images = bytes; counts = has files is; state = of.0 });
    can = of.1;
  }
  restored (Err (Damaged at damage)) bytes has of = subst (λ slot. IfSome folder.files (λ files. SpoilsSet files slot damage)) (sym of.0) (damage_spelled bytes damage has of.1)
  restored (Err Memory) bytes has of = tt
  restored (Err Done) bytes has of = absurd of
  restored (Err Usage) bytes has of = absurd of
  restored (Err (InputFault who)) bytes has of = absurd of
  restored (Err (Missing who)) bytes has of = absurd of
  restored (Err (BadElf who fault)) bytes has of = absurd of
  restored (Err TooBig) bytes has of = absurd of
  restored (Err SinkFault) bytes has of = absurd of
  restored (Err DiskFault) bytes has of = absurd of
  restored (Err NoSet) bytes has of = absurd of
  restored (Err (Budget records)) bytes has of = absurd of
  restored (Err Stuck) bytes has of = absurd of

-- ---- the run at a state that was loaded or restored

same_state : (k l : PlainKernel) (guests others : Guests) → k ≡ l → guests ≡ others → seen k guests ≡ seen l others
same_state k l guests others kernel same = ap (λ (x : PlainKernel). seen x guests) kernel ∙ ap (seen l) same

pub begins_at : (origin : Origin) (system : PlainKernel) (guests : List (VPid × GuestPart))
    (checkpoints : Checkpoints) → CanBegin origin → AreParts origin system guests
    → BeginsAt (state_of origin) checkpoints (record { system = system; guests = guests; checkpoints = checkpoints })
begins_at origin system guests checkpoints can parts = record {
  state = same;
  ready = record { valid = subst IsValid (sym same) can.valid; numbered = parts.numbered };
  checkpoints = refl;
}
  where
    same : seen system (map.from_entries guests) ≡ state_of origin
    same = same_state system origin.kernel (map.from_entries guests) origin.guests parts.kernel parts.guests

pub launched : (files : Option NamedFiles) (folder : Option Folder) (job : LaunchJob) (origin : Origin) (checkpoints : Checkpoints) (start : Start) → IsLoaded files job origin → IsMade folder (settings_of (Launch job)) checkpoints
    → BeginsAt (state_of origin) checkpoints start → IsLaunched files folder job start
launched files folder job origin checkpoints start loaded made begins = record {
  inputs = loaded.inputs;
  loaded = loaded.loaded;
  state = begins.state ∙ loaded.state;
  ready = begins.ready;
  opening = made.opening;
  opened = made.opened;
  schedule = ap (λ (c : Checkpoints). c.schedule) begins.checkpoints ∙ made.schedule;
}

pub restarted : (folder : Option Folder) (info : SetInfo) (settings : Settings) (origin : Origin) (checkpoints : Checkpoints) (start : Start) → IsRestored info folder origin → checkpoints.schedule ≡ schedule_of settings info.generation
    → BeginsAt (state_of origin) checkpoints start → IsRestarted folder settings start
restarted folder info settings origin checkpoints start restored scheduled begins = record {
  generation = info.generation;
  images = restored.images;
  spelled = subst (SpellsState restored.images) (sym begins.state) restored.spelled;
  counted = subst (λ (g : Plain). IfSome folder (λ files. SpellsSet files info.generation g)) (sym begins.state) restored.counted;
  ready = begins.ready;
  schedule = ap (λ (c : Checkpoints). c.schedule) begins.checkpoints ∙ scheduled;
}
