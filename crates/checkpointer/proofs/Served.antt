-- What is true after a request was served, by how it ended.
use Rattle.std.proofs.Common.{◌≡◌, ◌≢◌, ℕ, zero, suc, ◌+◌, ◌<◌, ◌≤◌, Bool, true, false, not, List, [], ◌∷◌, ◌++◌, Option, Some, None, inl, inr, refl, sym, ap, subst, ◌∙◌, arith}
use Rattle.std.specs.Prelude.{◌⊎◌, max, is_some, IfSome, Result, Ok, Err, OnOk}
use Rattle.std.specs.List.{Contains}
use Rattle.std.specs.Option.{ForSome, option_map_or}
use Rattle.views.specs.Faults.{Rose}
use Rattle.views.proofs.MapLaws.{true_false}
use Rattle.sys_abi.specs.declared.identity.VPid.{VPid}
use Rattle.sys_abi.specs.declared.identity.Fd.{Fd}
use Rattle.sys_abi.specs.declared.record.Kind.{Kind}
use Rattle.sys_abi.specs.declared.record.Record.{Record}
use Rattle.sys_abi.specs.declared.record.Record.TheVariants.{Cut, Complete, Refused, Lapsed}
use Rattle.sys_abi.specs.declared.record.Cause.{Cause}
use Rattle.sys_abi.specs.declared.record.Cause.TheVariants.{Unsupported, DiskFault, Memory}
use Rattle.edge_io.specs.Sink.{appended}
use Rattle.edge_io.specs.Sunk.{Sunk, sunk, Took, TookFront}
use Rattle.disk_folder.specs.Files.{FolderFiles as Folder}
use Rattle.disk_folder.specs.Moments.{LeavesOnly}
use Rattle.disk_folder.specs.SeenFolder.{SeenFolder}
use Rattle.plain_machine.specs.declared.plain.Plain.{Plain}
use Rattle.plain_machine.specs.Tests.{ended, full_arrive}
use Rattle.trace_log.specs.declared.requests.Schedule.{Schedule}
use Rattle.trace_log.specs.declared.requests.Tally.{Tally}
use Rattle.trace_log.specs.declared.log_lines.Progress.{Progress}
use Rattle.trace_log.specs.Trace.{TraceState, with_record}
use Rattle.trace_log.specs.Requests.{Requests, Requested, AfterCut, CanBeHeld, IsUnsupported, CutAt, cut_marks, tally_after, next_requests}
use Rattle.trace_log.specs.LogText.{line_of, after}
use Rattle.trace_log.specs.Turns.{Upcoming}
use Rattle.image_store.specs.declared.set_info.SetInfo.{SetInfo}
use Rattle.image_store.specs.Slots.{last}
use Rattle.image_store.specs.FoundSets.{last_set, HasSet}
use Rattle.image_store.specs.StoreStates.{Known, FitsFolder, generation_after, next_generation}
use Rattle.image_store.specs.StoreCrashes.{OldOrNew, ChangesNothing}
use Rattle.checkpointer.specs.declared.checkpointer.Checkpointer.{Checkpointer}
use Rattle.checkpointer.specs.Keeping.{IsKept, HasNoLater, IsSafe, Counts, CountsFaults, IsOutside}
use Rattle.checkpointer.specs.UnderWay.{IsUnderWay, IsBrokenOff, IsSettled}
use Rattle.checkpointer.proofs.Sinks.{took_nothing}
use Rattle.checkpointer.proofs.Running.{steps_of}
use Rattle.checkpointer.proofs.Safety.{some_there, new_below, same_below, counts_fault, safe_quiet, safe_looked, safe_refused}
use Rattle.checkpointer.proofs.Checkpoints.{lapse_stands, refusal_stands, unsupported_stands, cut_stands, after_cut, complete_stands, late_refusal_stands, complete_ends, refusal_ends, lapse_ends, cut_tally, marked, broken}

pub on_ok2 : {A E P Q R : Type 0} (r : Result A E) → OnOk r P → OnOk r Q → (P → Q → R) → OnOk r R
on_ok2 (Ok a) p q f = f p q
on_ok2 (Err e) p q f = tt

-- the next generation of a store that was opened again
pub reopened_next : (store : Known) (greatest : ℕ) → store.floor ≡ greatest → 0 < greatest → IfSome store.last (λ info. info.generation ≤ greatest) → next_generation store ≡ suc greatest
unfolding generation_after
reopened_next store greatest floor some below = by store.last below
  where
    by : (found : Option SetInfo) → IfSome found (λ info. info.generation ≤ greatest) → suc (max store.floor (option_map_or (λ (info : SetInfo). info.generation) found 0)) ≡ suc greatest
    by None bound = omega arith
    by (Some info) bound = omega arith

-- what the checkpointer knows afterwards
pub kept_refused : (checkpointer later : Checkpointer) (was now : SeenFolder) → IsKept checkpointer was → checkpointer.store ≡ None → later.store ≡ None → later.tally.greatest ≡ checkpointer.tally.greatest → now.files ≡ was.files → IsKept later now
kept_refused checkpointer later was now kept none gone same same_told = record {
  fits = λ store is. absurd (cc);
  above = λ files is. subst (λ (n : ℕ). IfSome (last files) (λ info. info.generation ≤ n)) (sym same) (kept.above files (sym same_told ∙ is));
  floor = λ _. let floor = kept.floor none in omega arith;
}

pub raised : (files : Folder) (least most : ℕ) → least ≤ most → IfSome (last files) (λ info. info.generation ≤ least) → IfSome (last files) (λ info. info.generation ≤ most)
raised files least most le below = by (last files) below
  where
    by : (found : Option SetInfo) → IfSome found (λ info. info.generation ≤ least) → IfSome found (λ info. info.generation ≤ most)
    by None bound = tt
    by (Some info) bound = omega arith

pub kept_cut : (least : ℕ) (later : Checkpointer) (was now : SeenFolder) → HasNoLater least was → later.store ≡ None → later.tally.greatest ≡ suc least → now.files ≡ was.files → IsKept later now
kept_cut least later was now above gone next same_told = record {
  fits = λ store is. absurd (cc);
  above = λ files is. raised files least later.tally.greatest (omega arith) (above files (sym same_told ∙ is));
  floor = λ _. omega arith;
}

pub kept_same : (checkpointer later : Checkpointer) (was : SeenFolder) → IsKept checkpointer was → later.store ≡ checkpointer.store → later.tally.greatest ≡ checkpointer.tally.greatest → IsKept later was
kept_same checkpointer later was kept same greatest = record {
  fits = λ store is. let fits = kept.fits store (sym same ∙ is) in (fits.0, fits.1 ∙ ap suc (sym greatest));
  above = λ files is. subst (λ (n : ℕ). IfSome (last files) (λ info. info.generation ≤ n)) (sym greatest) (kept.above files is);
  floor = λ none. let floor = kept.floor (sym same ∙ none) in omega arith;
}

pub kept_complete : (later : Checkpointer) (done : Known) (generation : ℕ) (bytes : List (List ℕ)) (now : SeenFolder) → later.store ≡ Some done → later.tally.greatest ≡ generation → FitsFolder done now → next_generation done ≡ suc generation → ForSome now.files (λ files. HasSet (last_set files) generation bytes) → IsKept later now
kept_complete later done generation bytes now has same fits next stored = record {
  fits = λ store is. let equal : done ≡ store = cc in (subst (λ s. FitsFolder s now) equal fits, ap next_generation (sym equal) ∙ next ∙ ap suc (sym same));
  above = λ files is. new_below files generation later.tally.greatest bytes (stored files is) (omega arith);
  floor = λ none. absurd (cc);
}

pub kept_put : (later : Checkpointer) (generation least : ℕ) (bytes : List (List ℕ)) (was now : SeenFolder) → later.store ≡ None → later.tally.greatest ≡ generation → 0 < generation → least ≤ generation → ForSome was.files (λ files. IfSome (last files) (λ info. info.generation ≤ least)) → is_some now.files ≡ is_some was.files → ForSome was.files (λ before. ForSome now.files (OldOrNew (last_set before) generation bytes)) → IsKept later now
kept_put later generation least bytes was now gone same some le above told_too refused = record {
  fits = λ store is. absurd (cc);
  above = λ files is.
      let before = some_there now.files was.files files (sym told_too) is in
      by files before.0 (above before.0 before.1) (refused before.0 before.1 files is);
  floor = λ _. omega arith;
}
  where
    by : (files before : Folder) → IfSome (last before) (λ info. info.generation ≤ least) → OldOrNew (last_set before) generation bytes files → IfSome (last files) (λ info. info.generation ≤ later.tally.greatest)
    by files before below (inl old) = same_below before files later.tally.greatest old (raised before least later.tally.greatest (omega arith) below)
    by files before below (inr new) = new_below files generation later.tally.greatest bytes new (omega arith)

-- the lines of the log after a mark
refused_lines : (lines : Progress) (cause : Cause) → ((after lines (Refused cause)).request ≤ suc lines.request) × ((after lines (Refused cause)).drained ≡ 0)
unfolding after
refused_lines lines cause = (omega arith, refl)

complete_lines : (lines : Progress) (generation : ℕ) → ((after lines (Complete generation)).request ≤ suc lines.request) × ((after lines (Complete generation)).drained ≡ 0)
unfolding after
complete_lines lines generation = (omega arith, refl)

lapsed_lines : (lines : Progress) → ((after lines Lapsed).request ≤ suc lines.request) × ((after lines Lapsed).drained ≡ 0)
unfolding after
lapsed_lines lines = (omega arith, refl)

cut_lines : (lines : Progress) (generation : ℕ) → after lines (Cut generation) ≡ lines
unfolding after
cut_lines lines generation = refl

no_cut_line : (lines : Progress) (generation : ℕ) → line_of lines (Cut generation) ≡ []
unfolding line_of
no_cut_line lines generation = refl

next_greatest : (schedule : Schedule) (g : Plain) (requests : Requests) (generation : ℕ) → (next_requests schedule g requests (Cut generation)).tally.greatest ≡ generation
unfolding next_requests
next_greatest schedule g requests generation = cut_tally requests.tally generation

pub not_complete : (r : Record) → ((generation : ℕ) → r ≢ Complete generation) → (generation : ℕ) → Contains (r ∷ []) (Complete generation) → ⊥
not_complete r other generation (zero, below, is) = other generation is
not_complete r other generation (suc k, below, is) = omega arith

outside : (cause : Cause) → IsOutside cause → (cause ≡ DiskFault) ⊎ (cause ≡ Memory)
outside DiskFault kind = inl refl
outside Memory kind = inr refl
outside (Unsupported p fd k) kind = absurd kind

-- at the cut of a generation, after which these marks are still to come
pub record AtCut (schedule : Schedule) (g : Plain) (h : Plain) (upcoming : Upcoming) (checkpointer : Checkpointer) (trace : TraceState) (sink log : Sunk) (first disk : SeenFolder) (generation : ℕ) (still : List Record) : Type 0 where
  pub now : IsUnderWay schedule g h upcoming checkpointer trace sink log first disk
  pub cut : now.running.requests.phase ≡ AfterCut still
  pub greatest : now.running.requests.tally.greatest ≡ generation
  pub at : CutAt g trace.records generation h

pub refusal_safe : (g : Plain) (records : List Record) (cause : Cause) (first mid next : SeenFolder) → IsOutside cause → IsSafe g records first next → CountsFaults records first.faults mid.faults → Counts mid.faults next.faults → (cause ≡ DiskFault → Rose mid.faults next.faults) → IsSafe g (records ++ Refused cause ∷ []) first next
refusal_safe g records DiskFault first mid next kind safe counted counts rose = safe_refused g records first next safe (counts_fault records first.faults mid.faults next.faults counted (rose refl) counts.later counts.small)
refusal_safe g records Memory first mid next kind safe counted counts rose = safe_quiet g records (Refused Memory) first next (not_complete (Refused Memory) (λ generation is. cc)) refl safe
refusal_safe g records (Unsupported p fd k) first mid next kind safe counted counts rose = absurd kind

-- a request that is refused while it waits
pub refused_ok : (schedule : Schedule) (g : Plain) (h : Plain) (upcoming : Upcoming) (checkpointer later : Checkpointer) (from to : TraceState) (sink : Sunk) (had mid has : Option (List ℕ)) (cause : Cause) (first disk next : SeenFolder)
    → (before : IsUnderWay schedule g h upcoming checkpointer from sink (sunk had mid) first disk) → before.running.requests.phase ≡ Requested [] → CanBeHeld h → IsOutside cause
    → to ≡ with_record from (Refused cause) → later.schedule ≡ checkpointer.schedule → later.lines ≡ after checkpointer.lines (Refused cause) → later.tally ≡ tally_after checkpointer.tally (Refused cause) → Took (sunk mid has) (line_of checkpointer.lines (Refused cause))
    → IsSafe g (from.records ++ Refused cause ∷ []) first next
    → (after : IsUnderWay schedule g h upcoming later to sink (sunk had has) first next) × IsSettled after.running.requests to
refused_ok schedule g h upcoming checkpointer later from to sink had mid has cause first disk next before waits held kind traced scheduled lined tallied took safe =
    let bounds = refused_lines checkpointer.lines cause in
    let done = marked schedule g h upcoming checkpointer later from to sink had mid has (Refused cause) first disk next before refl (refusal_stands h before.running.requests cause waits held (outside cause kind)) traced scheduled lined tallied took
    (subst (λ (l : Progress). l.request ≤ suc checkpointer.lines.request) (sym lined) bounds.0) (λ _. ap (λ (l : Progress). l.drained) lined ∙ bounds.1) safe in
    (done.0, inl (ap (λ (q : Requests). q.phase) done.1 ∙ refusal_ends schedule h before.running.requests cause (inl waits)))

pub refused_broken : (schedule : Schedule) (g : Plain) (h : Plain) (upcoming : Upcoming) (checkpointer : Checkpointer) (from to : TraceState) (sink : Sunk) (had mid has : Option (List ℕ)) (cause : Cause) (first disk next : SeenFolder)
    → (before : IsUnderWay schedule g h upcoming checkpointer from sink (sunk had mid) first disk) → before.running.requests.phase ≡ Requested [] → CanBeHeld h → IsOutside cause
    → to ≡ with_record from (Refused cause) → TookFront (sunk mid has) (line_of checkpointer.lines (Refused cause)) → IsSafe g (from.records ++ Refused cause ∷ []) first next
    → IsBrokenOff schedule g h upcoming to sink (sunk had has) first next
refused_broken schedule g h upcoming checkpointer from to sink had mid has cause first disk next before waits held kind traced front safe =
    broken schedule g h upcoming checkpointer from to sink had mid has (Refused cause) first disk next before refl (refusal_stands h before.running.requests cause waits held (outside cause kind)) traced front safe

-- a request that is refused for what no image holds
pub unsupported_ok : (schedule : Schedule) (g : Plain) (h : Plain) (upcoming : Upcoming) (checkpointer later : Checkpointer) (from to : TraceState) (sink : Sunk) (had mid has : Option (List ℕ)) (p : VPid) (fd : Fd) (kind : Kind) (first disk : SeenFolder)
    → (before : IsUnderWay schedule g h upcoming checkpointer from sink (sunk had mid) first disk) → before.running.requests.phase ≡ Requested [] → IsUnsupported h p fd kind
    → to ≡ with_record from (Refused (Unsupported p fd kind)) → later.schedule ≡ checkpointer.schedule → later.lines ≡ after checkpointer.lines (Refused (Unsupported p fd kind)) → later.tally ≡ tally_after checkpointer.tally (Refused (Unsupported p fd kind))
    → Took (sunk mid has) (line_of checkpointer.lines (Refused (Unsupported p fd kind)))
    → (after : IsUnderWay schedule g h upcoming later to sink (sunk had has) first disk) × IsSettled after.running.requests to
unsupported_ok schedule g h upcoming checkpointer later from to sink had mid has p fd kind first disk before waits is traced scheduled lined tallied took =
    let cause = Unsupported p fd kind in
    let bounds = refused_lines checkpointer.lines cause in
    let done = marked schedule g h upcoming checkpointer later from to sink had mid has (Refused cause) first disk disk before refl (unsupported_stands h before.running.requests p fd kind waits is) traced scheduled lined tallied took
    (subst (λ (l : Progress). l.request ≤ suc checkpointer.lines.request) (sym lined) bounds.0) (λ _. ap (λ (l : Progress). l.drained) lined ∙ bounds.1)
    (safe_quiet g from.records (Refused cause) first disk (not_complete (Refused cause) (λ generation e. cc)) refl before.safe) in
    (done.0, inl (ap (λ (q : Requests). q.phase) done.1 ∙ refusal_ends schedule h before.running.requests cause (inl waits)))

pub unsupported_broken : (schedule : Schedule) (g : Plain) (h : Plain) (upcoming : Upcoming) (checkpointer : Checkpointer) (from to : TraceState) (sink : Sunk) (had mid has : Option (List ℕ)) (p : VPid) (fd : Fd) (kind : Kind) (first disk : SeenFolder)
    → (before : IsUnderWay schedule g h upcoming checkpointer from sink (sunk had mid) first disk) → before.running.requests.phase ≡ Requested [] → IsUnsupported h p fd kind
    → to ≡ with_record from (Refused (Unsupported p fd kind)) → TookFront (sunk mid has) (line_of checkpointer.lines (Refused (Unsupported p fd kind)))
    → IsBrokenOff schedule g h upcoming to sink (sunk had has) first disk
unsupported_broken schedule g h upcoming checkpointer from to sink had mid has p fd kind first disk before waits is traced front =
    let cause = Unsupported p fd kind in
    broken schedule g h upcoming checkpointer from to sink had mid has (Refused cause) first disk disk before refl (unsupported_stands h before.running.requests p fd kind waits is) traced front
    (safe_quiet g from.records (Refused cause) first disk (not_complete (Refused cause) (λ generation e. cc)) refl before.safe)

pub lapsed_ok : (schedule : Schedule) (g : Plain) (h : Plain) (upcoming : Upcoming) (checkpointer later : Checkpointer) (from to : TraceState) (sink : Sunk) (had mid has : Option (List ℕ)) (first disk : SeenFolder)
    → (before : IsUnderWay schedule g h upcoming checkpointer from sink (sunk had mid) first disk) → before.running.requests.phase ≡ Requested [] → ended h ≡ true
    → to ≡ with_record from Lapsed → later.schedule ≡ checkpointer.schedule → later.lines ≡ after checkpointer.lines Lapsed → later.tally ≡ tally_after checkpointer.tally Lapsed → Took (sunk mid has) (line_of checkpointer.lines Lapsed)
    → (after : IsUnderWay schedule g h upcoming later to sink (sunk had has) first disk) × IsSettled after.running.requests to
lapsed_ok schedule g h upcoming checkpointer later from to sink had mid has first disk before waits over traced scheduled lined tallied took =
    let bounds = lapsed_lines checkpointer.lines in
    let done = marked schedule g h upcoming checkpointer later from to sink had mid has Lapsed first disk disk before refl (lapse_stands h before.running.requests waits over) traced scheduled lined tallied took
    (subst (λ (l : Progress). l.request ≤ suc checkpointer.lines.request) (sym lined) bounds.0) (λ _. ap (λ (l : Progress). l.drained) lined ∙ bounds.1)
    (safe_quiet g from.records Lapsed first disk (not_complete Lapsed (λ generation is. cc)) refl before.safe) in
    (done.0, inl (ap (λ (q : Requests). q.phase) done.1 ∙ lapse_ends schedule h before.running.requests waits))

pub lapsed_broken : (schedule : Schedule) (g : Plain) (h : Plain) (upcoming : Upcoming) (checkpointer : Checkpointer) (from to : TraceState) (sink : Sunk) (had mid has : Option (List ℕ)) (first disk : SeenFolder)
    → (before : IsUnderWay schedule g h upcoming checkpointer from sink (sunk had mid) first disk) → before.running.requests.phase ≡ Requested [] → ended h ≡ true
    → to ≡ with_record from Lapsed → TookFront (sunk mid has) (line_of checkpointer.lines Lapsed) → IsBrokenOff schedule g h upcoming to sink (sunk had has) first disk
lapsed_broken schedule g h upcoming checkpointer from to sink had mid has first disk before waits over traced front =
    broken schedule g h upcoming checkpointer from to sink had mid has Lapsed first disk disk before refl (lapse_stands h before.running.requests waits over) traced front
    (safe_quiet g from.records Lapsed first disk (not_complete Lapsed (λ generation is. cc)) refl before.safe)

-- the cut
pub cut_made : (schedule : Schedule) (g : Plain) (h : Plain) (upcoming : Upcoming) (checkpointer later : Checkpointer) (from to : TraceState) (sink : Sunk) (had mid : Option (List ℕ)) (generation : ℕ) (first disk : SeenFolder)
    → (before : IsUnderWay schedule g h upcoming checkpointer from sink (sunk had mid) first disk) → before.running.requests.phase ≡ Requested [] → CanBeHeld h → full_arrive h ≡ h
    → generation ≡ suc checkpointer.tally.greatest → to ≡ with_record from (Cut generation) → later.schedule ≡ checkpointer.schedule → later.lines ≡ checkpointer.lines → later.tally ≡ tally_after checkpointer.tally (Cut generation)
    → AtCut schedule g h upcoming later to sink (sunk had mid) first disk generation (cut_marks h)
cut_made schedule g h upcoming checkpointer later from to sink had mid generation first disk before waits held arrived is traced scheduled lined tallied =
    let numbered : generation ≡ before.running.requests.tally.greatest + 1 = let same = ap (λ (t : Tally). t.greatest) before.noted.tallied in omega arith in
    let safe = safe_quiet g from.records (Cut generation) first disk (not_complete (Cut generation) (λ n e. cc)) refl before.safe in
    let silent : Took (sunk mid mid) (line_of checkpointer.lines (Cut generation)) = took_nothing mid ∙ ap (appended mid) (sym (no_cut_line checkpointer.lines generation)) in
    let done = marked schedule g h upcoming checkpointer later from to sink had mid mid (Cut generation) first disk disk before refl (cut_stands h before.running.requests generation waits held arrived numbered) traced
    scheduled (lined ∙ sym (cut_lines checkpointer.lines generation)) tallied silent (let same = ap (λ (l : Progress). l.request) lined in omega arith) (λ none. absurd (let cut = after_cut schedule h before.running.requests generation in cc)) safe in
    record {
      now = done.0;
      cut = ap (λ (q : Requests). q.phase) done.1 ∙ after_cut schedule h before.running.requests generation;
      greatest = ap (λ (q : Requests). q.tally.greatest) done.1 ∙ next_greatest schedule h before.running.requests generation;
      at = subst (λ (t : TraceState). CutAt g t.records generation h) (sym traced) (record { front = from.records; rest = []; whole = refl; there = steps_of schedule g h upcoming from.records sink before.running });
    }

-- the set is complete
pub completed_ok : (schedule : Schedule) (g : Plain) (h : Plain) (upcoming : Upcoming) (checkpointer later : Checkpointer) (from to : TraceState) (sink : Sunk) (had mid has : Option (List ℕ)) (generation : ℕ) (first disk next : SeenFolder)
    → (before : AtCut schedule g h upcoming checkpointer from sink (sunk had mid) first disk generation []) → to ≡ with_record from (Complete generation) → later.schedule ≡ checkpointer.schedule → later.lines ≡ after checkpointer.lines (Complete generation)
    → later.tally ≡ tally_after checkpointer.tally (Complete generation) → Took (sunk mid has) (line_of checkpointer.lines (Complete generation)) → IsSafe g (from.records ++ Complete generation ∷ []) first next
    → (after : IsUnderWay schedule g h upcoming later to sink (sunk had has) first next) × IsSettled after.running.requests to
completed_ok schedule g h upcoming checkpointer later from to sink had mid has generation first disk next before traced scheduled lined tallied took safe =
    let bounds = complete_lines checkpointer.lines generation in
    let requests = before.now.running.requests in
    let done = marked schedule g h upcoming checkpointer later from to sink had mid has (Complete generation) first disk next before.now refl (complete_stands h requests generation before.cut (sym before.greatest)) traced scheduled lined tallied took
    (subst (λ (l : Progress). l.request ≤ suc checkpointer.lines.request) (sym lined) bounds.0) (λ _. ap (λ (l : Progress). l.drained) lined ∙ bounds.1) safe in
    (done.0, inl (ap (λ (q : Requests). q.phase) done.1 ∙ complete_ends schedule h requests generation before.cut))

pub completed_broken : (schedule : Schedule) (g : Plain) (h : Plain) (upcoming : Upcoming) (checkpointer : Checkpointer) (from to : TraceState) (sink : Sunk) (had mid has : Option (List ℕ)) (generation : ℕ) (first disk next : SeenFolder)
    → (before : AtCut schedule g h upcoming checkpointer from sink (sunk had mid) first disk generation []) → to ≡ with_record from (Complete generation) → TookFront (sunk mid has) (line_of checkpointer.lines (Complete generation))
    → IsSafe g (from.records ++ Complete generation ∷ []) first next → IsBrokenOff schedule g h upcoming to sink (sunk had has) first next
completed_broken schedule g h upcoming checkpointer from to sink had mid has generation first disk next before traced front safe =
    broken schedule g h upcoming checkpointer from to sink had mid has (Complete generation) first disk next before.now refl (complete_stands h before.now.running.requests generation before.cut (sym before.greatest)) traced front safe

-- the set is refused after the cut
pub late_ok : (schedule : Schedule) (g : Plain) (h : Plain) (upcoming : Upcoming) (checkpointer later : Checkpointer) (from to : TraceState) (sink : Sunk) (had mid has : Option (List ℕ)) (generation : ℕ) (cause : Cause) (first disk next : SeenFolder)
    → (before : AtCut schedule g h upcoming checkpointer from sink (sunk had mid) first disk generation []) → IsOutside cause → to ≡ with_record from (Refused cause) → later.schedule ≡ checkpointer.schedule → later.lines ≡ after checkpointer.lines (Refused cause)
    → later.tally ≡ tally_after checkpointer.tally (Refused cause) → Took (sunk mid has) (line_of checkpointer.lines (Refused cause)) → IsSafe g (from.records ++ Refused cause ∷ []) first next
    → (after : IsUnderWay schedule g h upcoming later to sink (sunk had has) first next) × IsSettled after.running.requests to
late_ok schedule g h upcoming checkpointer later from to sink had mid has generation cause first disk next before kind traced scheduled lined tallied took safe =
    let bounds = refused_lines checkpointer.lines cause in
    let requests = before.now.running.requests in
    let done = marked schedule g h upcoming checkpointer later from to sink had mid has (Refused cause) first disk next before.now refl (late_refusal_stands h requests cause before.cut (outside cause kind)) traced scheduled lined tallied took
    (subst (λ (l : Progress). l.request ≤ suc checkpointer.lines.request) (sym lined) bounds.0) (λ _. ap (λ (l : Progress). l.drained) lined ∙ bounds.1) safe in
    (done.0, inl (ap (λ (q : Requests). q.phase) done.1 ∙ refusal_ends schedule h requests cause (inr before.cut)))

pub late_broken : (schedule : Schedule) (g : Plain) (h : Plain) (upcoming : Upcoming) (checkpointer : Checkpointer) (from to : TraceState) (sink : Sunk) (had mid has : Option (List ℕ)) (generation : ℕ) (cause : Cause) (first disk next : SeenFolder)
    → (before : AtCut schedule g h upcoming checkpointer from sink (sunk had mid) first disk generation []) → IsOutside cause → to ≡ with_record from (Refused cause) → TookFront (sunk mid has) (line_of checkpointer.lines (Refused cause))
    → IsSafe g (from.records ++ Refused cause ∷ []) first next → IsBrokenOff schedule g h upcoming to sink (sunk had has) first next
late_broken schedule g h upcoming checkpointer from to sink had mid has generation cause first disk next before kind traced front safe =
    broken schedule g h upcoming checkpointer from to sink had mid has (Refused cause) first disk next before.now refl (late_refusal_stands h before.now.running.requests cause before.cut (outside cause kind)) traced front safe

-- what a crash leaves, by how the request ended
pub safe_open_refused : (g : Plain) (records : List Record) (cause : Cause) (first disk next : SeenFolder)
    → IsSafe g records first disk → IsOutside cause → ChangesNothing disk next → LeavesOnly disk next disk.may_leave → Counts disk.faults next.faults
    → (cause ≡ DiskFault → Rose disk.faults next.faults) → IsSafe g (records ++ Refused cause ∷ []) first next
safe_open_refused g records cause first disk next safe kind nothing leaves counts rose =
    refusal_safe g records cause first disk next kind (safe_looked g records first disk next safe nothing leaves counts.later counts.small) safe.counted counts rose

-- no memory for the images: the folder was not called
pub safe_no_images : (g : Plain) (records : List Record) (first disk : SeenFolder) → IsSafe g records first disk → IsSafe g (records ++ Refused Memory ∷ []) first disk
safe_no_images g records first disk safe =
    safe_quiet g records (Refused Memory) first disk (not_complete (Refused Memory) (λ generation is. cc)) refl safe

-- whether somebody lives, in the words of the machine
pub over_if_not : (over lives : Bool) → lives ≡ not over → lives ≡ false → over ≡ true
over_if_not true lives is none = refl
over_if_not false lives is none = true_false (sym is ∙ none)

pub on_if_lives : (over lives : Bool) → lives ≡ not over → lives ≡ true → over ≡ false
on_if_lives true lives is some = sym some ∙ is
on_if_lives false lives is some = refl
