-- A cut's set: put behind the marks of what was drained, and told behind those of what is refilled.
use Rattle.std.proofs.Common.{◌≡◌, ℕ, suc, ◌-◌, ◌<◌, List, [], ◌∷◌, ◌++◌, take, drop, Option, None, inl, inr, refl, sym, ap, subst, ◌∙◌, arith, append-nil}
use Rattle.std.specs.Prelude.{◌⊎◌, IfOk, IfErr, IsTrue, Result, Ok, Err, OnOk, OnErr}
use Rattle.std.specs.Result.{result_ok}
use Rattle.views.specs.Faults.{Rose}
use Rattle.sys_abi.specs.declared.record.Record.{Record}
use Rattle.sys_abi.specs.declared.record.Record.TheVariants.{Cut}
use Rattle.sys_abi.specs.declared.record.Cause.{Cause}
use Rattle.sys_abi.specs.declared.record.Cause.TheVariants.{Unsupported, DiskFault, Memory}
use Rattle.edge_io.specs.Sunk.{Sunk, sunk, Took, TookFront}
use Rattle.disk_folder.specs.SeenFolder.{SeenFolder}
use Rattle.disk_folder.specs.Moments.{LeavesOnly}
use Rattle.plain_machine.specs.declared.plain.Plain.{Plain}
use Rattle.plain_machine.specs.Tests.{full_arrive}
use Rattle.trace_log.specs.declared.requests.Schedule.{Schedule}
use Rattle.trace_log.specs.declared.requests.Tally.{Tally}
use Rattle.trace_log.specs.Trace.{TraceState, with_record}
use Rattle.trace_log.specs.Requests.{Requests, Requested, CanBeHeld, CutAt, cut_marks, tally_after}
use Rattle.trace_log.specs.LogText.{line_of, after, after_all}
use Rattle.trace_log.specs.Spelling.{is_spellable}
use Rattle.trace_log.specs.Turns.{Upcoming}
use Rattle.image_store.specs.StoreStates.{Known, FitsFolder, next_generation}
use Rattle.image_store.specs.StoreCrashes.{ChangesNothing}
use Rattle.staged_cut.specs.HandedOn.{Stop}
use Rattle.checkpointer.specs.declared.checkpointer.Checkpointer.{Checkpointer}
use Rattle.checkpointer.specs.declared.marks.Pass.TheVariants as pass
use Rattle.checkpointer.specs.Keeping.{IsKept, HasNoLater, IsPut, IsSafe, Counts, IsOutside}
use Rattle.checkpointer.specs.Marks.{marks_of, with_marks}
use Rattle.checkpointer.specs.Running.{IsNoted}
use Rattle.checkpointer.specs.Settling.{told_of, refilled, past_refills, Settles}
use Rattle.checkpointer.specs.UnderWay.{IsUnderWay, IsBrokenOff, IsSettled}
use Rattle.checkpointer.proofs.Safety.{some_there, safe_looked, safe_put, safe_complete}
use Rattle.checkpointer.proofs.Checkpoints.{cut_tally, cut_work}
use Rattle.checkpointer.proofs.Served.{AtCut, cut_made, refusal_safe, completed_ok, completed_broken, late_ok, late_broken, kept_cut, kept_complete, kept_put, raised}
use Rattle.checkpointer.proofs.Passing.{front_counts, front_passed, kind_passes, none_left}

-- a fact of a result that is Ok, or an error
pub on_ok_of : {A E P : Type 0} (r : Result A E) → ((a : A) → r ≡ Ok a → P) → OnOk r P
on_ok_of (Ok a) f = f a refl
on_ok_of (Err e) f = tt

pub on_err_of : {A E P : Type 0} (r : Result A E) → ((e : E) → r ≡ Err e → P) → OnErr r P
on_err_of (Ok a) f = tt
on_err_of (Err e) f = f e refl

at_ok : {A E P : Type 0} (r : Result A E) (a : A) → r ≡ Ok a → OnOk r P → P
at_ok {P = P} r a is holds = subst (λ q. OnOk q P) is holds

at_err : {A E P : Type 0} (r : Result A E) (e : E) → r ≡ Err e → OnErr r P → P
at_err {P = P} r e is holds = subst (λ q. OnErr q P) is holds

-- which store a checkpointer has is neither on the trace nor on the log
with_store : (schedule : Schedule) (requests : Requests) (k : Checkpointer) (store : Option Known) (records : List Record) (log : Sunk) → IsNoted schedule requests k records log
    → IsNoted schedule requests (record k { store = store }) records log
with_store schedule requests k store records log noted = record {
  scheduled = noted.scheduled;
  tallied = noted.tallied;
  lined = noted.lined;
  logged = noted.logged;
  few = noted.few;
  dry = noted.dry;
}

-- the store was taken out or opened again
pub opened_meanwhile : (schedule : Schedule) (g h : Plain) (upcoming : Upcoming) (k opened : Checkpointer) (trace : TraceState) (sink log : Sunk) (first disk next : SeenFolder)
    → (before : IsUnderWay schedule g h upcoming k trace sink log first disk) → before.running.requests.phase ≡ Requested [] → opened ≡ record k { store = None }
    → ChangesNothing disk next → LeavesOnly disk next disk.may_leave → Counts disk.faults next.faults
    → (after : IsUnderWay schedule g h upcoming opened trace sink log first next) × (after.running.requests.phase ≡ Requested [])
opened_meanwhile schedule g h upcoming k opened trace sink log first disk next before waits opens nothing leaves counts =
    let whole : IsUnderWay schedule g h upcoming (record k { store = None }) trace sink log first next = record {
      running = before.running;
      noted = with_store schedule before.running.requests k None trace.records log before.noted;
      safe = safe_looked g trace.records first disk next before.safe nothing leaves counts.later counts.small;
    } in
    subst (λ (x : Checkpointer). (after : IsUnderWay schedule g h upcoming x trace sink log first next) × (after.running.requests.phase ≡ Requested [])) (sym opens) (whole, waits)

-- after the cut and the marks of what was drained, as far as the trace had room
pub drained_at : (schedule : Schedule) (g h : Plain) (upcoming : Upcoming) (k drained : Checkpointer) (from to : TraceState) (sink : Sunk) (had has : Option (List ℕ)) (generation : ℕ) (first disk : SeenFolder)
    → (before : IsUnderWay schedule g h upcoming k from sink (sunk had has) first disk) → before.running.requests.phase ≡ Requested [] → CanBeHeld h → full_arrive h ≡ h → generation ≡ suc k.tally.greatest
    → drained ≡ record k { tally = tally_after k.tally (Cut generation); lines = after_all k.lines (take (from.room - 1) (marks_of pass.Drain h)) } → to ≡ with_marks (with_record from (Cut generation)) (marks_of pass.Drain h)
    → AtCut schedule g h upcoming drained to sink (sunk had has) first disk generation (drop (from.room - 1) (marks_of pass.Drain h) ++ marks_of pass.Refill h)
unfolding cut_marks
drained_at schedule g h upcoming k drained from to sink had has generation first disk before waits held arrived numbered drains traced =
    let cut : Checkpointer = record k { tally = tally_after k.tally (Cut generation) } in
    let mid = with_record from (Cut generation) in
    let at = cut_made schedule g h upcoming k cut from mid sink had has generation first disk before waits held arrived numbered refl refl refl refl in
    front_passed schedule g h upcoming sink had has first disk generation cut drained mid to (marks_of pass.Drain h) (marks_of pass.Refill h) at (kind_passes pass.Drain h) drains traced

-- what the checkpointer is after these
pub record HasDrained (k drained : Checkpointer) (generation : ℕ) : Type 0 where
  pub store : drained.store ≡ k.store
  pub greatest : drained.tally.greatest ≡ generation
  pub work : drained.tally.work ≡ k.tally.work
  pub request : drained.lines.request ≡ k.lines.request

pub has_drained : (h : Plain) (k drained : Checkpointer) (generation n : ℕ) → drained ≡ record k { tally = tally_after k.tally (Cut generation); lines = after_all k.lines (take n (marks_of pass.Drain h)) } → HasDrained k drained generation
has_drained h k drained generation n is = record {
  store = ap (λ (x : Checkpointer). x.store) is;
  greatest = ap (λ (x : Checkpointer). x.tally.greatest) is ∙ cut_tally k.tally generation;
  work = ap (λ (x : Checkpointer). x.tally.work) is ∙ cut_work k.tally generation;
  request = ap (λ (x : Checkpointer). x.lines.request) is ∙ front_counts k.lines n (marks_of pass.Drain h) (kind_passes pass.Drain h);
}

-- where the trace has room left all of these came
all_drained : (schedule : Schedule) (g h : Plain) (upcoming : Upcoming) (drained : Checkpointer) (from to : TraceState) (sink log : Sunk) (generation : ℕ) (first disk : SeenFolder)
    → AtCut schedule g h upcoming drained to sink log first disk generation (drop (from.room - 1) (marks_of pass.Drain h) ++ marks_of pass.Refill h) → to ≡ with_marks (with_record from (Cut generation)) (marks_of pass.Drain h) → 0 < to.room
    → AtCut schedule g h upcoming drained to sink log first disk generation (marks_of pass.Refill h)
all_drained schedule g h upcoming drained from to sink log generation first disk at traced some =
    subst (λ (still : List Record). AtCut schedule g h upcoming drained to sink log first disk generation (still ++ marks_of pass.Refill h)) (none_left (with_record from (Cut generation)) to (marks_of pass.Drain h) traced some) at

-- another store is kept, and the folder changed safely
elsewhere : (schedule : Schedule) (g h : Plain) (upcoming : Upcoming) (k : Checkpointer) (store : Option Known) (trace : TraceState) (sink log : Sunk) (generation : ℕ) (still : List Record) (first disk next : SeenFolder)
    → AtCut schedule g h upcoming k trace sink log first disk generation still → IsSafe g trace.records first next → AtCut schedule g h upcoming (record k { store = store }) trace sink log first next generation still
elsewhere schedule g h upcoming k store trace sink log generation still first disk next at safe = record {
  now = record {
    running = at.now.running;
    noted = with_store schedule at.now.running.requests k store trace.records log at.now.noted;
    safe = safe;
  };
  cut = at.cut;
  greatest = at.greatest;
  at = at.at;
}

-- after the marks of what is refilled, as far as the trace had room
refilled_at : (schedule : Schedule) (g h : Plain) (upcoming : Upcoming) (k later : Checkpointer) (from to : TraceState) (sink : Sunk) (had has : Option (List ℕ)) (generation : ℕ) (first disk : SeenFolder)
    → AtCut schedule g h upcoming k from sink (sunk had has) first disk generation (marks_of pass.Refill h) → later ≡ past_refills h from k → to ≡ refilled h from
    → AtCut schedule g h upcoming later to sink (sunk had has) first disk generation (drop from.room (marks_of pass.Refill h) ++ [])
refilled_at schedule g h upcoming k later from to sink had has generation first disk at past traced =
    front_passed schedule g h upcoming sink had has first disk generation k later from to (marks_of pass.Refill h) []
    (subst (λ (ms : List Record). AtCut schedule g h upcoming k from sink (sunk had has) first disk generation ms) (sym (append-nil (marks_of pass.Refill h))) at) (kind_passes pass.Refill h) past traced

all_refilled : (schedule : Schedule) (g h : Plain) (upcoming : Upcoming) (k : Checkpointer) (from : TraceState) (sink : Sunk) (had has : Option (List ℕ)) (generation : ℕ) (first disk : SeenFolder)
    → AtCut schedule g h upcoming k from sink (sunk had has) first disk generation (marks_of pass.Refill h) → 0 < (refilled h from).room
    → AtCut schedule g h upcoming (past_refills h from k) (refilled h from) sink (sunk had has) first disk generation []
all_refilled schedule g h upcoming k from sink had has generation first disk at some =
    subst (λ (still : List Record). AtCut schedule g h upcoming (past_refills h from k) (refilled h from) sink (sunk had has) first disk generation (still ++ [])) (none_left from (refilled h from) (marks_of pass.Refill h) refl some)
    (refilled_at schedule g h upcoming k (past_refills h from k) from (refilled h from) sink had has generation first disk at refl refl)

-- what came of a put. Where there was no memory for the files the folder was not called
abbrev pub Came : {F : Type 0} → (F → SeenFolder) → Plain → ℕ → Result Known Cause → F → F → Type 0
Came seen h generation result disk next = IsPut h generation result (seen disk) (seen next) ⊎ ((result ≡ Err Memory) × (next ≡ disk))

put_safe : {F : Type 0} (seen : F → SeenFolder) (g h : Plain) (records : List Record) (generation : ℕ) (result : Result Known Cause) (first : SeenFolder) (disk next : F)
    → IsSafe g records first (seen disk) → CutAt g records generation h → HasNoLater generation (seen disk) → Came seen h generation result disk next → Counts (seen disk).faults (seen next).faults → IsSafe g records first (seen next)
put_safe seen g h records generation result first disk next safe cut above (inl put) counts =
    safe_put g h records generation put.images first (seen disk) (seen next) safe cut put.spelled above put.crash put.told counts.later counts.small
put_safe {F = F} seen g h records generation result first disk next safe cut above (inr none) counts = subst (λ (d : F). IsSafe g records first (seen d)) (sym none.1) safe

-- what is told of it
told_safe : {F : Type 0} (seen : F → SeenFolder) (g h : Plain) (records : List Record) (generation : ℕ) (result : Result Known Cause) (first : SeenFolder) (disk next : F)
    → IsSafe g records first (seen disk) → IsSafe g records first (seen next) → Came seen h generation result disk next → Counts (seen disk).faults (seen next).faults → IfErr result IsOutside → (result ≡ Err DiskFault → Rose (seen disk).faults (seen next).faults)
    → IsSafe g (records ++ told_of generation result ∷ []) first (seen next)
told_safe seen g h records generation (Ok done) first disk next was now (inl put) counts kind rose =
    safe_complete g records generation put.images first (seen next) now (λ files told. let here = some_there first.files (seen disk).files files was.told told in put.durable here.0 here.1)
told_safe seen g h records generation (Ok done) first disk next was now (inr none) counts kind rose = absurd (let failed = none.0 in cc)
told_safe seen g h records generation (Err cause) first disk next was now came counts kind rose =
    refusal_safe g records cause first (seen disk) (seen next) kind now was.counted counts (λ is. rose (ap Err is))

pub told_spelled : (generation : ℕ) (result : Result Known Cause) → IfErr result IsOutside → IsTrue (is_spellable (told_of generation result))
told_spelled generation (Ok done) kind = refl
told_spelled generation (Err DiskFault) kind = refl
told_spelled generation (Err Memory) kind = refl
told_spelled generation (Err (Unsupported p fd k)) kind = absurd kind

told_ok : (schedule : Schedule) (g h : Plain) (upcoming : Upcoming) (k later : Checkpointer) (from to : TraceState) (sink : Sunk) (had mid has : Option (List ℕ)) (generation : ℕ) (result : Result Known Cause) (first next : SeenFolder)
    → AtCut schedule g h upcoming k from sink (sunk had mid) first next generation [] → IfErr result IsOutside → to ≡ with_record from (told_of generation result) → later.schedule ≡ k.schedule → later.lines ≡ after k.lines (told_of generation result)
    → later.tally ≡ tally_after k.tally (told_of generation result) → Took (sunk mid has) (line_of k.lines (told_of generation result)) → IsSafe g (from.records ++ told_of generation result ∷ []) first next
    → (after : IsUnderWay schedule g h upcoming later to sink (sunk had has) first next) × IsSettled after.running.requests to
told_ok schedule g h upcoming k later from to sink had mid has generation (Ok done) first next at kind traced scheduled lined tallied took safe =
    completed_ok schedule g h upcoming k later from to sink had mid has generation first next next at traced scheduled lined tallied took safe
told_ok schedule g h upcoming k later from to sink had mid has generation (Err cause) first next at kind traced scheduled lined tallied took safe =
    late_ok schedule g h upcoming k later from to sink had mid has generation cause first next next at kind traced scheduled lined tallied took safe

told_broken : (schedule : Schedule) (g h : Plain) (upcoming : Upcoming) (k : Checkpointer) (from to : TraceState) (sink : Sunk) (had mid has : Option (List ℕ)) (generation : ℕ) (result : Result Known Cause) (first next : SeenFolder)
    → AtCut schedule g h upcoming k from sink (sunk had mid) first next generation [] → IfErr result IsOutside → to ≡ with_record from (told_of generation result) → TookFront (sunk mid has) (line_of k.lines (told_of generation result))
    → IsSafe g (from.records ++ told_of generation result ∷ []) first next → IsBrokenOff schedule g h upcoming to sink (sunk had has) first next
told_broken schedule g h upcoming k from to sink had mid has generation (Ok done) first next at kind traced front safe =
    completed_broken schedule g h upcoming k from to sink had mid has generation first next next at traced front safe
told_broken schedule g h upcoming k from to sink had mid has generation (Err cause) first next at kind traced front safe =
    late_broken schedule g h upcoming k from to sink had mid has generation cause first next next at kind traced front safe

-- the cut of the set that was put, before the folder was called and after it
pub record AtPut {F : Type 0} (seen : F → SeenFolder) (schedule : Schedule) (g : Plain) (h : Plain) (upcoming : Upcoming) (k : Checkpointer) (trace : TraceState) (sink log : Sunk) (generation : ℕ) (result : Result Known Cause) (first : SeenFolder) (disk next : F) : Type 0 where
  pub was : AtCut schedule g h upcoming k trace sink log first (seen disk) generation (marks_of pass.Refill h)
  pub now : AtCut schedule g h upcoming k trace sink log first (seen next) generation (marks_of pass.Refill h)
  pub came : Came seen h generation result disk next
  pub counts : Counts (seen disk).faults (seen next).faults
  pub kind : IfErr result IsOutside
  pub rose : result ≡ Err DiskFault → Rose (seen disk).faults (seen next).faults

pub put_at : {F : Type 0} (seen : F → SeenFolder) (schedule : Schedule) (g h : Plain) (upcoming : Upcoming) (k drained : Checkpointer) (store : Option Known) (from to : TraceState) (sink : Sunk) (had has : Option (List ℕ)) (generation : ℕ) (result : Result Known Cause) (first : SeenFolder) (disk next : F)
    → AtCut schedule g h upcoming drained to sink (sunk had has) first (seen disk) generation (drop (from.room - 1) (marks_of pass.Drain h) ++ marks_of pass.Refill h) → to ≡ with_marks (with_record from (Cut generation)) (marks_of pass.Drain h) → 0 < to.room
    → generation ≡ suc k.tally.greatest → HasNoLater k.tally.greatest (seen disk) → Came seen h generation result disk next → Counts (seen disk).faults (seen next).faults → IfErr result IsOutside → (result ≡ Err DiskFault → Rose (seen disk).faults (seen next).faults)
    → AtPut seen schedule g h upcoming (record drained { store = store }) to sink (sunk had has) generation result first disk next
put_at seen schedule g h upcoming k drained store from to sink had has generation result first disk next so_far traced some numbered below came counts kind rose =
    let still = marks_of pass.Refill h in
    let at = all_drained schedule g h upcoming drained from to sink (sunk had has) generation first (seen disk) so_far traced some in
    let above : HasNoLater generation (seen disk) = λ files is. raised files k.tally.greatest generation (omega arith) (below files is) in
    record {
      was = elsewhere schedule g h upcoming drained store to sink (sunk had has) generation still first (seen disk) (seen disk) at at.now.safe;
      now = elsewhere schedule g h upcoming drained store to sink (sunk had has) generation still first (seen disk) (seen next) at (put_safe seen g h to.records generation result first disk next at.now.safe at.at above came counts);
      came = came;
      counts = counts;
      kind = kind;
      rose = rose;
    }

-- all is as the trace says, whether the outcome stands on it or not
pub settled_ok : {F : Type 0} (seen : F → SeenFolder) (schedule : Schedule) (g h : Plain) (upcoming : Upcoming) (k later : Checkpointer) (from to : TraceState) (sink : Sunk) (had mid has : Option (List ℕ)) (generation : ℕ) (result : Result Known Cause) (first : SeenFolder) (disk next : F) (ended : Result (Unit {0}) Stop) (unit : Unit {0})
    → AtPut seen schedule g h upcoming k from sink (sunk had mid) generation result first disk next → Settles h (told_of generation result) ended k later from to mid has → later.schedule ≡ k.schedule → ended ≡ Ok unit
    → (after : IsUnderWay schedule g h upcoming later to sink (sunk had has) first (seen next)) × IsSettled after.running.requests to
settled_ok seen schedule g h upcoming k later from to sink had mid has generation result first disk next ended unit put (inl untold) scheduled fine =
    let at = refilled_at schedule g h upcoming k later from to sink had mid generation first (seen next) put.now untold.checkpointer untold.trace in
    subst (λ (taken : Option (List ℕ)). (after : IsUnderWay schedule g h upcoming later to sink (sunk had taken) first (seen next)) × IsSettled after.running.requests to) (sym untold.silent) (at.now, inr untold.full)
settled_ok seen schedule g h upcoming k later from to sink had mid has generation result first disk next ended unit put (inr told) scheduled fine =
    let was = all_refilled schedule g h upcoming k from sink had mid generation first (seen disk) put.was told.room in
    let now = all_refilled schedule g h upcoming k from sink had mid generation first (seen next) put.now told.room in
    let checkpointer = at_ok ended unit fine told.checkpointer in
    let took = at_ok ended unit fine told.ok in
    told_ok schedule g h upcoming (past_refills h from k) later (refilled h from) to sink had mid has generation result first (seen next) now put.kind told.trace scheduled (ap (λ (x : Checkpointer). x.lines) checkpointer) (ap (λ (x : Checkpointer). x.tally) checkpointer) took
    (told_safe seen g h (refilled h from).records generation result first disk next was.now.safe now.now.safe put.came put.counts put.kind put.rose)

pub settled_broken : {F : Type 0} (seen : F → SeenFolder) (schedule : Schedule) (g h : Plain) (upcoming : Upcoming) (k later : Checkpointer) (from to : TraceState) (sink : Sunk) (had mid has : Option (List ℕ)) (generation : ℕ) (result : Result Known Cause) (first : SeenFolder) (disk next : F) (ended : Result (Unit {0}) Stop) (stop : Stop)
    → AtPut seen schedule g h upcoming k from sink (sunk had mid) generation result first disk next → Settles h (told_of generation result) ended k later from to mid has → ended ≡ Err stop
    → IsBrokenOff schedule g h upcoming to sink (sunk had has) first (seen next)
settled_broken seen schedule g h upcoming k later from to sink had mid has generation result first disk next ended stop put (inl untold) failed = absurd (let fine = untold.fine in cc)
settled_broken seen schedule g h upcoming k later from to sink had mid has generation result first disk next ended stop put (inr told) failed =
    let was = all_refilled schedule g h upcoming k from sink had mid generation first (seen disk) put.was told.room in
    let now = all_refilled schedule g h upcoming k from sink had mid generation first (seen next) put.now told.room in
    told_broken schedule g h upcoming (past_refills h from k) (refilled h from) to sink had mid has generation result first (seen next) now put.kind told.trace (at_err ended stop failed told.err)
    (told_safe seen g h (refilled h from).records generation result first disk next was.now.safe now.now.safe put.came put.counts put.kind put.rose)

-- the store and the tally of what was settled
told_greatest : (tally : Tally) (generation : ℕ) (result : Result Known Cause) → (tally_after tally (told_of generation result)).greatest ≡ tally.greatest
unfolding tally_after
told_greatest tally generation (Ok done) = refl
told_greatest tally generation (Err cause) = refl

pub settled_keeps : (h : Plain) (k later : Checkpointer) (from to : TraceState) (mid has : Option (List ℕ)) (generation : ℕ) (result : Result Known Cause) (ended : Result (Unit {0}) Stop) (unit : Unit {0})
    → Settles h (told_of generation result) ended k later from to mid has → ended ≡ Ok unit → (later.store ≡ k.store) × (later.tally.greatest ≡ k.tally.greatest)
settled_keeps h k later from to mid has generation result ended unit (inl untold) fine = (ap (λ (x : Checkpointer). x.store) untold.checkpointer, ap (λ (x : Checkpointer). x.tally.greatest) untold.checkpointer)
settled_keeps h k later from to mid has generation result ended unit (inr told) fine =
    let checkpointer = at_ok ended unit fine told.checkpointer in
    (ap (λ (x : Checkpointer). x.store) checkpointer, ap (λ (x : Checkpointer). x.tally.greatest) checkpointer ∙ told_greatest k.tally generation result)

-- what the checkpointer knows of the folder after it
pub kept_written : {F : Type 0} (seen : F → SeenFolder) (h : Plain) (later : Checkpointer) (generation least : ℕ) (result : Result Known Cause) (disk next : F) → later.store ≡ result_ok result → later.tally.greatest ≡ generation → generation ≡ suc least → HasNoLater least (seen disk)
    → IfOk result (λ done. FitsFolder done (seen next) × (next_generation done ≡ suc generation)) → Came seen h generation result disk next → IsKept later (seen next)
kept_written seen h later generation least (Ok done) disk next has same numbered above fits (inl put) = kept_complete later done generation put.images (seen next) has same fits.0 fits.1 put.stored
kept_written seen h later generation least (Ok done) disk next has same numbered above fits (inr none) = absurd (let failed = none.0 in cc)
kept_written seen h later generation least (Err cause) disk next gone same numbered above fits (inl put) =
    kept_put later generation least put.images (seen disk) (seen next) gone same (omega arith) (omega arith) above put.told put.refused
kept_written {F = F} seen h later generation least (Err cause) disk next gone same numbered above fits (inr none) = kept_cut least later (seen disk) (seen next) above gone (same ∙ numbered) (ap (λ (d : F). (seen d).files) none.1)
