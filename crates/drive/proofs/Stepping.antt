-- One record that was chosen, from what taking it and serving its request promise.
--     arrives         an arrival: the run goes on
--     works           a record of work, whose request waits to be served
--     goes_on         it was served
--     breaks_off      the checkpointer broke off
--     stops           the record was not made, or broke off
--     still_told      what is told of where a thread stands, over a checkpoint
use Rattle.std.proofs.Common.{◌≡◌, ℕ, ◌+◌, ◌-◌, ◌<◌, ◌≤◌, true, false, [], ◌∷◌, List, length, Option, Some, Result, Ok, Err, OnOk, OnErr, inl, refl, sym, ap, subst, ◌∙◌, arith}
use Rattle.std.specs.Prelude.{IfErr}
use Rattle.std.proofs.lemmas.List.{length-append}
use Rattle.views.specs.Maps.{map_values}
use Rattle.checkpointer.specs.OfGuestProc.Guests.{GuestPart}
use Rattle.disk_folder.specs.SeenFolder.{SeenFolder}
use Rattle.plain_machine.specs.declared.plain.Plain.{Plain}
use Rattle.trace_log.specs.declared.requests.Schedule.{Schedule}
use Rattle.trace_log.specs.Trace.{TraceState}
use Rattle.trace_log.specs.Requests.{one_more_work}
use Rattle.trace_log.specs.Turns.{Due, Upcoming, After, due_at}
use Rattle.drive.specs.HandedOn.{Computation, Stop, plain_of}
use Rattle.drive.specs.StopVariants.{Sink, Memory}
use Rattle.edge_io.specs.Sunk.{Sunk, sunk}
use Rattle.drive.specs.declared.rounds.Come.{Come}
use Rattle.drive.specs.declared.rounds.Chosen.{Chosen}
use Rattle.drive.specs.declared.rounds.Chosen.TheVariants as to_do
use Rattle.drive.specs.declared.rounds.Made.{Made}
use Rattle.drive.specs.declared.rounds.Rounds.{Rounds}
use Rattle.drive.specs.Scheduling.{IsCome, IsPast, IsToldOf, Notes, Spoils, chosen, is_made_work}
use Rattle.checkpointer.specs.declared.checkpointer.Checkpointer.{Checkpointer}
use Rattle.checkpointer.specs.UnderWay.{IsUnderWay, IsBrokenOff, WaitsIfAsked, IsSettled}
use Rattle.drive.specs.declared.start.Start.{Start}
use Rattle.drive.specs.Going.{IsGoing, IsChosen, HasEnded, end_of}
use Rattle.drive.proofs.Ended.{at_break, at_memory}
use Rattle.drive.proofs.Turning.{arrived, spoilt, stays_come, worked}

pub each_err : {A E P : Type 0} {Q : E → Type 0} (r : Result A E) → (P → (e : E) → Q e) → OnErr r P → IfErr r Q
each_err (Ok a) f p = tt
each_err (Err e) f p = f p e

pub each_ok : {A E P : Type 0} (r : Result A E) → P → OnOk r P
each_ok (Ok a) p = p
each_ok (Err e) p = tt

-- a checkpoint changes no process's own part, so that what is told of where a thread stands stays so
pub still_told : (come : Come) (before after : Computation) → after.guests ≡ before.guests → IsToldOf come (plain_of before).users → IsToldOf come (plain_of after).users
still_told come before after same told = subst (λ guests. IsToldOf come (map_values (λ (guest : GuestPart). guest.user) guests)) (sym same) told

-- the record that was taken, and how far the round has come with it
abbrev pub Taken : Plain → Plain → Option Due → Rounds → Made → TraceState → TraceState → Sunk → Type 0
Taken h k due rounds made from to console =
    (notes : Notes h k due made from to console) × IsPast rounds k due notes.noted

-- where the record is due
record Place (h : Plain) (upcoming : Upcoming) (due : Option Due) : Type 0 where
  pub d : Due
  pub is : due ≡ Some d
  pub there : due_at h upcoming ≡ Some d

one_due : (h : Plain) (upcoming : Upcoming) (rounds : Rounds) (choice : Chosen) → due_at h upcoming ≡ chosen rounds h (Some choice) → Place h upcoming (chosen rounds h (Some choice))
one_due h upcoming rounds (to_do.Arrival dir) is = record { d = _; is = refl; there = is }
one_due h upcoming rounds (to_do.Turn turn) is = record { d = _; is = refl; there = is }

-- a request of the record of work waits to be served
pub record IsServing (schedule : Schedule) (g h : Plain) (rounds : Rounds) (checkpointer : Checkpointer) (trace : TraceState) (sink log : Sunk) (first disk : SeenFolder) : Type 0 where
  pub upcoming : Upcoming
  pub now : IsUnderWay schedule g h upcoming checkpointer trace sink log first disk
  pub waits : WaitsIfAsked schedule now.running.requests
  pub come : (later : Plain) → IsCome rounds later upcoming

module _ (schedule : Schedule) (g : Plain) (now : Start) (rounds later : Rounds) (choice : Chosen) (from to : TraceState) (had mid has : Option (List ℕ)) (log : Sunk) (first disk : SeenFolder)
    (before : IsChosen schedule g now rounds choice from (sunk had mid) log first disk) where
  abbrev h : Plain
  h = plain_of now.computation

  place : Place h before.upcoming (chosen rounds h (Some choice))
  place = one_due h before.upcoming rounds choice before.due

  module _ (k : Plain) (made : Made) (taken : Taken h k (chosen rounds h (Some choice)) later made from to (sunk mid has)) where
    there : Taken h k (Some place.d) later made from to (sunk mid has)
    there = subst (λ due. Taken h k due later made from to (sunk mid has)) place.is taken

    pub arrives : (next : Start) → plain_of next.computation ≡ k → next.checkpointer ≡ now.checkpointer → is_made_work made ≡ false → IsGoing schedule g next later to (sunk had has) log first disk
    arrives next state same idle =
        let after = arrived schedule g h before.upcoming place.d now.checkpointer from to had mid has log first disk before.under before.free place.there k made there.0 (there.0.kind ∙ idle) in
        let upcoming = After place.d there.0.noted in
        let at_k : (checkpointer : Checkpointer) → checkpointer ≡ now.checkpointer → (under : IsUnderWay schedule g k upcoming checkpointer to (sunk had has) log first disk) × IsSettled under.running.requests to =
        λ checkpointer is. subst (λ c. (under : IsUnderWay schedule g k upcoming c to (sunk had has) log first disk) × IsSettled under.running.requests to) (sym is) (after.now, inl after.free) in
        let both = subst (λ (p : Plain). ((under : IsUnderWay schedule g p upcoming next.checkpointer to (sunk had has) log first disk) × IsSettled under.running.requests to) × IsCome later p upcoming) (sym state) (at_k next.checkpointer same, there.1 place.d refl) in
        record { upcoming = upcoming; under = both.0.0; settled = both.0.1; come = both.1 }

    pub works : (counted : Checkpointer) → counted ≡ record now.checkpointer { tally = one_more_work now.checkpointer.tally } → is_made_work made ≡ true → IsServing schedule g k later counted to (sunk had has) log first disk
    works counted is work =
        let own : _ = there.0.kind ∙ work in
        let after = worked schedule g h before.upcoming place.d now.checkpointer from to had mid has log first disk before.under before.free place.there k made there.0 own counted is in
        record { upcoming = After place.d there.0.noted; now = after.now; waits = after.waits; come = λ p. stays_come later h k p place.d there.0.noted there.0.own own (there.1 place.d refl) }

    pub size : (room : ℕ) → 0 < from.room → length from.records + from.room ≡ room → length to.records + to.room ≡ room
    size room some whole = subst (λ (t : TraceState). length t.records + t.room ≡ room) (sym taken.0.took.trace) (omega (arith, length-append from.records (taken.0.noted ∷ [])))

    pub less : to.room ≡ from.room - 1
    less = ap (λ (t : TraceState). t.room) taken.0.took.trace

  -- the record was not made, or broke off
  pub stops : (k : Plain) (stop : Stop) (room : ℕ) → (stop ≡ Sink → Spoils h k (chosen rounds h (Some choice)) from to (sunk mid has)) → (stop ≡ Memory → (to ≡ from) × (has ≡ mid)) → (stop ≡ Memory → k ≡ h) → 0 < from.room
      → length from.records + from.room ≡ room → HasEnded (end_of stop) schedule g room to.records k (sunk had has) log first disk
  stops k Sink room fails wants stays some whole =
      spoilt schedule g h before.upcoming place.d now.checkpointer from to had mid has log first disk before.under before.free place.there room k (subst (λ due. Spoils h k due from to (sunk mid has)) place.is (fails refl)) (omega arith)
  stops k Memory room fails wants stays some whole =
      let same = wants refl in
      let ended = at_memory schedule g h before.upcoming from (sunk had mid) room now.checkpointer log first disk before.under (omega arith) in
      subst (λ (state : Plain). HasEnded (end_of Memory) schedule g room to.records state (sunk had has) log first disk) (sym (stays refl))
      (subst (λ (t : TraceState). HasEnded (end_of Memory) schedule g room t.records h (sunk had has) log first disk) (sym same.0)
      (subst (λ taken. HasEnded (end_of Memory) schedule g room from.records h (sunk had taken) log first disk) (sym same.1) ended))

-- what a served request left, where the schedule is the checkpointer's
module _ (schedule : Schedule) (g h k : Plain) (rounds : Rounds) (checkpointer later : Checkpointer) (from to : TraceState) (sink : Sunk) (had mid has : Option (List ℕ)) (first disk next : SeenFolder)
    (serving : IsServing schedule g h rounds checkpointer from sink (sunk had mid) first disk) where
  same : checkpointer.schedule ≡ schedule
  same = serving.now.noted.scheduled

  own : IsServing checkpointer.schedule g h rounds checkpointer from sink (sunk had mid) first disk
  own = subst (λ s. IsServing s g h rounds checkpointer from sink (sunk had mid) first disk) (sym same) serving

  pub goes_on : (now : Start) → plain_of now.computation ≡ k → now.checkpointer ≡ later
      → ((upcoming : Upcoming) (before : IsUnderWay checkpointer.schedule g h upcoming checkpointer from sink (sunk had mid) first disk) → WaitsIfAsked checkpointer.schedule before.running.requests
      → (after : IsUnderWay checkpointer.schedule g k upcoming later to sink (sunk had has) first next) × IsSettled after.running.requests to)
      → IsGoing schedule g now rounds to sink (sunk had has) first next
  goes_on now state is serves =
      let done = serves own.upcoming own.now own.waits in
      let both = subst (λ (c : Checkpointer). (after : IsUnderWay checkpointer.schedule g k own.upcoming c to sink (sunk had has) first next) × IsSettled after.running.requests to) (sym is) done in
      let there = subst (λ (p : Plain). (after : IsUnderWay checkpointer.schedule g p own.upcoming now.checkpointer to sink (sunk had has) first next) × IsSettled after.running.requests to) (sym state) both in
      subst (λ s. IsGoing s g now rounds to sink (sunk had has) first next) same
      (record { upcoming = own.upcoming; under = there.0; settled = there.1; come = own.come (plain_of now.computation) })

  pub breaks_off : (stop : Stop) (room : ℕ) → length to.records ≤ room
      → ((upcoming : Upcoming) (before : IsUnderWay checkpointer.schedule g h upcoming checkpointer from sink (sunk had mid) first disk) → WaitsIfAsked checkpointer.schedule before.running.requests
      → IsBrokenOff checkpointer.schedule g k upcoming to sink (sunk had has) first next)
      → HasEnded (end_of stop) schedule g room to.records k sink (sunk had has) first next
  breaks_off stop room fits fails =
      subst (λ s. HasEnded (end_of stop) s g room to.records k sink (sunk had has) first next) same
      (at_break checkpointer.schedule g k own.upcoming to sink room stop (sunk had has) first next (fails own.upcoming own.now own.waits) fits)
