-- What the loop knows before it makes a record.
--     ended_if, goes_on_if    whether somebody lives
--     none_left        where nothing is due a new round has nothing either
--     free_of          while the trace has room no request is open
--     chosen_so        the record that was chosen is due
--     is_few           how much the checkpointer has counted
use Rattle.std.proofs.Common.{◌≡◌, ◌<◌, ◌≤◌, Bool, true, false, not, length, Option, Some, None, inl, inr, refl, sym, ap, ◌∙◌, arith}
use Rattle.std.proofs.lemmas.List.Sums.{count_by-le-length}
use Rattle.views.proofs.MapLaws.{true_false}
use Rattle.sys_abi.specs.declared.record.Record.{Record}
use Rattle.sys_abi.specs.declared.record.Record.TheVariants.{User, Call, Deliver}
use Rattle.disk_folder.specs.SeenFolder.{SeenFolder}
use Rattle.plain_machine.specs.declared.plain.Plain.{Plain}
use Rattle.plain_machine.specs.Tests.{is_work}
use Rattle.trace_log.specs.declared.requests.Schedule.{Schedule}
use Rattle.trace_log.specs.declared.requests.Tally.{Tally}
use Rattle.trace_log.specs.Trace.{TraceState}
use Rattle.trace_log.specs.Requests.{Requests, IsAnswered}
use Rattle.trace_log.proofs.RequestCounts.{counts_work}
use Rattle.trace_log.specs.Turns.{Upcoming, due_at, new_round}
use Rattle.drive.specs.HandedOn.{Did, IsDid, plain_of}
use Rattle.drive.specs.DidVariants.{Delivered, Served, Ran}
use Rattle.edge_io.specs.Sunk.{Sunk}
use Rattle.drive.specs.declared.rounds.Chosen.{Chosen}
use Rattle.drive.specs.declared.rounds.Come.{Come}
use Rattle.drive.specs.declared.rounds.Come.TheVariants as has_come
use Rattle.drive.specs.declared.rounds.Rounds.{Rounds}
use Rattle.drive.specs.Scheduling.{IsCome, IsComeSo, chosen, place_in}
use Rattle.checkpointer.specs.UnderWay.{IsSettled}
use Rattle.drive.specs.declared.start.Start.{Start}
use Rattle.drive.specs.Going.{IsGoing, IsChosen}
use Rattle.drive.proofs.Standstill.{none_after}

pub ended_if : (over : Bool) → not over ≡ false → over ≡ true
ended_if true is = refl
ended_if false is = true_false is

pub goes_on_if : (over : Bool) → not over ≡ true → over ≡ false
goes_on_if true is = sym is
goes_on_if false is = refl

did_work : (did : Did) (r : Record) → IsDid did r → is_work r ≡ true
did_work (Ran place) (User p t n) is = refl
did_work (Ran place) _ is = absurd is
did_work Served (Call p t) is = refl
did_work Served _ is = absurd is
did_work Delivered (Deliver p t s) is = refl
did_work Delivered _ is = absurd is

pub none_left : (rounds : Rounds) (g : Plain) (upcoming : Upcoming) → IsCome rounds g upcoming → None ≡ due_at g upcoming → new_round g ≡ None
unfolding IsComeSo
none_left rounds g upcoming come none = by rounds.come come
  where
    by : (c : Come) → IsComeSo c rounds g upcoming → new_round g ≡ None
    by has_come.NewRound is = ap (due_at g) (sym is) ∙ sym none
    by has_come.Arrived (dir, (r, is)) = ap (due_at g) (sym is) ∙ sym none
    by (has_come.Worked turn did) (r, (was, is)) = none_after g (place_in rounds turn) r (did_work did r was) (ap (due_at g) (sym is) ∙ sym none)

free_of : (requests : Requests) (trace : TraceState) → IsSettled requests trace → 0 < trace.room → IsAnswered requests
free_of requests trace (inl free) some = free
free_of requests trace (inr none) some = absurd (omega arith)

module _ (schedule : Schedule) (g : Plain) (now : Start) (rounds : Rounds) (trace : TraceState) (sink log : Sunk) (first disk : SeenFolder)
    (going : IsGoing schedule g now rounds trace sink log first disk) where
  pub is_free : 0 < trace.room → IsAnswered going.under.running.requests
  is_free some = free_of going.under.running.requests trace going.settled some

  pub chosen_so : (after : Rounds) (result : Option Chosen) (choice : Chosen) → 0 < trace.room → result ≡ Some choice → chosen after (plain_of now.computation) result ≡ due_at (plain_of now.computation) going.upcoming
      → IsChosen schedule g now after choice trace sink log first disk
  chosen_so after result choice some is due = record {
    upcoming = going.upcoming;
    under = going.under;
    free = is_free some;
    due = sym due ∙ ap (chosen after (plain_of now.computation)) is;
  }

  pub work_is_few : now.checkpointer.tally.work ≤ length trace.records
  work_is_few =
      let counted = counts_work schedule g (plain_of now.computation) going.under.running.requests trace.records going.under.running.reaches in
      let same = ap (λ (t : Tally). t.work) going.under.noted.tallied in
      let most = count_by-le-length is_work trace.records in
      omega arith
