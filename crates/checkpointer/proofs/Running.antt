-- A run on its way: one more record that is due, and what the checkpointer knows after it.
use Rattle.std.proofs.Common.{◌≡◌, ℕ, suc, ◌≤◌, true, false, List, [], ◌∷◌, ◌++◌, take, Option, Some, refl, sym, ap, subst, ◌∙◌, arith, append-nil}
use Rattle.std.specs.Option.{option_map}
use Rattle.std.proofs.lemmas.List.{length-append}
use Rattle.sys_abi.specs.declared.identity.Dir.{Dir}
use Rattle.sys_abi.specs.declared.record.Record.{Record}
use Rattle.sys_abi.specs.declared.record.Record.TheVariants.{User, Call, Deliver, Arrive, Cut, Drained, Refilled, Complete, Refused, Lapsed}
use Rattle.edge_io.specs.Sink.{appended}
use Rattle.edge_io.specs.Sunk.{Sunk, sunk, Took, TookFront}
use Rattle.trace_log.specs.declared.requests.Schedule.{Schedule}
use Rattle.trace_log.specs.declared.requests.Tally.{Tally}
use Rattle.trace_log.specs.declared.log_lines.Progress.{Progress}
use Rattle.trace_log.specs.Requests.{Requests, Requested, RunsTo, LeadsTo, MayStand, MayStandIn, NoRequest, can_be_held, is_mark, is_outcome, first_requests, next_requests, tally_after, one_more_work}
use Rattle.trace_log.specs.LogText.{at_start as log_start, after, after_all, line_of, log_text}
use Rattle.trace_log.proofs.RequestFronts.{goes_on_by_one, runs}
use Rattle.trace_log.proofs.LogLines.{log_grows}
use Rattle.trace_log.specs.Turns.{Upcoming, NewRound, coming}
use Rattle.views.proofs.MapLaws.{true_false}
use Rattle.plain_machine.specs.declared.plain.Plain.{Plain}
use Rattle.plain_machine.specs.Records.{Outcome, outcome, step, quiet}
use Rattle.plain_machine.specs.Runs.{run, console, console_from}
use Rattle.plain_machine.specs.Tests.{is_work}
use Rattle.plain_machine.proofs.RunLaws.{console_of_one_more}
use Rattle.checkpointer.specs.declared.checkpointer.Checkpointer.{Checkpointer}
use Rattle.checkpointer.specs.Rounds.{Standing, is_due, moved, first_standing, each_is_due}
use Rattle.checkpointer.specs.Running.{walk, IsRunning, IsNoted}
use Rattle.checkpointer.specs.Pace.{CutLines}
use Rattle.checkpointer.proofs.Sinks.{took_nothing, took_both}
use Rattle.checkpointer.proofs.Walks.{arrival_of, arrival_is_due, arrival_stays, pushed, mark_is_due, mark_stays}

pub work_no_mark : (r : Record) → is_work r ≡ true → is_mark r ≡ false
work_no_mark (User p t n) work = refl
work_no_mark (Call p t) work = refl
work_no_mark (Deliver p t s) work = refl
work_no_mark (Arrive dir n) work = refl
work_no_mark (Cut generation) work = true_false (sym work)
work_no_mark (Drained dir n) work = true_false (sym work)
work_no_mark (Refilled dir n) work = true_false (sym work)
work_no_mark (Complete generation) work = true_false (sym work)
work_no_mark (Refused cause) work = true_false (sym work)
work_no_mark Lapsed work = true_false (sym work)

-- a record of work is counted, has no line on the log, and may stand where no request is open
pub work_counts : (r : Record) (tally : Tally) → is_work r ≡ true → tally_after tally r ≡ one_more_work tally
unfolding tally_after
work_counts (User p t n) tally work = refl
work_counts (Call p t) tally work = refl
work_counts (Deliver p t s) tally work = refl
work_counts (Arrive dir n) tally work = true_false (sym work)
work_counts (Cut generation) tally work = true_false (sym work)
work_counts (Drained dir n) tally work = true_false (sym work)
work_counts (Refilled dir n) tally work = true_false (sym work)
work_counts (Complete generation) tally work = true_false (sym work)
work_counts (Refused cause) tally work = true_false (sym work)
work_counts Lapsed tally work = true_false (sym work)

pub no_line : (lines : Progress) (r : Record) → is_mark r ≡ false → line_of lines r ≡ []
unfolding line_of
no_line lines (User p t n) marks = refl
no_line lines (Call p t) marks = refl
no_line lines (Deliver p t s) marks = refl
no_line lines (Arrive dir n) marks = refl
no_line lines (Cut generation) marks = refl
no_line lines (Drained dir n) marks = refl
no_line lines (Refilled dir n) marks = refl
no_line lines (Complete generation) marks = absurd (cc)
no_line lines (Refused cause) marks = absurd (cc)
no_line lines Lapsed marks = absurd (cc)

pub no_progress : (lines : Progress) (r : Record) → is_mark r ≡ false → after lines r ≡ lines
unfolding after
no_progress lines (User p t n) marks = refl
no_progress lines (Call p t) marks = refl
no_progress lines (Deliver p t s) marks = refl
no_progress lines (Arrive dir n) marks = refl
no_progress lines (Cut generation) marks = absurd (cc)
no_progress lines (Drained dir n) marks = absurd (cc)
no_progress lines (Refilled dir n) marks = absurd (cc)
no_progress lines (Complete generation) marks = absurd (cc)
no_progress lines (Refused cause) marks = absurd (cc)
no_progress lines Lapsed marks = absurd (cc)

pub after_one_more : (lines : Progress) (records : List Record) (r : Record) → after_all lines (records ++ r ∷ []) ≡ after (after_all lines records) r
after_one_more lines [] r = refl
after_one_more lines (x ∷ rest) r = after_one_more (after lines x) rest r

-- an arrival is not counted, and asks for nothing
no_tally : (dir : Dir) (n : ℕ) (tally : Tally) → tally ≡ tally_after tally (Arrive dir n)
unfolding tally_after
no_tally dir n tally = refl

pub same_phase : (schedule : Schedule) (g : Plain) (requests : Requests) (dir : Dir) (n : ℕ) → (next_requests schedule g requests (Arrive dir n)).phase ≡ requests.phase
unfolding next_requests
same_phase schedule g requests dir n = refl

pub same_tally : (schedule : Schedule) (g : Plain) (requests : Requests) (dir : Dir) (n : ℕ) → (next_requests schedule g requests (Arrive dir n)).tally ≡ requests.tally
unfolding next_requests
same_tally schedule g requests dir n = sym (no_tally dir n requests.tally)

arrival_stands : (g : Plain) (requests : Requests) (dir : Dir) → requests.phase ≡ Requested [] → MayStand g requests (arrival_of g dir)
unfolding MayStand
arrival_stands g requests dir waits = subst (λ phase. MayStandIn phase g requests.tally (arrival_of g dir)) (sym waits) tt

pub free_stands : (g : Plain) (requests : Requests) (r : Record) → requests.phase ≡ NoRequest → is_mark r ≡ false → MayStand g requests r
unfolding MayStand
free_stands g requests r free marks = subst (λ phase. MayStandIn phase g requests.tally r) (sym free) marks

-- a mark changes nothing and writes nothing
pub mark_is_quiet : (g : Plain) (r : Record) → is_mark r ≡ true → outcome g r ≡ Some (quiet g)
unfolding outcome
mark_is_quiet g (User p t n) marks = absurd (cc)
mark_is_quiet g (Call p t) marks = absurd (cc)
mark_is_quiet g (Deliver p t s) marks = absurd (cc)
mark_is_quiet g (Arrive dir n) marks = absurd (cc)
mark_is_quiet g (Cut generation) marks = refl
mark_is_quiet g (Drained dir n) marks = refl
mark_is_quiet g (Refilled dir n) marks = refl
mark_is_quiet g (Complete generation) marks = refl
mark_is_quiet g (Refused cause) marks = refl
mark_is_quiet g Lapsed marks = refl

abbrev pub standing_of : Upcoming → Requests → Standing
standing_of upcoming requests = record { upcoming = upcoming; requests = requests }

unfoldable pub running_start : (schedule : Schedule) (h : Plain) (taken : Option (List ℕ)) → IsRunning schedule h h NewRound [] (sunk taken taken)
unfolding console each_is_due walk LeadsTo
running_start schedule h taken = record {
  requests = first_requests schedule;
  reaches = (refl, refl);
  order = refl;
  walked = refl;
  shown = took_nothing taken;
}

-- what one record writes
pub console_of_one : (h : Plain) (r : Record) (o : Outcome) → outcome h r ≡ Some o → console h (r ∷ []) ≡ o.console
unfolding console
console_of_one h r o goes = ap (console_from (λ next. [])) goes ∙ append-nil o.console

pub steps_of : (schedule : Schedule) (g : Plain) (h : Plain) (upcoming : Upcoming) (records : List Record) (sink : Sunk) (running : IsRunning schedule g h upcoming records sink) → run g records ≡ Some h
steps_of schedule g h upcoming records sink running = runs schedule g h (first_requests schedule) running.requests records running.reaches

-- one more record that leads to a state, due where it comes
pub one_more : (schedule : Schedule) (g next : Plain) (h : Plain) (upcoming : Upcoming) (records : List Record) (sink : Sunk) (r : Record) (running : IsRunning schedule g h upcoming records sink) → MayStand h running.requests r → step h r ≡ Some next → RunsTo schedule g (records ++ r ∷ []) next (next_requests schedule h running.requests r)
one_more schedule g next h upcoming records sink r running may goes = goes_on_by_one schedule g h next running.requests records r running.reaches may goes

-- one more record of any kind, which moves the rounds there
pub runs_on : (schedule : Schedule) (g h k : Plain) (upcoming later : Upcoming) (records : List Record) (had mid has : Option (List ℕ)) (r : Record) (bytes : List ℕ) (running : IsRunning schedule g h upcoming records (sunk had mid))
    → is_due h (standing_of upcoming running.requests) r ≡ true → MayStand h running.requests r → outcome h r ≡ Some (record { state = k; console = bytes }) → Took (sunk mid has) bytes → moved h (standing_of upcoming running.requests) r ≡ later
    → (after : IsRunning schedule g k later (records ++ r ∷ []) (sunk had has)) × (after.requests ≡ next_requests schedule h running.requests r)
runs_on schedule g h k upcoming later records had mid has r bytes running due may makes took moves =
    let o : Outcome = record { state = k; console = bytes } in
    let goes : step h r ≡ Some k = ap (option_map (λ x. x.state)) makes in
    let steps = steps_of schedule g h upcoming records (sunk had mid) running in
    let at : Standing = standing_of upcoming running.requests in
    let pushed_one = pushed schedule g h k (first_standing schedule) at records r steps running.walked running.order due goes in
    let requests = next_requests schedule h running.requests r in
    let shows : Took (sunk had has) (console g (records ++ r ∷ [])) =
    took_both had mid has (console g records) bytes running.shown took ∙ ap (appended had) (sym (console_of_one_more g h records r o steps makes)) in
    let whole : IsRunning schedule g k later (records ++ r ∷ []) (sunk had has) = record {
      requests = requests;
      reaches = one_more schedule g k h upcoming records (sunk had mid) r running may goes;
      order = pushed_one.order;
      walked = pushed_one.ends ∙ ap (λ (place : Upcoming). Some (standing_of place requests)) moves;
      shown = shows;
    } in
    (whole, refl)

-- one more record that writes nothing
runs_on_quietly : (schedule : Schedule) (g h k : Plain) (upcoming : Upcoming) (records : List Record) (sink : Sunk) (r : Record) (running : IsRunning schedule g h upcoming records sink)
    → is_due h (standing_of upcoming running.requests) r ≡ true → MayStand h running.requests r → outcome h r ≡ Some (quiet k) → moved h (standing_of upcoming running.requests) r ≡ upcoming
    → (after : IsRunning schedule g k upcoming (records ++ r ∷ []) sink) × (after.requests ≡ next_requests schedule h running.requests r)
runs_on_quietly schedule g h k upcoming records sink r running due may makes stays =
    runs_on schedule g h k upcoming upcoming records sink.before sink.after sink.after r [] running due may makes (took_nothing sink.after) stays

pub running_mark : (schedule : Schedule) (g : Plain) (h : Plain) (upcoming : Upcoming) (records : List Record) (sink : Sunk) (r : Record) (running : IsRunning schedule g h upcoming records sink) → is_mark r ≡ true → MayStand h running.requests r
    → (after : IsRunning schedule g h upcoming (records ++ r ∷ []) sink) × (after.requests ≡ next_requests schedule h running.requests r)
running_mark schedule g h upcoming records sink r running marks may =
    let at : Standing = standing_of upcoming running.requests in
    runs_on_quietly schedule g h h upcoming records sink r running (mark_is_due h at r marks) may (mark_is_quiet h r marks) (mark_stays h at r marks)

-- the bytes of a direction arrive while a request waits
pub running_arrival : (schedule : Schedule) (g h k : Plain) (upcoming : Upcoming) (records : List Record) (sink : Sunk) (dir : Dir) (rest : List Dir) (running : IsRunning schedule g h upcoming records sink)
    → running.requests.phase ≡ Requested [] → can_be_held h ≡ true → coming h ≡ dir ∷ rest → outcome h (arrival_of h dir) ≡ Some (quiet k)
    → (after : IsRunning schedule g k upcoming (records ++ arrival_of h dir ∷ []) sink) × (after.requests ≡ next_requests schedule h running.requests (arrival_of h dir))
running_arrival schedule g h k upcoming records sink dir rest running waits held comes makes =
    let at : Standing = standing_of upcoming running.requests in
    runs_on_quietly schedule g h k upcoming records sink (arrival_of h dir) running (arrival_is_due h at dir rest waits held comes) (arrival_stands h running.requests dir waits) makes (arrival_stays h at dir waits)

-- the log has no line of a record that is no mark
pub noted_on : (schedule : Schedule) (g : Plain) (r : Record) (requests : Requests) (checkpointer later : Checkpointer) (records : List Record) (log : Sunk) → IsNoted schedule requests checkpointer records log → is_mark r ≡ false
    → later.schedule ≡ checkpointer.schedule → later.lines ≡ checkpointer.lines → later.tally ≡ tally_after checkpointer.tally r → ((next_requests schedule g requests r).phase ≡ NoRequest → requests.phase ≡ NoRequest)
    → IsNoted schedule (next_requests schedule g requests r) later (records ++ r ∷ []) log
unfolding next_requests
noted_on schedule g r requests checkpointer later records log noted plain scheduled lined tallied free = record {
  scheduled = scheduled ∙ noted.scheduled;
  tallied = tallied ∙ ap (λ (t : Tally). tally_after t r) noted.tallied;
  lined = lined ∙ noted.lined ∙ sym (after_one_more log_start records r ∙ no_progress (after_all log_start records) r plain);
  logged = noted.logged ∙ ap (appended log.before) (sym (log_grows records r ∙ ap (λ line. log_text records ++ line) (no_line (after_all log_start records) r plain) ∙ append-nil (log_text records)));
  few = let before = noted.few in let same = ap (λ (l : Progress). l.request) lined in omega (arith, length-append records (r ∷ []));
  dry = λ none. ap (λ (l : Progress). l.drained) lined ∙ noted.dry (free none);
}

pub noted_work : (schedule : Schedule) (g : Plain) (r : Record) (requests : Requests) (checkpointer later : Checkpointer) (records : List Record) (log : Sunk) → IsNoted schedule requests checkpointer records log → requests.phase ≡ NoRequest → is_work r ≡ true → later.schedule ≡ checkpointer.schedule → later.lines ≡ checkpointer.lines → later.tally ≡ one_more_work checkpointer.tally → IsNoted schedule (next_requests schedule g requests r) later (records ++ r ∷ []) log
noted_work schedule g r requests checkpointer later records log noted free work scheduled lined tallied =
    noted_on schedule g r requests checkpointer later records log noted (work_no_mark r work) scheduled lined (tallied ∙ sym (work_counts r checkpointer.tally work)) (λ _. free)

pub noted_arrival : (schedule : Schedule) (g : Plain) (dir : Dir) (n : ℕ) (requests : Requests) (checkpointer : Checkpointer) (records : List Record) (log : Sunk) → IsNoted schedule requests checkpointer records log → IsNoted schedule (next_requests schedule g requests (Arrive dir n)) checkpointer (records ++ Arrive dir n ∷ []) log
noted_arrival schedule g dir n requests checkpointer records log noted =
    noted_on schedule g (Arrive dir n) requests checkpointer checkpointer records log noted refl refl refl (no_tally dir n checkpointer.tally) (λ none. sym (same_phase schedule g requests dir n) ∙ none)

-- a mark with its line
pub noted_mark : (schedule : Schedule) (g : Plain) (r : Record) (requests : Requests) (checkpointer later : Checkpointer) (records : List Record) (had mid has : Option (List ℕ)) → IsNoted schedule requests checkpointer records (sunk had mid) → later.schedule ≡ checkpointer.schedule → later.lines ≡ after checkpointer.lines r → later.tally ≡ tally_after checkpointer.tally r → Took (sunk mid has) (line_of checkpointer.lines r) → later.lines.request ≤ suc checkpointer.lines.request → ((next_requests schedule g requests r).phase ≡ NoRequest → later.lines.drained ≡ 0) → IsNoted schedule (next_requests schedule g requests r) later (records ++ r ∷ []) (sunk had has)
unfolding next_requests
noted_mark schedule g r requests checkpointer later records had mid has noted scheduled lined tallied took few dry = record {
  scheduled = scheduled ∙ noted.scheduled;
  tallied = tallied ∙ ap (λ (t : Tally). tally_after t r) noted.tallied;
  lined = lined ∙ ap (λ (l : Progress). after l r) noted.lined ∙ sym (after_one_more log_start records r);
  logged = took_both had mid has (log_text records) (line_of checkpointer.lines r) noted.logged took ∙ ap (appended had) (ap (λ (l : Progress). log_text records ++ line_of l r) noted.lined ∙ sym (log_grows records r));
  few = let before = noted.few in omega (arith, length-append records (r ∷ []));
  dry = dry;
}

-- an outcome with a first part of its line
pub part_noted : (requests : Requests) (checkpointer : Checkpointer) (schedule : Schedule) (r : Record) (records : List Record) (had mid has : Option (List ℕ)) → IsNoted schedule requests checkpointer records (sunk had mid) → is_outcome r ≡ true → TookFront (sunk mid has) (line_of checkpointer.lines r)
    → (lines : List ℕ) × (CutLines (records ++ r ∷ []) lines × Took (sunk had has) lines)
part_noted requests checkpointer schedule r records had mid has noted outcome front =
    let line = line_of (after_all log_start records) r in
    let same : line_of checkpointer.lines r ≡ line = ap (λ (l : Progress). line_of l r) noted.lined in (
      log_text records ++ take front.0 line,
      (
        record { front = records; last = r; whole = refl; outcome = outcome; count = front.0; text = refl },
        took_both had mid has (log_text records) (take front.0 line) noted.logged (front.1 ∙ ap (λ l. appended mid (take front.0 l)) same),
      ),
    )
