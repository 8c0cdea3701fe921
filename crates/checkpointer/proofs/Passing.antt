-- What comes between a request and its outcome but for the cut: arrivals before it, and its marks after it.
use Rattle.std.proofs.Common.{◌≡◌, ◌≢◌, ℕ, zero, suc, ◌+◌, ◌*◌, ◌-◌, ◌^◌, ◌<◌, ◌≤◌, Bool, true, false, cond, List, [], ◌∷◌, ◌++◌, length, take, drop, Option, Some, None, append_assoc, inl, inr, refl, sym, ap, subst, ◌∙◌, arith, append-nil}
use Rattle.std.specs.Prelude.{◌==◌, ◌⊎◌}
use Rattle.std.specs.List.{filter_map, cons_option}
use Rattle.std.specs.FinMap as map
use Rattle.std.proofs.lemmas.List.{take-append-drop, take_all, length-append, length-take, drop_all}
use Rattle.std.proofs.Math.Seq.{take-append_seam}
use Rattle.sys_abi.specs.declared.identity.Dir.{Dir}
use Rattle.sys_abi.specs.declared.record.Record.{Record}
use Rattle.sys_abi.specs.declared.record.Record.TheVariants.{Drained, Refilled, Complete}
use Rattle.edge_io.specs.Sink.{appended}
use Rattle.edge_io.specs.Sunk.{Sunk, sunk}
use Rattle.disk_folder.specs.SeenFolder.{SeenFolder}
use Rattle.plain_machine.specs.declared.plain.Plain.{Plain}
use Rattle.plain_machine.specs.Records.{outcome, quiet}
use Rattle.plain_tables.specs.declared.channel.Direction.{Direction}
use Rattle.trace_log.specs.declared.requests.Schedule.{Schedule}
use Rattle.trace_log.specs.declared.requests.Tally.{Tally}
use Rattle.trace_log.specs.declared.log_lines.Progress.{Progress}
use Rattle.trace_log.specs.Trace.{TraceState, with_record}
use Rattle.trace_log.specs.Requests.{Requests, Requested, AfterCut, CutAt, can_be_held, is_mark, left_in, next_requests, phase_after_mark, tally_after}
use Rattle.trace_log.specs.LogText.{line_of, after, after_all}
use Rattle.trace_log.specs.Turns.{Upcoming, coming}
use Rattle.checkpointer.specs.declared.checkpointer.Checkpointer.{Checkpointer}
use Rattle.checkpointer.specs.Keeping.{is_disk_fault}
use Rattle.checkpointer.specs.Marks.{mark_of, marks_of, with_marks}
use Rattle.checkpointer.specs.declared.marks.Pass.{Pass}
use Rattle.checkpointer.specs.declared.marks.Pass.TheVariants as pass
use Rattle.checkpointer.specs.Running.{IsNoted}
use Rattle.checkpointer.specs.UnderWay.{IsUnderWay}
use Rattle.checkpointer.proofs.Sinks.{took_nothing}
use Rattle.checkpointer.proofs.Walks.{arrival_of}
use Rattle.checkpointer.proofs.Running.{after_one_more, running_arrival, noted_arrival, same_phase}
use Rattle.checkpointer.proofs.Safety.{cut_grows, safe_quiet}
use Rattle.checkpointer.proofs.Checkpoints.{marked, pass_stands}
use Rattle.checkpointer.proofs.Served.{AtCut, not_complete}

-- bytes of a direction arrive while a request waits
pub arrived_meanwhile : (schedule : Schedule) (g h k : Plain) (upcoming : Upcoming) (checkpointer : Checkpointer) (from to : TraceState) (sink log : Sunk) (dir : Dir) (rest : List Dir) (first disk : SeenFolder)
    → (before : IsUnderWay schedule g h upcoming checkpointer from sink log first disk) → before.running.requests.phase ≡ Requested [] → can_be_held h ≡ true → coming h ≡ dir ∷ rest
    → outcome h (arrival_of h dir) ≡ Some (quiet k) → to ≡ with_record from (arrival_of h dir)
    → (after : IsUnderWay schedule g k upcoming checkpointer to sink log first disk) × (after.running.requests.phase ≡ Requested [])
arrived_meanwhile schedule g h k upcoming checkpointer from to sink log dir rest first disk before waits held comes makes traced =
    let r = arrival_of h dir in
    let requests = before.running.requests in
    let running = running_arrival schedule g h k upcoming from.records sink dir rest before.running waits held comes makes in
    let whole : IsUnderWay schedule g k upcoming checkpointer (with_record from r) sink log first disk = record {
      running = running.0;
      noted = subst (λ (q : Requests). IsNoted schedule q checkpointer (from.records ++ r ∷ []) log) (sym running.1) (noted_arrival schedule h dir _ requests checkpointer from.records log before.noted);
      safe = safe_quiet g from.records r first disk (not_complete r (λ generation e. cc)) refl before.safe;
    } in
    subst (λ (t : TraceState). (after : IsUnderWay schedule g k upcoming checkpointer t sink log first disk) × (after.running.requests.phase ≡ Requested [])) (sym traced)
    (whole, ap (λ (q : Requests). q.phase) running.1 ∙ same_phase schedule h requests dir _ ∙ waits)

-- the marks of a cut
pub data IsPass : Record → Type 0 where
  IsDrained : {dir : Dir} {n : ℕ} → IsPass (Drained dir n)
  IsRefilled : {dir : Dir} {n : ℕ} → IsPass (Refilled dir n)

abbrev pub ArePasses : List Record → Type 0
ArePasses [] = Unit {0}
ArePasses (r ∷ rs) = IsPass r × ArePasses rs

passes_front : (n : ℕ) (xs : List Record) → ArePasses xs → ArePasses (take n xs)
passes_front zero xs all = tt
passes_front (suc n) [] all = tt
passes_front (suc n) (x ∷ xs) all = (all.0, passes_front n xs all.1)

are_passes : (mark : Dir → ℕ → Record) → ((dir : Dir) (n : ℕ) → IsPass (mark dir n)) → (es : List (Dir × Direction)) → ArePasses (filter_map (left_in mark) es)
are_passes mark each [] = tt
are_passes mark each (e ∷ es) = by (length e.1.left == 0) (are_passes mark each es)
  where
    by : (b : Bool) → ArePasses (filter_map (left_in mark) es) → ArePasses (cons_option (cond b None (Some (mark e.0 (length e.1.left)))) (filter_map (left_in mark) es))
    by true rest = rest
    by false rest = (each e.0 (length e.1.left), rest)

pub is_pass : (passes : Pass) (dir : Dir) (n : ℕ) → IsPass (mark_of passes dir n)
is_pass pass.Drain dir n = IsDrained
is_pass pass.Refill dir n = IsRefilled

pub kind_passes : (passes : Pass) (g : Plain) → ArePasses (marks_of passes g)
kind_passes passes g = are_passes (mark_of passes) (is_pass passes) (map.entries g.kernel.directions)

-- one of them leaves the counts of requests and lines, and has no line
record Passes (schedule : Schedule) (g : Plain) (requests : Requests) (lines : Progress) (r : Record) (still : List Record) : Type 0 where
  phase : (next_requests schedule g requests r).phase ≡ AfterCut still
  tally : (next_requests schedule g requests r).tally ≡ requests.tally
  same : (tally : Tally) → tally_after tally r ≡ tally
  silent : line_of lines r ≡ []
  request : (after lines r).request ≡ lines.request
  marks : is_mark r ≡ true
  other : (generation : ℕ) → r ≢ Complete generation
  fine : is_disk_fault r ≡ false

passes : (schedule : Schedule) (g : Plain) (requests : Requests) (lines : Progress) {r : Record} (still : List Record) → IsPass r → requests.phase ≡ AfterCut (r ∷ still) → Passes schedule g requests lines r still
unfolding next_requests tally_after line_of after
passes schedule g requests lines still IsDrained cut =
    record { phase = ap phase_after_mark cut; tally = refl; same = λ tally. refl; silent = refl; request = refl; marks = refl; other = λ generation is. cc; fine = refl }
passes schedule g requests lines still IsRefilled cut =
    record { phase = ap phase_after_mark cut; tally = refl; same = λ tally. refl; silent = refl; request = refl; marks = refl; other = λ generation is. cc; fine = refl }

same_trace : (from : TraceState) → record { records = from.records ++ []; room = from.room - 0 } ≡ from
same_trace from =
    ap (λ xs. let t : TraceState = record { records = xs; room = from.room - 0 } in t) (append-nil from.records) ∙ ap (λ n. let t : TraceState = record { records = from.records; room = n } in t) (all_of from.room)
  where
    all_of : (n : ℕ) → n - 0 ≡ n
    all_of n = omega arith

module _ (schedule : Schedule) (g h : Plain) (upcoming : Upcoming) (sink : Sunk) (had has : Option (List ℕ)) (first disk : SeenFolder) (generation : ℕ) where
  passed_one : (checkpointer later : Checkpointer) (from to : TraceState) (r : Record) (still : List Record) → AtCut schedule g h upcoming checkpointer from sink (sunk had has) first disk generation (r ∷ still) → IsPass r
      → later.schedule ≡ checkpointer.schedule → later.lines ≡ after checkpointer.lines r → later.tally ≡ checkpointer.tally → to ≡ with_record from r
      → AtCut schedule g h upcoming later to sink (sunk had has) first disk generation still
  passed_one checkpointer later from to r still at pass scheduled lined tallied traced =
      let requests = at.now.running.requests in
      let own = passes schedule h requests checkpointer.lines still pass at.cut in
      let done = marked schedule g h upcoming checkpointer later from to sink had has has r first disk disk at.now own.marks (pass_stands h requests r still at.cut) traced
      scheduled lined (tallied ∙ sym (own.same checkpointer.tally)) (took_nothing has ∙ ap (appended has) (sym own.silent))
      (let same = ap (λ (l : Progress). l.request) lined ∙ own.request in omega arith) (λ none. absurd (let more = own.phase in cc))
      (safe_quiet g from.records r first disk (not_complete r own.other) own.fine at.now.safe) in
      record {
        now = done.0;
        cut = ap (λ (q : Requests). q.phase) done.1 ∙ own.phase;
        greatest = ap (λ (q : Requests). q.tally.greatest) done.1 ∙ ap (λ (t : Tally). t.greatest) own.tally ∙ at.greatest;
        at = subst (λ (t : TraceState). CutAt g t.records generation h) (sym traced) (cut_grows g h from.records r generation at.at);
      }

  pub passed : (checkpointer later : Checkpointer) (from to : TraceState) (ms still : List Record) → AtCut schedule g h upcoming checkpointer from sink (sunk had has) first disk generation (ms ++ still) → ArePasses ms
      → later ≡ record checkpointer { lines = after_all checkpointer.lines ms } → to ≡ record { records = from.records ++ ms; room = from.room - length ms }
      → AtCut schedule g h upcoming later to sink (sunk had has) first disk generation still
  passed checkpointer later from to [] still at all is traced =
      subst (λ (t : TraceState). AtCut schedule g h upcoming later t sink (sunk had has) first disk generation still) (sym (traced ∙ same_trace from))
      (subst (λ (k : Checkpointer). AtCut schedule g h upcoming k from sink (sunk had has) first disk generation still) (sym is) at)
  passed checkpointer later from to (m ∷ ms) still at all is traced =
      let next : Checkpointer = record checkpointer { lines = after checkpointer.lines m } in
      let one = passed_one checkpointer next from (with_record from m) m (ms ++ still) at all.0 refl refl refl refl in
      passed next later (with_record from m) to ms still one all.1 is
      (traced ∙ ap (λ xs. let t : TraceState = record { records = xs; room = from.room - suc (length ms) } in t) (sym (append_assoc from.records (m ∷ []) ms))
      ∙ ap (λ n. let t : TraceState = record { records = (from.records ++ m ∷ []) ++ ms; room = n } in t) (less from.room (length ms)))
    where
      less : (a b : ℕ) → a - suc b ≡ a - 1 - b
      less a b = omega arith

  -- those of one kind, as far as the trace has room, before the rest of them
  pub front_passed : (checkpointer later : Checkpointer) (from to : TraceState) (marks rest : List Record) → AtCut schedule g h upcoming checkpointer from sink (sunk had has) first disk generation (marks ++ rest) → ArePasses marks
      → later ≡ record checkpointer { lines = after_all checkpointer.lines (take from.room marks) } → to ≡ with_marks from marks
      → AtCut schedule g h upcoming later to sink (sunk had has) first disk generation (drop from.room marks ++ rest)
  front_passed checkpointer later from to marks rest at all is traced =
      passed checkpointer later from to (take from.room marks) (drop from.room marks ++ rest)
      (subst (λ (ms : List Record). AtCut schedule g h upcoming checkpointer from sink (sunk had has) first disk generation ms) whole at)
      (passes_front from.room marks all) is (traced ∙ ap (λ n. let t : TraceState = record { records = from.records ++ take from.room marks; room = n } in t) left)
    where
      whole : marks ++ rest ≡ take from.room marks ++ (drop from.room marks ++ rest)
      whole = ap (λ xs. xs ++ rest) (sym (take-append-drop from.room marks)) ∙ append_assoc (take from.room marks) (drop from.room marks) rest

      left : from.room - length marks ≡ from.room - length (take from.room marks)
      left = let short = length-take from.room marks in omega arith

-- where there is room left all of them came
pub none_left : (from to : TraceState) (marks : List Record) → to ≡ with_marks from marks → 0 < to.room → drop from.room marks ≡ []
none_left from to marks traced some = drop_all from.room marks (let room = ap (λ (t : TraceState). t.room) traced in omega arith)

-- what a trace has and its room together stay
pub record_size : (from to : TraceState) (r : Record) → 0 < from.room → to ≡ with_record from r → (length to.records + to.room ≡ length from.records + from.room) × (to.room ≤ from.room)
record_size from to r some traced =
    let room = ap (λ (t : TraceState). t.room) traced in
    let records = ap (λ (t : TraceState). length t.records) traced ∙ length-append from.records (r ∷ []) in
    (omega arith, omega arith)

pub marks_size : (from to : TraceState) (marks : List Record) → to ≡ with_marks from marks → (length to.records + to.room ≡ length from.records + from.room) × (to.room ≤ from.room)
marks_size from to marks traced =
    let room = ap (λ (t : TraceState). t.room) traced in
    let records = ap (λ (t : TraceState). length t.records) traced ∙ length-append from.records (take from.room marks) in
    let short = length-take from.room marks in
    (omega arith, omega arith)

pub both_size : (from to : TraceState) (r : Record) (marks : List Record) → 0 < from.room → to ≡ with_marks (with_record from r) marks → (length to.records + to.room ≡ length from.records + from.room) × (to.room ≤ from.room)
both_size from to r marks some traced =
    let one = record_size from (with_record from r) r some refl in
    let more = marks_size (with_record from r) to marks traced in
    let size = one.0 in let less = one.1 in let less_again = more.1 in
    (more.0 ∙ size, omega arith)

-- they leave the number of the request
no_count : (tally : Tally) {m : Record} → IsPass m → tally_after tally m ≡ tally
unfolding tally_after
no_count tally IsDrained = refl
no_count tally IsRefilled = refl

one_count : (lines : Progress) {m : Record} → IsPass m → (after lines m).request ≡ lines.request
unfolding after
one_count lines IsDrained = refl
one_count lines IsRefilled = refl

passes_count : (lines : Progress) (ms : List Record) → ArePasses ms → (after_all lines ms).request ≡ lines.request
passes_count lines [] all = refl
passes_count lines (m ∷ ms) all = passes_count (after lines m) ms all.1 ∙ one_count lines all.0

pub front_counts : (lines : Progress) (n : ℕ) (marks : List Record) → ArePasses marks → (after_all lines (take n marks)).request ≡ lines.request
front_counts lines n marks all = passes_count lines (take n marks) (passes_front n marks all)

-- these marks came so far, and those are left
pub record AreSoFar (k now : Checkpointer) (from to : TraceState) (marks left : List Record) : Type 0 where
  pub done : List Record
  pub whole : marks ≡ done ++ left
  pub fits : length done ≤ from.room
  pub trace : to ≡ record { records = from.records ++ done; room = from.room - length done }
  pub checkpointer : now ≡ record k { lines = after_all k.lines done }
  pub request : now.lines.request ≡ k.lines.request
  pub drained : now.lines.drained + to.room * 2 ^ 32 ≤ k.lines.drained + from.room * 2 ^ 32

pub so_far_none : (k : Checkpointer) (from : TraceState) (marks : List Record) → AreSoFar k k from from marks marks
so_far_none k from marks = record {
  done = [];
  whole = refl;
  fits = omega arith;
  trace = sym (same_trace from);
  checkpointer = refl;
  request = refl;
  drained = omega arith;
}

-- one more mark, where there is room
pub so_far_more : (k now next : Checkpointer) (from to later : TraceState) (marks left : List Record) (m : Record) → AreSoFar k now from to marks (m ∷ left) → IsPass m → 0 < to.room
    → next ≡ record now { tally = tally_after now.tally m; lines = after now.lines m } → later ≡ with_record to m → (after now.lines m).drained ≤ now.lines.drained + 2 ^ 32 → AreSoFar k next from later marks left
so_far_more k now next from to later marks left m so pass some is traced more =
    let room = ap (λ (t : TraceState). t.room) so.trace in
    let records = ap (λ (t : TraceState). t.records) so.trace in
    let fits = so.fits in
    let few = so.drained in
    let size = length-append so.done (m ∷ []) in
    let next_room = ap (λ (t : TraceState). t.room) traced in
    let next_drained = ap (λ (x : Checkpointer). x.lines.drained) is in
    record {
      done = so.done ++ m ∷ [];
      whole = so.whole ∙ sym (append_assoc so.done (m ∷ []) left);
      fits = omega arith;
      trace = traced ∙ ap (λ xs. let t : TraceState = record { records = xs ++ m ∷ []; room = to.room - 1 } in t) records
          ∙ ap (λ xs. let t : TraceState = record { records = xs; room = to.room - 1 } in t) (append_assoc from.records so.done (m ∷ []))
          ∙ ap (λ n. let t : TraceState = record { records = from.records ++ (so.done ++ m ∷ []); room = n } in t) (omega arith);
      checkpointer = is ∙ ap (λ (t : Tally). let x : Checkpointer = record now { tally = t; lines = after now.lines m } in x) (no_count now.tally pass)
          ∙ ap (λ (x : Checkpointer). let y : Checkpointer = record x { lines = after x.lines m } in y) so.checkpointer
          ∙ ap (λ (l : Progress). let x : Checkpointer = record k { lines = l } in x) (sym (after_one_more k.lines so.done m));
      request = ap (λ (x : Checkpointer). x.lines.request) is ∙ one_count now.lines pass ∙ so.request;
      drained = omega arith;
    }

-- as many as there is room for
pub so_far_all : (k now : Checkpointer) (from to : TraceState) (marks left : List Record) → AreSoFar k now from to marks left → (left ≡ []) ⊎ (to.room ≡ 0)
    → (now ≡ record k { lines = after_all k.lines (take from.room marks) }) × (to ≡ with_marks from marks)
so_far_all k now from to marks left so (inl none) =
    let all : marks ≡ so.done = so.whole ∙ ap (λ xs. so.done ++ xs) none ∙ append-nil so.done in
    let front : take from.room marks ≡ so.done = ap (take from.room) all ∙ take_all from.room so.done so.fits in (
      so.checkpointer ∙ ap (λ xs. let x : Checkpointer = record k { lines = after_all k.lines xs } in x) (sym front),
      so.trace ∙ ap (λ xs. let t : TraceState = record { records = from.records ++ xs; room = from.room - length so.done } in t) (sym front)
          ∙ ap (λ xs. let t : TraceState = record { records = from.records ++ take from.room marks; room = from.room - length xs } in t) (sym all),
    )
so_far_all k now from to marks left so (inr full) =
    let room = ap (λ (t : TraceState). t.room) so.trace in
    let fits = so.fits in
    let size : length so.done ≡ from.room = omega arith in
    let count = ap length so.whole ∙ length-append so.done left in
    let front : take from.room marks ≡ so.done = ap (λ n. take n marks) (sym size) ∙ ap (take (length so.done)) so.whole ∙ take-append_seam so.done left in (
      so.checkpointer ∙ ap (λ xs. let x : Checkpointer = record k { lines = after_all k.lines xs } in x) (sym front),
      so.trace ∙ ap (λ xs. let t : TraceState = record { records = from.records ++ xs; room = from.room - length so.done } in t) (sym front)
          ∙ ap (λ n. let t : TraceState = record { records = from.records ++ take from.room marks; room = n } in t) (omega arith),
    )

one_left : (mark : Dir → ℕ → Record) (e : Dir × Direction) (es : List (Dir × Direction)) → (length e.1.left == 0) ≡ false → filter_map (left_in mark) (e ∷ es) ≡ mark e.0 (length e.1.left) ∷ filter_map (left_in mark) es
one_left mark e es some = ap (λ b. cons_option (cond b None (Some (mark e.0 (length e.1.left)))) (filter_map (left_in mark) es)) some

-- the mark of the direction that comes next
pub so_far_next : (k now next : Checkpointer) (from to later : TraceState) (marks : List Record) (passes : Pass) (e : Dir × Direction) (es left : List (Dir × Direction)) (r : Record)
    → AreSoFar k now from to marks (filter_map (left_in (mark_of passes)) left) → left ≡ e ∷ es → (length e.1.left == 0) ≡ false → r ≡ mark_of passes e.0 (length e.1.left) → 0 < to.room
    → next ≡ record now { tally = tally_after now.tally r; lines = after now.lines r } → later ≡ with_record to r → next.lines.drained ≤ now.lines.drained + 2 ^ 32
    → AreSoFar k next from later marks (filter_map (left_in (mark_of passes)) es)
so_far_next k now next from to later marks passes e es left r so steps some same room is traced more =
    let m = mark_of passes e.0 (length e.1.left) in
    let whole : AreSoFar k now from to marks (m ∷ filter_map (left_in (mark_of passes)) es) =
    subst (AreSoFar k now from to marks) (ap (filter_map (left_in (mark_of passes))) steps ∙ one_left (mark_of passes) e es some) so in
    so_far_more k now next from to later marks (filter_map (left_in (mark_of passes)) es) m whole (is_pass passes e.0 (length e.1.left)) room
    (is ∙ ap (λ (x : Record). let y : Checkpointer = record now { tally = tally_after now.tally x; lines = after now.lines x } in y) same) (traced ∙ ap (with_record to) same)
    (let a = ap (λ (x : Checkpointer). x.lines.drained) is in let b = ap (λ (x : Record). (after now.lines x).drained) same in omega arith)
