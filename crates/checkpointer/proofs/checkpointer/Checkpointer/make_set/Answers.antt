use Rattle.std.proofs.Common.{◌≡◌, ℕ, suc, ◌-◌, ◌^◌, ◌<◌, [], List, Option, Err, refl, sym, ap, subst, ◌∙◌}
use Rattle.std.specs.Prelude.{OnOk, OnErr}
use Rattle.sys_abi.specs.declared.record.Record.TheVariants.{Refused}
use Rattle.sys_abi.specs.declared.record.Cause.{Cause}
use Rattle.plain_machine.specs.declared.plain.Plain.{Plain}
use Rattle.trace_log.specs.declared.requests.Schedule.{Schedule}
use Rattle.trace_log.specs.declared.requests.Tally.{Tally}
use Rattle.trace_log.specs.Requests.{Requested, tally_after}
use Rattle.trace_log.specs.LogText.{line_of, after}
use Rattle.trace_log.specs.Turns.{Upcoming}
use Rattle.edge_io.specs.Sunk.{Sunk, sunk, Took, TookFront}
use Rattle.staged_cut.specs.HandedOn.{state_of}
use Rattle.checkpointer.specs.declared.checkpointer.Checkpointer.{Checkpointer}
use Rattle.checkpointer.specs.Keeping.{HasNoLater}
use Rattle.checkpointer.specs.UnderWay.{IsUnderWay, IsBrokenOff, IsSettled}
use Rattle.checkpointer.proofs.Sinks.{OnErr-map}
use Rattle.checkpointer.proofs.Results.{OnOk-map}
use Rattle.checkpointer.proofs.Checkpoints.{outcome_tally}
use Rattle.checkpointer.proofs.Passing.{record_size}
use Rattle.checkpointer.proofs.Served.{on_ok2, refused_ok, refused_broken, kept_refused, safe_open_refused}
use Rattle.checkpointer.proofs.Settling.{opened_meanwhile}
use Rattle.checkpointer.proofs.checkpointer.Checkpointer.make_set.Goals as goal

tally_same : (t : Tally) (cause : Cause) → (tally_after t (Refused cause)).greatest ≡ t.greatest
tally_same t cause = outcome_tally t (Refused cause) refl (λ generation is. cc)

-- the folder can't be opened
pub returns-in-Err-clause-ok : goal.returns-in-Err-clause-ok
returns-in-Err-clause-ok g c = on_ok2 c.conclude.result c.conclude.ensures.ok c.conclude.ensures.checkpointer (λ took checkpointer g' upcoming sink had first before waits.
    let k = c.args.self.now in
    let m = c.args.start.now in
    let opened = c.open.ensures.checkpointer in
    let r = Refused c.in-Err.cause in
    let held = c.requires.held in
    let safe = safe_open_refused g' c.args.trace.now.records c.in-Err.cause (g.F.Folder.seen first) (g.F.Folder.seen c.args.disk.now) (g.F.Folder.seen c.open.new.disk) before.safe c.in-Err.ensures.kind c.open.ensures.nothing c.open.ensures.crash c.open.ensures.counts (λ is. c.open.ensures.cause (c.in-Err.is ∙ ap Err is)) in
    (refused_ok k.schedule g' (state_of m) upcoming k c.conclude.new.self c.args.trace.now c.conclude.new.trace sink had (g.L.Sink.seen c.args.log.now).taken (g.L.Sink.seen c.conclude.new.log).taken c.in-Err.cause (g.F.Folder.seen first) (g.F.Folder.seen c.args.disk.now) (g.F.Folder.seen c.open.new.disk) before waits held c.in-Err.ensures.kind
    c.conclude.ensures.trace (c.conclude.ensures.schedule ∙ ap (λ (x : Checkpointer). x.schedule) opened) (ap (λ (x : Checkpointer). x.lines) checkpointer ∙ ap (λ (x : Checkpointer). after x.lines r) opened) (ap (λ (x : Checkpointer). x.tally) checkpointer ∙ ap (λ (x : Checkpointer). tally_after x.tally r) opened)
    (subst (λ (x : Checkpointer). Took (sunk (g.L.Sink.seen c.args.log.now).taken (g.L.Sink.seen c.conclude.new.log).taken) (line_of x.lines r)) opened took) safe))

pub returns-in-Err-clause-kept : goal.returns-in-Err-clause-kept
returns-in-Err-clause-kept g c = OnOk-map c.conclude.result (λ checkpointer.
    let k = c.args.self.now in
    let m = c.args.start.now in
    let opened = c.open.ensures.checkpointer in
    kept_refused k c.conclude.new.self (g.F.Folder.seen c.args.disk.now) (g.F.Folder.seen c.open.new.disk) c.requires.kept c.in-Err.ensures.err
    (ap (λ (x : Checkpointer). x.store) checkpointer ∙ ap (λ (x : Checkpointer). x.store) opened)
    (ap (λ (x : Checkpointer). x.tally.greatest) checkpointer ∙ tally_same c.open.new.self.tally c.in-Err.cause ∙ ap (λ (x : Checkpointer). x.tally.greatest) opened) c.open.ensures.nothing.same) c.conclude.ensures.checkpointer

pub returns-in-Err-clause-err : goal.returns-in-Err-clause-err
returns-in-Err-clause-err g c = OnErr-map c.conclude.result (λ front g' upcoming sink had first before waits.
    let k = c.args.self.now in
    let m = c.args.start.now in
    let opened = c.open.ensures.checkpointer in
    let r = Refused c.in-Err.cause in
    let held = c.requires.held in
    let safe = safe_open_refused g' c.args.trace.now.records c.in-Err.cause (g.F.Folder.seen first) (g.F.Folder.seen c.args.disk.now) (g.F.Folder.seen c.open.new.disk) before.safe c.in-Err.ensures.kind c.open.ensures.nothing c.open.ensures.crash c.open.ensures.counts (λ is. c.open.ensures.cause (c.in-Err.is ∙ ap Err is)) in
    (refused_broken k.schedule g' (state_of m) upcoming k c.args.trace.now c.conclude.new.trace sink had (g.L.Sink.seen c.args.log.now).taken (g.L.Sink.seen c.conclude.new.log).taken c.in-Err.cause (g.F.Folder.seen first) (g.F.Folder.seen c.args.disk.now) (g.F.Folder.seen c.open.new.disk) before waits held c.in-Err.ensures.kind
    c.conclude.ensures.trace (subst (λ (x : Checkpointer). TookFront (sunk (g.L.Sink.seen c.args.log.now).taken (g.L.Sink.seen c.conclude.new.log).taken) (line_of x.lines r)) opened front) safe)) c.conclude.ensures.err

pub returns-in-Err-clause-size : goal.returns-in-Err-clause-size
returns-in-Err-clause-size g c = (record_size c.args.trace.now c.conclude.new.trace _ c.requires.room c.conclude.ensures.trace).0

pub returns-in-Err-clause-room : goal.returns-in-Err-clause-room
returns-in-Err-clause-room g c = (record_size c.args.trace.now c.conclude.new.trace _ c.requires.room c.conclude.ensures.trace).1

-- the store is there
pub write_set-requires-clause-below : goal.write_set-requires-clause-below
write_set-requires-clause-below g c = subst (λ (x : Checkpointer). x.tally.greatest < 2 ^ 64 - 2) (sym c.open.ensures.checkpointer) c.requires.below

pub write_set-requires-clause-next : goal.write_set-requires-clause-next
write_set-requires-clause-next g c = c.in-Ok.ensures.ok.1 ∙ ap (λ (x : Checkpointer). suc x.tally.greatest) (sym c.open.ensures.checkpointer)

pub write_set-requires-clause-above : goal.write_set-requires-clause-above
write_set-requires-clause-above g c =
    subst (λ (x : Checkpointer). HasNoLater x.tally.greatest (g.F.Folder.seen c.open.new.disk)) (sym c.open.ensures.checkpointer)
    (λ files is. c.requires.kept.above files (sym c.open.ensures.nothing.same ∙ is))

pub returns-in-Ok-clause-ok : goal.returns-in-Ok-clause-ok
returns-in-Ok-clause-ok g c =
    let k = c.args.self.now in
    let h = state_of c.args.start.now in
    let opened = c.open.ensures.checkpointer in
    let taken = (g.L.Sink.seen c.args.log.now).taken in
    let made = c.write_set.new in
    let scheduled : OnOk c.write_set.result.1 ((g' : Plain) (upcoming : Upcoming) (sink : Sunk) (had : Option (List ℕ)) (first : _)
    → (before : IsUnderWay k.schedule g' h upcoming c.open.new.self c.args.trace.now sink (sunk had taken) (g.F.Folder.seen first) (g.F.Folder.seen c.open.new.disk)) → before.running.requests.phase ≡ Requested []
    → (after : IsUnderWay k.schedule g' h upcoming made.self made.trace sink (sunk had (g.L.Sink.seen made.log).taken) (g.F.Folder.seen first) (g.F.Folder.seen made.disk)) × IsSettled after.running.requests made.trace) =
    subst (λ (s : Schedule). OnOk c.write_set.result.1 ((g' : Plain) (upcoming : Upcoming) (sink : Sunk) (had : Option (List ℕ)) (first : _)
    → (before : IsUnderWay s g' h upcoming c.open.new.self c.args.trace.now sink (sunk had taken) (g.F.Folder.seen first) (g.F.Folder.seen c.open.new.disk)) → before.running.requests.phase ≡ Requested []
    → (after : IsUnderWay s g' h upcoming made.self made.trace sink (sunk had (g.L.Sink.seen made.log).taken) (g.F.Folder.seen first) (g.F.Folder.seen made.disk)) × IsSettled after.running.requests made.trace))
    (ap (λ (x : Checkpointer). x.schedule) opened) c.write_set.ensures.ok in
    OnOk-map c.write_set.result.1 (λ served g' upcoming sink had first before waits.
    let still = opened_meanwhile k.schedule g' h upcoming k c.open.new.self c.args.trace.now sink (sunk had taken) (g.F.Folder.seen first) (g.F.Folder.seen c.args.disk.now) (g.F.Folder.seen c.open.new.disk) before waits opened c.open.ensures.nothing c.open.ensures.crash c.open.ensures.counts in
    served g' upcoming sink had first still.0 still.1) scheduled

pub returns-in-Ok-clause-err : goal.returns-in-Ok-clause-err
returns-in-Ok-clause-err g c =
    let k = c.args.self.now in
    let h = state_of c.args.start.now in
    let opened = c.open.ensures.checkpointer in
    let taken = (g.L.Sink.seen c.args.log.now).taken in
    let made = c.write_set.new in
    let scheduled : OnErr c.write_set.result.1 ((g' : Plain) (upcoming : Upcoming) (sink : Sunk) (had : Option (List ℕ)) (first : _)
    → (before : IsUnderWay k.schedule g' h upcoming c.open.new.self c.args.trace.now sink (sunk had taken) (g.F.Folder.seen first) (g.F.Folder.seen c.open.new.disk)) → before.running.requests.phase ≡ Requested []
    → IsBrokenOff k.schedule g' h upcoming made.trace sink (sunk had (g.L.Sink.seen made.log).taken) (g.F.Folder.seen first) (g.F.Folder.seen made.disk)) =
    subst (λ (s : Schedule). OnErr c.write_set.result.1 ((g' : Plain) (upcoming : Upcoming) (sink : Sunk) (had : Option (List ℕ)) (first : _)
    → (before : IsUnderWay s g' h upcoming c.open.new.self c.args.trace.now sink (sunk had taken) (g.F.Folder.seen first) (g.F.Folder.seen c.open.new.disk)) → before.running.requests.phase ≡ Requested []
    → IsBrokenOff s g' h upcoming made.trace sink (sunk had (g.L.Sink.seen made.log).taken) (g.F.Folder.seen first) (g.F.Folder.seen made.disk)))
    (ap (λ (x : Checkpointer). x.schedule) opened) c.write_set.ensures.err in
    OnErr-map c.write_set.result.1 (λ cut g' upcoming sink had first before waits.
    let still = opened_meanwhile k.schedule g' h upcoming k c.open.new.self c.args.trace.now sink (sunk had taken) (g.F.Folder.seen first) (g.F.Folder.seen c.args.disk.now) (g.F.Folder.seen c.open.new.disk) before waits opened c.open.ensures.nothing c.open.ensures.crash c.open.ensures.counts in
    cut g' upcoming sink had first still.0 still.1) scheduled
