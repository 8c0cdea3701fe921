use Rattle.std.proofs.Common.{◌≡◌, ℕ, [], List, Option, refl, ap, subst, ◌∙◌}
use Rattle.std.specs.Prelude.{OnOk, OnErr}
use Rattle.sys_abi.specs.declared.record.Record.TheVariants.{Refused}
use Rattle.sys_abi.specs.declared.record.Cause.TheVariants.{Memory}
use Rattle.plain_machine.specs.declared.plain.Plain.{Plain}
use Rattle.plain_machine.specs.Tests.{full_arrive}
use Rattle.trace_log.specs.Requests.{Requested}
use Rattle.trace_log.specs.Turns.{Upcoming}
use Rattle.staged_cut.specs.HandedOn.{all_in}
use Rattle.staged_cut.specs.HandedOn.{plain_of}
use Rattle.edge_io.specs.Sunk.{Sunk, sunk}
use Rattle.checkpointer.specs.declared.checkpointer.Checkpointer.{Checkpointer}
use Rattle.checkpointer.specs.UnderWay.{IsUnderWay, IsBrokenOff, IsSettled}
use Rattle.checkpointer.proofs.Sinks.{OnErr-map}
use Rattle.checkpointer.proofs.Results.{OnOk-map}
use Rattle.checkpointer.proofs.Checkpoints.{outcome_tally}
use Rattle.checkpointer.proofs.Served.{on_ok2, refused_ok, refused_broken, kept_same, safe_no_images}
use Rattle.checkpointer.proofs.Supported.{has_arrived}
use Rattle.checkpointer.proofs.Holding.{held_state, same_parts}
use Rattle.checkpointer.proofs.checkpointer.Checkpointer.cut.Goals as goal

pub hold-requires-clause-arrived : goal.hold-requires-clause-arrived
hold-requires-clause-arrived g c = has_arrived (plain_of c.args.computation.now) c.requires.arrived

-- where it can't be held for want of memory
pub returns-in_default-clause-ok : goal.returns-in_default-clause-ok
returns-in_default-clause-ok g c =
    on_ok2 c.conclude.result c.conclude.ensures.ok c.conclude.ensures.checkpointer
    (λ took checkpointer g' upcoming sink had first before waits.
    let k = c.args.self.now in
    let h = plain_of c.args.computation.now in
    refused_ok k.schedule g' h upcoming k c.conclude.new.self c.args.trace.now c.conclude.new.trace sink had
    (g.L.Sink.seen c.args.log.now).taken (g.L.Sink.seen c.conclude.new.log).taken Memory
    (g.F.Folder.seen first) (g.F.Folder.seen c.args.disk.now) (g.F.Folder.seen c.args.disk.now) before waits
    c.requires.held tt c.conclude.ensures.trace c.conclude.ensures.schedule
    (ap (λ (x : Checkpointer). x.lines) checkpointer) (ap (λ (x : Checkpointer). x.tally) checkpointer) took
    (safe_no_images g' c.args.trace.now.records (g.F.Folder.seen first) (g.F.Folder.seen c.args.disk.now)
    before.safe))

pub returns-in_default-clause-kept : goal.returns-in_default-clause-kept
returns-in_default-clause-kept g c = OnOk-map c.conclude.result (λ checkpointer.
    kept_same c.args.self.now c.conclude.new.self (g.F.Folder.seen c.args.disk.now) c.requires.kept
    (ap (λ (x : Checkpointer). x.store) checkpointer)
    (ap (λ (x : Checkpointer). x.tally.greatest) checkpointer
    ∙ outcome_tally c.args.self.now.tally (Refused Memory) refl (λ generation is. cc)))
    c.conclude.ensures.checkpointer

pub returns-in_default-clause-err : goal.returns-in_default-clause-err
returns-in_default-clause-err g c =
    OnErr-map c.conclude.result (λ front g' upcoming sink had first before waits.
    let k = c.args.self.now in
    let h = plain_of c.args.computation.now in
    refused_broken k.schedule g' h upcoming k c.args.trace.now c.conclude.new.trace sink had
    (g.L.Sink.seen c.args.log.now).taken (g.L.Sink.seen c.conclude.new.log).taken Memory
    (g.F.Folder.seen first) (g.F.Folder.seen c.args.disk.now) (g.F.Folder.seen c.args.disk.now) before waits
    c.requires.held tt c.conclude.ensures.trace front
    (safe_no_images g' c.args.trace.now.records (g.F.Folder.seen first) (g.F.Folder.seen c.args.disk.now)
    before.safe)) c.conclude.ensures.err

-- what the set came to at the state of the start is so at that of the computation
pub returns-clause-ok : goal.returns-clause-ok
returns-clause-ok g c =
    let k = c.args.self.now in
    let t = c.args.trace.now in
    let made = c.make_set-outcome.new in
    subst (λ (h : Plain). OnOk c.make_set-outcome.result.1 ((g' : Plain) (upcoming : Upcoming) (sink : Sunk)
    (had : Option (List ℕ)) (first : _)
    → (before : IsUnderWay k.schedule g' h upcoming k t sink (sunk had (g.L.Sink.seen c.args.log.now).taken)
    (g.F.Folder.seen first) (g.F.Folder.seen c.args.disk.now)) → before.running.requests.phase ≡ Requested []
    → (after : IsUnderWay k.schedule g' h upcoming made.self made.trace sink
    (sunk had (g.L.Sink.seen made.log).taken) (g.F.Folder.seen first) (g.F.Folder.seen made.disk))
    × IsSettled after.running.requests made.trace))
    (held_state c.args.computation.now c.in-Ok.held c.in-Ok.ensures.ok) c.make_set-outcome.ensures.ok

pub returns-clause-err : goal.returns-clause-err
returns-clause-err g c =
    let k = c.args.self.now in
    let t = c.args.trace.now in
    let made = c.make_set-outcome.new in
    subst (λ (h : Plain). OnErr c.make_set-outcome.result.1 ((g' : Plain) (upcoming : Upcoming) (sink : Sunk)
    (had : Option (List ℕ)) (first : _)
    → (before : IsUnderWay k.schedule g' h upcoming k t sink (sunk had (g.L.Sink.seen c.args.log.now).taken)
    (g.F.Folder.seen first) (g.F.Folder.seen c.args.disk.now)) → before.running.requests.phase ≡ Requested []
    → IsBrokenOff k.schedule g' h upcoming made.trace sink (sunk had (g.L.Sink.seen made.log).taken)
    (g.F.Folder.seen first) (g.F.Folder.seen made.disk)))
    (held_state c.args.computation.now c.in-Ok.held c.in-Ok.ensures.ok) c.make_set-outcome.ensures.err

-- it goes on as it was
pub returns-clause-same : goal.returns-clause-same
unfolding full_arrive
returns-clause-same g c =
    let before = c.args.computation.now in
    let held = c.in-Ok.ensures.ok in
    let kept = c.in-Ok.ensures.transfer in
    let whole : all_in before.kernel ≡ before.kernel = ap (λ (h : Plain). h.kernel) c.requires.arrived in
    let drained : all_in c.in-Ok.held.drained.kernel ≡ all_in before.kernel = ap all_in held.drained in
    same_parts _ before (cc) (cc) (cc)
