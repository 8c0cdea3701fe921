use Rattle.std.proofs.Common.{◌≡◌, ℕ, ◌+◌, ◌-◌, ◌^◌, ◌<◌, ◌≤◌, List, [], ◌∷◌, length, Option, inr, refl, sym, ap, subst, ◌∙◌, arith}
use Rattle.std.specs.Prelude.{OnOk, OnErr}
use Rattle.std.proofs.lemmas.List.{length-append}
use Rattle.views.specs.Faults.{IsFaultOf}
use Rattle.staged_cut.specs.HandedOn.{Computation, plain_of, IsReady}
use Rattle.staged_cut.specs.StopVariants.{Sink}
use Rattle.plain_machine.specs.declared.plain.Plain.{Plain}
use Rattle.trace_log.specs.Trace.{TraceState}
use Rattle.trace_log.specs.Requests.{Requested}
use Rattle.trace_log.specs.Turns.{Upcoming}
use Rattle.edge_io.specs.Sunk.{Sunk, sunk}
use Rattle.checkpointer.specs.declared.checkpointer.Checkpointer.{Checkpointer}
use Rattle.checkpointer.specs.Keeping.{IsKept}
use Rattle.checkpointer.specs.UnderWay.{IsUnderWay, IsBrokenOff, IsSettled}
use Rattle.checkpointer.proofs.Sinks.{OnErr-map}
use Rattle.checkpointer.proofs.Results.{OnOk-map}
use Rattle.checkpointer.proofs.Walks.{arrival_of}
use Rattle.checkpointer.proofs.Arrived.{arrives, arrived_by_now, held_so}
use Rattle.checkpointer.proofs.Passing.{arrived_meanwhile}
use Rattle.checkpointer.proofs.checkpointer.Checkpointer.checkpoint.Goals as goal

pub cut-requires-clause-arrived : goal.cut-requires-clause-arrived
cut-requires-clause-arrived g c = arrived_by_now (plain_of c.loop-arrival.computation) c.loop-arrival.invariant.ready.valid (c.first_missing.ensures.none c.in_default.is)

pub cut-requires-clause-below : goal.cut-requires-clause-below
cut-requires-clause-below g c = subst (λ (x : Checkpointer). x.tally.greatest < 2 ^ 64 - 2) (sym c.loop-arrival.invariant.same) c.requires.below

pub cut-requires-clause-work : goal.cut-requires-clause-work
cut-requires-clause-work g c = subst (λ (x : Checkpointer). x.tally.work + 2 < 2 ^ 64) (sym c.loop-arrival.invariant.same) c.requires.work

pub cut-requires-clause-request : goal.cut-requires-clause-request
cut-requires-clause-request g c = subst (λ (x : Checkpointer). x.lines.request + 1 < 2 ^ 64) (sym c.loop-arrival.invariant.same) c.requires.request

pub cut-requires-clause-drained : goal.cut-requires-clause-drained
cut-requires-clause-drained g c = subst (λ (x : Checkpointer). x.lines.drained ≡ 0) (sym c.loop-arrival.invariant.same) c.requires.drained

pub cut-requires-clause-kept : goal.cut-requires-clause-kept
cut-requires-clause-kept g c =
    let inv = c.loop-arrival.invariant in
    subst (λ disk. IsKept c.loop-arrival.self (g.F.Folder.seen disk)) (sym inv.same_disk) (subst (λ (x : Checkpointer). IsKept x (g.F.Folder.seen c.args.disk.now)) (sym inv.same) c.requires.kept)

pub returns-in_default-clause-ok : goal.returns-in_default-clause-ok
returns-in_default-clause-ok g c =
    let inv = c.loop-arrival.invariant in
    let h = plain_of c.loop-arrival.computation in
    let t = c.loop-arrival.trace in
    let as_args = subst (λ (x : Checkpointer). OnOk c.cut.result ((g' : Plain) (upcoming : Upcoming) (sink : Sunk) (had : Option (List ℕ)) (first : _)
    → (before : IsUnderWay x.schedule g' h upcoming x t sink (sunk had (g.L.Sink.seen c.args.log.now).taken) (g.F.Folder.seen first) (g.F.Folder.seen c.args.disk.now)) → before.running.requests.phase ≡ Requested []
    → (after : IsUnderWay x.schedule g' h upcoming c.cut.new.self c.cut.new.trace sink (sunk had (g.L.Sink.seen c.cut.new.log).taken) (g.F.Folder.seen first) (g.F.Folder.seen c.cut.new.disk)) × IsSettled after.running.requests c.cut.new.trace)) inv.same
    (subst (λ log. OnOk c.cut.result ((g' : Plain) (upcoming : Upcoming) (sink : Sunk) (had : Option (List ℕ)) (first : _)
    → (before : IsUnderWay c.loop-arrival.self.schedule g' h upcoming c.loop-arrival.self t sink (sunk had (g.L.Sink.seen log).taken) (g.F.Folder.seen first) (g.F.Folder.seen c.args.disk.now)) → before.running.requests.phase ≡ Requested []
    → (after : IsUnderWay c.loop-arrival.self.schedule g' h upcoming c.cut.new.self c.cut.new.trace sink (sunk had (g.L.Sink.seen c.cut.new.log).taken) (g.F.Folder.seen first) (g.F.Folder.seen c.cut.new.disk)) × IsSettled after.running.requests c.cut.new.trace)) inv.same_log
    (subst (λ disk. OnOk c.cut.result ((g' : Plain) (upcoming : Upcoming) (sink : Sunk) (had : Option (List ℕ)) (first : _)
    → (before : IsUnderWay c.loop-arrival.self.schedule g' h upcoming c.loop-arrival.self t sink (sunk had (g.L.Sink.seen c.loop-arrival.log).taken) (g.F.Folder.seen first) (g.F.Folder.seen disk)) → before.running.requests.phase ≡ Requested []
    → (after : IsUnderWay c.loop-arrival.self.schedule g' h upcoming c.cut.new.self c.cut.new.trace sink (sunk had (g.L.Sink.seen c.cut.new.log).taken) (g.F.Folder.seen first) (g.F.Folder.seen c.cut.new.disk)) × IsSettled after.running.requests c.cut.new.trace)) inv.same_disk c.cut.ensures.ok)) in
    OnOk-map c.cut.result (λ done g' upcoming sink had first before waits.
    let now = inv.under g' upcoming sink had first before waits in
    subst (λ (m : Computation). (after : IsUnderWay c.args.self.now.schedule g' (plain_of m) upcoming c.cut.new.self
    c.cut.new.trace sink (sunk had (g.L.Sink.seen c.cut.new.log).taken) (g.F.Folder.seen first)
    (g.F.Folder.seen c.cut.new.disk)) × IsSettled after.running.requests c.cut.new.trace) (sym c.cut.ensures.same)
    (done g' upcoming sink had first now.0 now.1)) as_args

pub returns-in_default-clause-err : goal.returns-in_default-clause-err
returns-in_default-clause-err g c =
    let inv = c.loop-arrival.invariant in
    let h = plain_of c.loop-arrival.computation in
    let t = c.loop-arrival.trace in
    let as_args = subst (λ (x : Checkpointer). OnErr c.cut.result ((g' : Plain) (upcoming : Upcoming) (sink : Sunk) (had : Option (List ℕ)) (first : _)
    → (before : IsUnderWay x.schedule g' h upcoming x t sink (sunk had (g.L.Sink.seen c.args.log.now).taken) (g.F.Folder.seen first) (g.F.Folder.seen c.args.disk.now)) → before.running.requests.phase ≡ Requested []
    → IsBrokenOff x.schedule g' h upcoming c.cut.new.trace sink (sunk had (g.L.Sink.seen c.cut.new.log).taken) (g.F.Folder.seen first) (g.F.Folder.seen c.cut.new.disk))) inv.same
    (subst (λ log. OnErr c.cut.result ((g' : Plain) (upcoming : Upcoming) (sink : Sunk) (had : Option (List ℕ)) (first : _)
    → (before : IsUnderWay c.loop-arrival.self.schedule g' h upcoming c.loop-arrival.self t sink (sunk had (g.L.Sink.seen log).taken) (g.F.Folder.seen first) (g.F.Folder.seen c.args.disk.now)) → before.running.requests.phase ≡ Requested []
    → IsBrokenOff c.loop-arrival.self.schedule g' h upcoming c.cut.new.trace sink (sunk had (g.L.Sink.seen c.cut.new.log).taken) (g.F.Folder.seen first) (g.F.Folder.seen c.cut.new.disk))) inv.same_log
    (subst (λ disk. OnErr c.cut.result ((g' : Plain) (upcoming : Upcoming) (sink : Sunk) (had : Option (List ℕ)) (first : _)
    → (before : IsUnderWay c.loop-arrival.self.schedule g' h upcoming c.loop-arrival.self t sink (sunk had (g.L.Sink.seen c.loop-arrival.log).taken) (g.F.Folder.seen first) (g.F.Folder.seen disk)) → before.running.requests.phase ≡ Requested []
    → IsBrokenOff c.loop-arrival.self.schedule g' h upcoming c.cut.new.trace sink (sunk had (g.L.Sink.seen c.cut.new.log).taken) (g.F.Folder.seen first) (g.F.Folder.seen c.cut.new.disk))) inv.same_disk c.cut.ensures.err)) in
    OnErr-map c.cut.result (λ done g' upcoming sink had first before waits.
    let now = inv.under g' upcoming sink had first before waits in
    subst (λ (m : Computation). IsBrokenOff c.args.self.now.schedule g' (plain_of m) upcoming c.cut.new.trace sink
    (sunk had (g.L.Sink.seen c.cut.new.log).taken) (g.F.Folder.seen first) (g.F.Folder.seen c.cut.new.disk))
    (sym c.cut.ensures.same) (done g' upcoming sink had first now.0 now.1)) as_args

pub returns-in_default-clause-guests : goal.returns-in_default-clause-guests
returns-in_default-clause-guests g c =
    ap (λ (m : Computation). m.guests) c.cut.ensures.same ∙ c.loop-arrival.invariant.guests

pub returns-in_default-clause-ready : goal.returns-in_default-clause-ready
returns-in_default-clause-ready g c = subst IsReady (sym c.cut.ensures.same) c.loop-arrival.invariant.ready

pub returns-in_default-clause-schedule : goal.returns-in_default-clause-schedule
returns-in_default-clause-schedule g c = c.cut.ensures.schedule ∙ ap (λ (x : Checkpointer). x.schedule) c.loop-arrival.invariant.same

pub returns-in_default-clause-cause : goal.returns-in_default-clause-cause
returns-in_default-clause-cause g c = subst (λ log. IsFaultOf c.cut.result Sink (g.L.Sink.seen log).faults (g.L.Sink.seen c.cut.new.log).faults) c.loop-arrival.invariant.same_log c.cut.ensures.cause

pub returns-in_default-clause-later : goal.returns-in_default-clause-later
returns-in_default-clause-later g c = subst (λ log. (g.L.Sink.seen log).faults ≤ (g.L.Sink.seen c.cut.new.log).faults) c.loop-arrival.invariant.same_log c.cut.ensures.later

pub loop-arrival-init : goal.loop-arrival-init
loop-arrival-init g c = record {
  same = refl;
  same_log = refl;
  same_disk = refl;
  ready = c.requires.ready;
  held = c.requires.held;
  guests = refl;
  under = λ g' upcoming sink had first before waits. (before, waits);
  size = refl;
  left = omega arith;
}

pub loop-arrival-preserved : goal.loop-arrival-preserved
loop-arrival-preserved g c =
    let inv = c.loop-arrival.invariant in
    let h = plain_of c.loop-arrival.computation in
    let k = plain_of c.arrive.new.self in
    let dir = c.in-Some.dir in
    let r = arrival_of h dir in
    let took = c.arrive.ensures.took (g.L.Sink.seen c.args.log.now).taken in
    let come = arrives h k dir took.bytes took.outcome in
    let room = ap (λ (t : TraceState). t.room) took.trace in
    let records = ap (λ (t : TraceState). length t.records) took.trace ∙ length-append c.loop-arrival.trace.records (r ∷ []) in
    let more = c.loop-arrival-test.true in
    let end = c.room-arrival-end.ensures in
    let size = inv.size in
    let left = inv.left in
    record {
      same = inv.same;
      same_log = inv.same_log;
      same_disk = inv.same_disk;
      ready = c.arrive.ensures.ready;
      held = come.held inv.held;
      guests = c.arrive.ensures.guests ∙ inv.guests;
      under = λ g' upcoming sink had first before waits.
          let now = inv.under g' upcoming sink had first before waits in
          arrived_meanwhile c.args.self.now.schedule g' h k upcoming c.args.self.now c.loop-arrival.trace c.arrive.new.trace sink (sunk had (g.L.Sink.seen c.args.log.now).taken) dir c.in-Some.ensures.some.0 (g.F.Folder.seen first) (g.F.Folder.seen c.args.disk.now)
          now.0 now.1 (held_so h inv.held) c.in-Some.ensures.some.1 come.makes took.trace;
      size = omega arith;
      left = omega arith;
    }

pub returns-clause-ok : goal.returns-clause-ok
returns-clause-ok g c = λ g' upcoming sink had first before waits.
    let inv = c.loop-arrival.invariant in
    let now = inv.under g' upcoming sink had first before waits in
    let k = c.args.self.now in
    let h = plain_of c.loop-arrival.computation in
    let t = c.loop-arrival.trace in
    let none : t.room ≡ 0 = let left = inv.left in let end = c.room-arrival-end.ensures in let over = c.loop-arrival-test.false in omega arith in
    subst (λ (x : Checkpointer). (after : IsUnderWay k.schedule g' h upcoming x t sink (sunk had (g.L.Sink.seen c.loop-arrival.log).taken) (g.F.Folder.seen first) (g.F.Folder.seen c.loop-arrival.disk)) × IsSettled after.running.requests t) (sym inv.same)
    (subst (λ log. (after : IsUnderWay k.schedule g' h upcoming k t sink (sunk had (g.L.Sink.seen log).taken) (g.F.Folder.seen first) (g.F.Folder.seen c.loop-arrival.disk)) × IsSettled after.running.requests t) (sym inv.same_log)
    (subst (λ disk. (after : IsUnderWay k.schedule g' h upcoming k t sink (sunk had (g.L.Sink.seen c.args.log.now).taken) (g.F.Folder.seen first) (g.F.Folder.seen disk)) × IsSettled after.running.requests t) (sym inv.same_disk) (now.0, inr none)))

pub returns-clause-kept : goal.returns-clause-kept
returns-clause-kept g c =
    let inv = c.loop-arrival.invariant in
    subst (λ disk. IsKept c.loop-arrival.self (g.F.Folder.seen disk)) (sym inv.same_disk) (subst (λ (x : Checkpointer). IsKept x (g.F.Folder.seen c.args.disk.now)) (sym inv.same) c.requires.kept)

pub returns-clause-guests : goal.returns-clause-guests
returns-clause-guests g c = c.loop-arrival.invariant.guests

pub returns-clause-schedule : goal.returns-clause-schedule
returns-clause-schedule g c = ap (λ (x : Checkpointer). x.schedule) c.loop-arrival.invariant.same

pub returns-clause-later : goal.returns-clause-later
returns-clause-later g c = subst (λ log. (g.L.Sink.seen c.args.log.now).faults ≤ (g.L.Sink.seen log).faults) (sym c.loop-arrival.invariant.same_log) (omega arith)
