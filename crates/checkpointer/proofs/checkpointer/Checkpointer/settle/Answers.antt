use Rattle.std.proofs.Common.{◌<◌, inl, inr, refl, ap, subst, ◌∙◌, arith}
use Rattle.trace_log.specs.LogText.{line_of, after}
use Rattle.trace_log.specs.Requests.{tally_after}
use Rattle.trace_log.specs.Trace.{TraceState, with_record}
use Rattle.edge_io.specs.Sunk.{sunk, Took, TookFront}
use Rattle.staged_cut.specs.HandedOn.{state_of}
use Rattle.checkpointer.specs.declared.checkpointer.Checkpointer.{Checkpointer}
use Rattle.checkpointer.specs.declared.marks.Pass.TheVariants as pass
use Rattle.checkpointer.specs.Marks.{marks_of}
use Rattle.checkpointer.proofs.Sinks.{OnErr-map}
use Rattle.checkpointer.proofs.Results.{OnOk-map}
use Rattle.checkpointer.proofs.Passing.{front_counts, kind_passes, marks_size, record_size}
use Rattle.checkpointer.proofs.checkpointer.Checkpointer.settle.Goals as goal

pub conclude-requires-clause-request : goal.conclude-requires-clause-request
conclude-requires-clause-request g c =
    let few = c.requires.request in
    let same = ap (λ (x : Checkpointer). x.lines.request) c.mark_all.ensures.checkpointer
    ∙ front_counts c.args.self.now.lines c.args.trace.now.room (marks_of pass.Refill (state_of c.args.start.now)) (kind_passes pass.Refill (state_of c.args.start.now)) in
    omega arith

pub conclude-requires-clause-drained : goal.conclude-requires-clause-drained
conclude-requires-clause-drained g c =
    let few = c.requires.drained in
    let more = c.mark_all.ensures.drained in
    omega arith

-- the trace is full
pub returns-then-room-eq0-clause-settled : goal.returns-then-room-eq0-clause-settled
returns-then-room-eq0-clause-settled g c = inl (record {
  fine = refl;
  checkpointer = c.mark_all.ensures.checkpointer;
  trace = c.mark_all.ensures.trace;
  full = let room = c.room.ensures in let none = c.if-room-eq0.true in omega arith;
  silent = refl;
})

pub returns-clause-settled : goal.returns-clause-settled
returns-clause-settled g c =
    let outcome = c.args.outcome in
    let past = c.mark_all.ensures.checkpointer in
    let log = sunk (g.L.Sink.seen c.args.log.now).taken (g.L.Sink.seen c.conclude.new.log).taken in
    inr (record {
      room = let left = c.room.ensures in let some = c.if-room-eq0.false in let same = ap (λ (t : TraceState). t.room) c.mark_all.ensures.trace in omega arith;
      checkpointer = OnOk-map c.conclude.result (λ is. is ∙ ap (λ (x : Checkpointer). let y : Checkpointer = record x { tally = tally_after x.tally outcome; lines = after x.lines outcome } in y) past) c.conclude.ensures.checkpointer;
      trace = c.conclude.ensures.trace ∙ ap (λ (t : TraceState). with_record t outcome) c.mark_all.ensures.trace;
      ok = OnOk-map c.conclude.result (λ took. subst (λ (x : Checkpointer). Took log (line_of x.lines outcome)) past took) c.conclude.ensures.ok;
      err = OnErr-map c.conclude.result (λ front. subst (λ (x : Checkpointer). TookFront log (line_of x.lines outcome)) past front) c.conclude.ensures.err;
    })

pub returns-then-room-eq0-clause-size : goal.returns-then-room-eq0-clause-size
returns-then-room-eq0-clause-size g c = (marks_size c.args.trace.now c.mark_all.new.trace (marks_of pass.Refill (state_of c.args.start.now)) c.mark_all.ensures.trace).0

pub returns-then-room-eq0-clause-room : goal.returns-then-room-eq0-clause-room
returns-then-room-eq0-clause-room g c = (marks_size c.args.trace.now c.mark_all.new.trace (marks_of pass.Refill (state_of c.args.start.now)) c.mark_all.ensures.trace).1

pub returns-clause-size : goal.returns-clause-size
returns-clause-size g c =
    let some : 0 < c.mark_all.new.trace.room = let left = c.room.ensures in let some = c.if-room-eq0.false in omega arith in
    (record_size c.mark_all.new.trace c.conclude.new.trace c.args.outcome some c.conclude.ensures.trace).0
    ∙ (marks_size c.args.trace.now c.mark_all.new.trace (marks_of pass.Refill (state_of c.args.start.now)) c.mark_all.ensures.trace).0

pub returns-clause-room : goal.returns-clause-room
returns-clause-room g c =
    let some : 0 < c.mark_all.new.trace.room = let left = c.room.ensures in let some = c.if-room-eq0.false in omega arith in
    let one = (record_size c.mark_all.new.trace c.conclude.new.trace c.args.outcome some c.conclude.ensures.trace).1 in
    let more = (marks_size c.args.trace.now c.mark_all.new.trace (marks_of pass.Refill (state_of c.args.start.now)) c.mark_all.ensures.trace).1 in
    omega arith
