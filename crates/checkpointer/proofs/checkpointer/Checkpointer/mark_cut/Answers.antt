use Rattle.std.proofs.Common.{◌≡◌, ℕ, List, take, ap, ◌∙◌, arith}
use Rattle.sys_abi.specs.declared.record.Record.{Record}
use Rattle.trace_log.specs.declared.requests.Tally.{Tally}
use Rattle.trace_log.specs.LogText.{after_all}
use Rattle.trace_log.specs.Trace.{TraceState}
use Rattle.staged_cut.specs.HandedOn.{state_of}
use Rattle.checkpointer.specs.declared.checkpointer.Checkpointer.{Checkpointer}
use Rattle.checkpointer.specs.declared.marks.Pass.TheVariants as pass
use Rattle.checkpointer.specs.Marks.{marks_of, with_marks}
use Rattle.checkpointer.proofs.Checkpoints.{cut_work}
use Rattle.checkpointer.proofs.checkpointer.Checkpointer.mark_cut.Goals as goal

pub mark_all-requires-clause-work : goal.mark_all-requires-clause-work
mark_all-requires-clause-work c =
    let one = ap (λ (x : Checkpointer). x.tally.work) c.mark.ensures.checkpointer in
    let two = cut_work c.args.self.now.tally c.args.generation in
    let few = c.requires.work in
    omega arith

pub mark_all-requires-clause-drained : goal.mark_all-requires-clause-drained
mark_all-requires-clause-drained c =
    let same = ap (λ (x : Checkpointer). x.lines.drained) c.mark.ensures.checkpointer in
    let none = c.requires.drained in
    let small = c.if-prove.false in
    let room = c.room.ensures in
    omega arith

pub returns-clause-checkpointer : goal.returns-clause-checkpointer
returns-clause-checkpointer c =
    by c.args.self.now c.mark.new.self c.mark_all.new.self _ c.mark.new.trace.room _ (marks_of pass.Drain (state_of c.args.start.now)) c.mark.ensures.checkpointer
    (ap (λ (t : TraceState). t.room) c.mark.ensures.trace) c.mark_all.ensures.checkpointer
  where
    by : (k cut later : Checkpointer) (tally : Tally) (n m : ℕ) (marks : List Record) → cut ≡ record k { tally = tally } → n ≡ m → later ≡ record cut { lines = after_all cut.lines (take n marks) }
        → later ≡ record k { tally = tally; lines = after_all k.lines (take m marks) }
    by k cut later tally n m marks one same two =
        two ∙ ap (λ (x : Checkpointer). let y : Checkpointer = record x { lines = after_all x.lines (take n marks) } in y) one
        ∙ ap (λ (i : ℕ). let y : Checkpointer = record k { tally = tally; lines = after_all k.lines (take i marks) } in y) same

pub returns-clause-trace : goal.returns-clause-trace
returns-clause-trace c = c.mark_all.ensures.trace ∙ ap (λ (t : TraceState). with_marks t (marks_of pass.Drain (state_of c.args.start.now))) c.mark.ensures.trace

pub returns-clause-drained : goal.returns-clause-drained
returns-clause-drained c =
    let same = ap (λ (x : Checkpointer). x.lines.drained) c.mark.ensures.checkpointer in
    let none = c.requires.drained in
    let small = c.if-prove.false in
    let room = c.room.ensures in
    let more = c.mark_all.ensures.drained in
    omega arith
