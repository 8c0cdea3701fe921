-- The answers of the loop of a run: how it begins, what each record keeps, and how the run ends.
use Rattle.std.proofs.Common.{◌≡◌, length, inl, refl, sym, ap, ◌∙◌, arith}
use Rattle.trace_log.specs.declared.requests.Schedule.{Schedule}
use Rattle.trace_log.specs.Turns.{NewRound}
use Rattle.plain_machine.specs.Tests.{ended}
use Rattle.drive.specs.HandedOn.{plain_of}
use Rattle.drive.proofs.Choosing.{ended_if, goes_on_if, is_free, work_is_few}
use Rattle.drive.proofs.Ended.{at_end, at_full}
use Rattle.drive.proofs.Starting.{starting}
use Rattle.drive.proofs.start.Start.go_on.Goals as goal

pub loop-record-init : goal.loop-record-init
loop-record-init g c =
    let s = c.args.self.now in
    let start = plain_of s.computation in
    let begun = starting start s.checkpointer c.args.trace.now (g.O.Sink.seen c.args.out.now).taken (g.L.Sink.seen c.args.log.now).taken (g.F.Folder.seen c.args.disk.now) c.requires.empty c.requires.tally c.requires.lines in
    let room = c.room-room.ensures in
    record {
      going = record { upcoming = NewRound; under = begun.now; settled = inl begun.free; come = c.requires.come };
      ready = c.requires.ready;
      told = c.requires.told;
      scheduled = refl;
      kept = c.requires.kept;
      untouched = λ none. refl;
      size = let none : length c.args.trace.now.records ≡ 0 = ap length c.requires.empty in omega arith;
      left = omega arith;
      later = omega arith;
      log_later = omega arith;
    }

pub make_record-requires-clause-work : goal.make_record-requires-clause-work
make_record-requires-clause-work g c =
    let l = c.loop-record in
    let few = work_is_few _ _ _ _ _ _ _ _ _ l.invariant.going in
    let size = l.invariant.size in
    let limit = c.room-room.auto in
    omega arith

pub make_record-requires-clause-drained : goal.make_record-requires-clause-drained
make_record-requires-clause-drained g c = λ some.
    let going = c.loop-record.invariant.going in
    going.under.noted.dry (is_free _ _ _ _ c.loop-record.trace _ _ _ _ going some)

pub returns-in-Err-clause-ended : goal.returns-in-Err-clause-ended
returns-in-Err-clause-ended g c =
    let l = c.loop-record in
    let s = c.args.self.now in
    c.in-Err.ensures.ended s.checkpointer.schedule (plain_of s.computation) c.args.trace.now.room (g.O.Sink.seen c.args.out.now).taken (g.L.Sink.seen c.args.log.now).taken c.args.disk.now l.invariant.going (l.invariant.size ∙ c.room-room.ensures)

pub loop-record-preserved : goal.loop-record-preserved
loop-record-preserved g c =
    let l = c.loop-record in
    let s = c.args.self.now in
    record {
      going = c.in-Ok.ensures.going s.checkpointer.schedule (plain_of s.computation) (g.O.Sink.seen c.args.out.now).taken (g.L.Sink.seen c.args.log.now).taken c.args.disk.now l.invariant.going;
      ready = c.in-Ok.ensures.ready;
      told = c.in-Ok.ensures.told;
      scheduled = c.make_record.ensures.schedule ∙ l.invariant.scheduled;
      kept = λ some_every. c.in-Ok.ensures.kept (λ none. some_every (ap (λ (x : Schedule). x.every) c.make_record.ensures.schedule ∙ none));
      untouched = λ none. c.make_record.ensures.untouched (ap (λ (x : Schedule). x.every) l.invariant.scheduled ∙ none) ∙ l.invariant.untouched none;
      size = let same = c.in-Ok.ensures.size in let whole = l.invariant.size in omega arith;
      left = let less = c.in-Ok.ensures.less in let left = l.invariant.left in omega arith;
      later = let first = l.invariant.later in let second = c.make_record.ensures.later in omega arith;
      log_later = let first = l.invariant.log_later in let second = c.make_record.ensures.log_later in omega arith;
    }

pub returns-then-lives-clause-ended : goal.returns-then-lives-clause-ended
returns-then-lives-clause-ended g c =
    let l = c.loop-record in
    let going = l.invariant.going in
    let on = goes_on_if (ended (plain_of l.self.computation)) (sym c.lives.ensures ∙ c.if-lives.true) in
    let none : l.trace.room ≡ 0 = let left = l.invariant.left in let over = c.loop-record-test.false in omega arith in
    at_full _ (plain_of c.args.self.now.computation) (plain_of l.self.computation) going.upcoming l.trace _ c.args.trace.now.room l.self.checkpointer _ _ _ going.under none (l.invariant.size ∙ c.room-room.ensures) on

pub returns-else-lives-clause-ended : goal.returns-else-lives-clause-ended
returns-else-lives-clause-ended g c =
    let l = c.loop-record in
    let going = l.invariant.going in
    let over = ended_if (ended (plain_of l.self.computation)) (sym c.lives.ensures ∙ c.if-lives.false) in
    at_end _ (plain_of c.args.self.now.computation) (plain_of l.self.computation) going.upcoming l.trace _ c.args.trace.now.room l.self.checkpointer _ _ _ going.under going.settled (l.invariant.size ∙ c.room-room.ensures) over
