-- The answers of a run: those of its loop, and of a run that has no memory for its rounds.
use Rattle.std.proofs.Common.{◌≡◌, length, ap, arith}
use Rattle.trace_log.specs.Turns.{NewRound}
use Rattle.drive.specs.HandedOn.{plain_of}
use Rattle.checkpointer.proofs.Running.{steps_of}
use Rattle.drive.proofs.Ended.{at_memory}
use Rattle.drive.proofs.Starting.{starting}
use Rattle.drive.proofs.start.Start.run.Goals as goal

pub returns-in_default-clause-ends : goal.returns-in_default-clause-ends
returns-in_default-clause-ends g c =
    let s = c.args.self.now in
    let start = plain_of s.computation in
    let begun = starting start s.checkpointer c.args.trace.now (g.O.Sink.seen c.args.out.now).taken (g.L.Sink.seen c.args.log.now).taken (g.F.Folder.seen c.args.disk.now) c.requires.empty c.requires.tally c.requires.lines in
    let none : length c.args.trace.now.records ≡ 0 = ap length c.requires.empty in
    (at_memory s.checkpointer.schedule start start NewRound c.args.trace.now _ c.args.trace.now.room s.checkpointer _ _ _ begun.now (omega arith)).ends

pub returns-in_default-clause-state : goal.returns-in_default-clause-state
returns-in_default-clause-state g c =
    let s = c.args.self.now in
    let start = plain_of s.computation in
    let begun = starting start s.checkpointer c.args.trace.now (g.O.Sink.seen c.args.out.now).taken (g.L.Sink.seen c.args.log.now).taken (g.F.Folder.seen c.args.disk.now) c.requires.empty c.requires.tally c.requires.lines in
    steps_of _ _ _ NewRound _ _ begun.now.running

pub returns-in_default-clause-in_rounds : goal.returns-in_default-clause-in_rounds
returns-in_default-clause-in_rounds g c =
    let s = c.args.self.now in
    (starting (plain_of s.computation) s.checkpointer c.args.trace.now (g.O.Sink.seen c.args.out.now).taken (g.L.Sink.seen c.args.log.now).taken (g.F.Folder.seen c.args.disk.now) c.requires.empty c.requires.tally c.requires.lines).now.running.order

pub returns-in_default-clause-safe : goal.returns-in_default-clause-safe
returns-in_default-clause-safe g c =
    let s = c.args.self.now in
    (starting (plain_of s.computation) s.checkpointer c.args.trace.now (g.O.Sink.seen c.args.out.now).taken (g.L.Sink.seen c.args.log.now).taken (g.F.Folder.seen c.args.disk.now) c.requires.empty c.requires.tally c.requires.lines).now.safe

pub returns-clause-ends : goal.returns-clause-ends
returns-clause-ends g c = c.go_on.ensures.ended.ends

pub returns-clause-pace : goal.returns-clause-pace
returns-clause-pace g c = c.go_on.ensures.ended.pace

pub returns-clause-in_rounds : goal.returns-clause-in_rounds
returns-clause-in_rounds g c = c.go_on.ensures.ended.in_rounds

pub returns-clause-state : goal.returns-clause-state
returns-clause-state g c = c.go_on.ensures.ended.left

pub returns-clause-safe : goal.returns-clause-safe
returns-clause-safe g c = c.go_on.ensures.ended.safe
