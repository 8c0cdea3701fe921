use Rattle.std.proofs.Common.{◌≡◌, ◌≢◌, ◌+◌, ◌≤◌, length, None}
use Rattle.drive.specs.HandedOn.{plain_of, IsReady}
use Rattle.edge_io.specs.Sunk.{sunk}
use Rattle.drive.specs.Scheduling.{IsToldOf}
use Rattle.checkpointer.specs.Keeping.{IsKept}
use Rattle.drive.specs.Going.{IsGoing}
use Rattle.drive.proofs.start.Start.go_on.Given as goal

abbrev pub invariant-loop-record : goal.invariant-loop-record
invariant-loop-record g l = record {
  going : IsGoing l.initial.self.checkpointer.schedule (plain_of l.initial.self.computation) l.self l.rounds l.trace
      (sunk (g.O.Sink.seen l.initial.out).taken (g.O.Sink.seen l.out).taken) (sunk (g.L.Sink.seen l.initial.log).taken (g.L.Sink.seen l.log).taken) (g.F.Folder.seen l.initial.disk) (g.F.Folder.seen l.disk);
  ready : IsReady l.self.computation;
  told : IsToldOf l.rounds.come (plain_of l.self.computation).users;
  scheduled : l.self.checkpointer.schedule ≡ l.initial.self.checkpointer.schedule;
  kept : l.self.checkpointer.schedule.every ≢ None → IsKept l.self.checkpointer (g.F.Folder.seen l.disk);
  untouched : l.initial.self.checkpointer.schedule.every ≡ None → l.disk ≡ l.initial.disk;
  size : length l.trace.records + l.trace.room ≡ l.room;
  left : l.trace.room + l._record ≤ l.room;
  later : (g.O.Sink.seen l.initial.out).faults ≤ (g.O.Sink.seen l.out).faults;
  log_later : (g.L.Sink.seen l.initial.log).faults ≤ (g.L.Sink.seen l.log).faults;
}
