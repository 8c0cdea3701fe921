use Rattle.std.proofs.Common.{◌≡◌, ℕ, ◌+◌, List, [], length, Option}
use Rattle.plain_machine.specs.declared.plain.Plain.{Plain}
use Rattle.trace_log.specs.Requests.{CanBeHeld, Requested}
use Rattle.trace_log.specs.Turns.{Upcoming}
use Rattle.staged_cut.specs.HandedOn.{plain_of, IsReady}
use Rattle.edge_io.specs.Sunk.{Sunk, sunk}
use Rattle.checkpointer.specs.UnderWay.{IsUnderWay}
use Rattle.checkpointer.proofs.checkpointer.Checkpointer.checkpoint.Given as goal

abbrev pub invariant-loop-arrival : goal.invariant-loop-arrival
invariant-loop-arrival g l = record {
  same : l.self ≡ l.initial.self;
  same_log : l.log ≡ l.initial.log;
  same_disk : l.disk ≡ l.initial.disk;
  ready : IsReady l.computation;
  held : CanBeHeld (plain_of l.computation);
  guests : l.computation.guests ≡ l.initial.computation.guests;
  under : (g' : Plain) (upcoming : Upcoming) (sink : Sunk) (had : Option (List ℕ)) (first : _)
      → (before : IsUnderWay l.initial.self.schedule g' (plain_of l.initial.computation) upcoming l.initial.self l.initial.trace sink (sunk had (g.L.Sink.seen l.initial.log).taken) (g.F.Folder.seen first) (g.F.Folder.seen l.initial.disk))
      → before.running.requests.phase ≡ Requested []
      → (now : IsUnderWay l.initial.self.schedule g' (plain_of l.computation) upcoming l.initial.self l.trace sink (sunk had (g.L.Sink.seen l.initial.log).taken) (g.F.Folder.seen first) (g.F.Folder.seen l.initial.disk))
      × (now.running.requests.phase ≡ Requested []);
  size : length l.trace.records + l.trace.room ≡ length l.initial.trace.records + l.initial.trace.room;
  left : l.trace.room + l._arrival ≡ l.initial.trace.room;
}
