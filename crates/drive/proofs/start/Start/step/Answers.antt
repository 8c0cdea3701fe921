use Rattle.std.proofs.Common.{◌≡◌, ◌+◌, length, refl, ap, ◌∙◌, arith}
use Rattle.std.specs.Prelude.{Err}
use Rattle.drive.specs.HandedOn.{plain_of}
use Rattle.edge_io.specs.Sunk.{sunk}
use Rattle.drive.specs.Scheduling.{is_made_work}
use Rattle.checkpointer.specs.declared.checkpointer.Checkpointer.{Checkpointer}
use Rattle.checkpointer.proofs.Results.{OnOk-map}
use Rattle.checkpointer.proofs.Served.{kept_same}
use Rattle.drive.proofs.Stepping.{arrives, breaks_off, each_err, each_ok, goes_on, size, stops, still_told, works}
use Rattle.drive.proofs.start.Start.step.Goals as goal

pub serve-requires-clause-kept : goal.serve-requires-clause-kept
serve-requires-clause-kept g c = λ some.
    kept_same c.args.self.now.checkpointer c.count.new.self _ (c.requires.kept (λ none. some (ap (λ (x : Checkpointer). x.schedule.every) c.count.ensures ∙ none))) (ap (λ (x : Checkpointer). x.store) c.count.ensures) (ap (λ (x : Checkpointer). x.tally.greatest) c.count.ensures)

pub returns-in-Ok-Arrival-clause-ok : goal.returns-in-Ok-Arrival-clause-ok
returns-in-Ok-Arrival-clause-ok g c = λ schedule start had told first before.
    arrives schedule start c.args.self.now c.args.rounds.now c.take.new.self c.args.choice c.args.trace.now c.take.new.trace had (g.O.Sink.seen c.args.out.now).taken (g.O.Sink.seen c.take.new.out).taken (sunk told (g.L.Sink.seen c.args.log.now).taken) (g.F.Folder.seen first) (g.F.Folder.seen c.args.disk.now) before
    (plain_of c.take.new.computation) c.in-Ok-Arrival.field-0 c.in-Ok-Arrival.ensures.ok (record { computation = c.take.new.computation; checkpointer = c.args.self.now.checkpointer }) refl refl (ap is_made_work c.in-Ok-Arrival.field-0-is)

pub returns-in-Ok-Work-clause-ok : goal.returns-in-Ok-Work-clause-ok
returns-in-Ok-Work-clause-ok g c = OnOk-map c.serve.result (λ serves. λ schedule start had told first before.
    let sink = sunk had (g.O.Sink.seen c.take.new.out).taken in
    let serving = works schedule start c.args.self.now c.args.rounds.now c.take.new.self c.args.choice c.args.trace.now c.take.new.trace had (g.O.Sink.seen c.args.out.now).taken (g.O.Sink.seen c.take.new.out).taken (sunk told (g.L.Sink.seen c.args.log.now).taken) (g.F.Folder.seen first) (g.F.Folder.seen c.args.disk.now) before
    (plain_of c.take.new.computation) c.in-Ok-Work.field-0 c.in-Ok-Work.ensures.ok c.count.new.self c.count.ensures (ap is_made_work c.in-Ok-Work.field-0-is) in
    goes_on schedule start (plain_of c.take.new.computation) (plain_of c.serve.new.computation) c.take.new.self c.count.new.self c.serve.new.self c.take.new.trace c.serve.new.trace sink told (g.L.Sink.seen c.args.log.now).taken (g.L.Sink.seen c.serve.new.log).taken (g.F.Folder.seen first) (g.F.Folder.seen c.args.disk.now) (g.F.Folder.seen c.serve.new.disk) serving
    (record { computation = c.serve.new.computation; checkpointer = c.serve.new.self }) refl refl (λ upcoming under waits. serves start upcoming sink told first under waits)) c.serve.ensures.ok

pub returns-in-Ok-Work-clause-told : goal.returns-in-Ok-Work-clause-told
returns-in-Ok-Work-clause-told g c =
    each_ok c.serve.result (still_told c.take.new.self.come c.take.new.computation c.serve.new.computation c.serve.ensures.guests c.in-Ok-Work.ensures.told)

pub returns-in-Ok-Work-clause-ended : goal.returns-in-Ok-Work-clause-ended
returns-in-Ok-Work-clause-ended g c = each_err c.serve.result (λ fails stop. λ schedule start room had told first before whole.
    let sink = sunk had (g.O.Sink.seen c.take.new.out).taken in
    let made = c.in-Ok-Work.ensures.ok in
    let serving = works schedule start c.args.self.now c.args.rounds.now c.take.new.self c.args.choice c.args.trace.now c.take.new.trace had (g.O.Sink.seen c.args.out.now).taken (g.O.Sink.seen c.take.new.out).taken (sunk told (g.L.Sink.seen c.args.log.now).taken) (g.F.Folder.seen first) (g.F.Folder.seen c.args.disk.now) before
    (plain_of c.take.new.computation) c.in-Ok-Work.field-0 made c.count.new.self c.count.ensures (ap is_made_work c.in-Ok-Work.field-0-is) in
    let mid = size schedule start c.args.self.now c.args.rounds.now c.take.new.self c.args.choice c.args.trace.now c.take.new.trace had (g.O.Sink.seen c.args.out.now).taken (g.O.Sink.seen c.take.new.out).taken (sunk told (g.L.Sink.seen c.args.log.now).taken) (g.F.Folder.seen first) (g.F.Folder.seen c.args.disk.now) before
    (plain_of c.take.new.computation) c.in-Ok-Work.field-0 made room c.requires.room whole in
    let end : length c.serve.new.trace.records + c.serve.new.trace.room ≡ room = c.serve.ensures.size ∙ mid in
    breaks_off schedule start (plain_of c.take.new.computation) (plain_of c.serve.new.computation) c.take.new.self c.count.new.self c.serve.new.self c.take.new.trace c.serve.new.trace sink told (g.L.Sink.seen c.args.log.now).taken (g.L.Sink.seen c.serve.new.log).taken (g.F.Folder.seen first) (g.F.Folder.seen c.args.disk.now) (g.F.Folder.seen c.serve.new.disk) serving
    stop room (omega arith) (λ upcoming under waits. fails start upcoming sink told first under waits)) c.serve.ensures.err

pub returns-in-Err-clause-ended : goal.returns-in-Err-clause-ended
returns-in-Err-clause-ended g c = λ schedule start room had told first before whole.
    stops schedule start c.args.self.now c.args.rounds.now c.take.new.self c.args.choice c.args.trace.now c.take.new.trace had (g.O.Sink.seen c.args.out.now).taken (g.O.Sink.seen c.take.new.out).taken (sunk told (g.L.Sink.seen c.args.log.now).taken) (g.F.Folder.seen first) (g.F.Folder.seen c.args.disk.now) before
    (plain_of c.take.new.computation) c.in-Err.stop room (λ is. c.take.ensures.failed (c.in-Err.is ∙ ap Err is)) (λ is. c.take.ensures.memory (c.in-Err.is ∙ ap Err is))
    (λ is. c.take.ensures.same (c.in-Err.is ∙ ap Err is)) c.requires.room whole
