use Rattle.std.proofs.Common.{◌≡◌, sym, ap, subst, ◌∙◌}
use Rattle.std.specs.Prelude.{Some, Result, Err}
use Rattle.checkpointer.specs.HandedOn.{Stop}
use Rattle.checkpointer.specs.HandedOn.{plain_of}
use Rattle.edge_io.specs.Sunk.{sunk}
use Rattle.drive.specs.declared.rounds.Come.TheVariants as has_come
use Rattle.drive.specs.declared.rounds.Made.{Made}
use Rattle.drive.specs.declared.rounds.Made.TheVariants as made_was
use Rattle.drive.specs.Scheduling.{CanTake, Spoils, chosen}
use Rattle.drive.proofs.Taking.{Taken, worked, failed, arrived}
use Rattle.drive.proofs.rounds.Rounds.take.Goals as goal

stop_is : {stop other : Stop} → ◌≡◌ {A = Result Made Stop} (Err stop) (Err other) → stop ≡ other
stop_is is = cc

pub returns-in-Err-clause-failed : goal.returns-in-Err-clause-failed
returns-in-Err-clause-failed g c = λ is.
    let now = plain_of c.args.computation.now in
    let next = plain_of c.work.new.self in
    let console = sunk (g.O.Sink.seen c.args.out.now).taken (g.O.Sink.seen c.work.new.out).taken in
    subst (λ choice. Spoils now next (chosen c.args.self.now now (Some choice)) c.args.trace.now c.work.new.trace console) (sym c.in-Turn.is)
    (failed c.args.self.now now next c.in-Turn.turn c.args.trace.now c.work.new.trace console (subst (CanTake now) c.in-Turn.is c.requires.can) (c.work.ensures.failed (c.in-Err.is ∙ ap Err (stop_is is))))

pub returns-in-Arrival-clause-ok : goal.returns-in-Arrival-clause-ok
returns-in-Arrival-clause-ok g c =
    let now = plain_of c.args.computation.now in
    let next = plain_of c.arrive.new.self in
    let taken = (g.O.Sink.seen c.args.out.now).taken in
    let first = subst (CanTake now) c.in-Arrival.is c.requires.can in
    subst (λ choice. Taken c.args.self.now now next (record { come = has_come.Arrived; threads = c.args.self.now.threads; processes = c.args.self.now.processes }) choice made_was.Arrival c.args.trace.now c.arrive.new.trace (sunk taken taken)) (sym c.in-Arrival.is)
    (arrived c.args.self.now now next c.in-Arrival.dir c.args.trace.now c.arrive.new.trace (sunk taken taken) (c.arrive.ensures.rest _ first) (c.arrive.ensures.took taken))

pub returns-in-Ok-clause-ok : goal.returns-in-Ok-clause-ok
returns-in-Ok-clause-ok g c =
    let now = plain_of c.args.computation.now in
    let next = plain_of c.work.new.self in
    let console = sunk (g.O.Sink.seen c.args.out.now).taken (g.O.Sink.seen c.work.new.out).taken in
    subst (λ choice. Taken c.args.self.now now next (record { come = has_come.Worked c.in-Turn.turn c.in-Ok.did; threads = c.args.self.now.threads; processes = c.args.self.now.processes }) choice made_was.Work c.args.trace.now c.work.new.trace console) (sym c.in-Turn.is)
    (worked c.args.self.now now next c.in-Turn.turn c.args.trace.now c.work.new.trace console c.in-Ok.did (subst (CanTake now) c.in-Turn.is c.requires.can) c.in-Ok.ensures.ok)
