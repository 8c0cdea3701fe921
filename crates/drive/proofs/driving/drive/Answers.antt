use Rattle.std.proofs.Common.{refl, sym, ap, subst, ◌∙◌}
use Rattle.trace_log.specs.declared.requests.Schedule.{Schedule}
use Rattle.drive.specs.HandedOn.{plain_of}
use Rattle.drive.specs.RunEnds.{KernelAtEnd}
use Rattle.drive.specs.Driving.{schedule_of, state_of}
use Rattle.drive.proofs.Beginnings.{at_end, kept, ready, same_state, unbegun}
use Rattle.drive.proofs.driving.drive.Goals as goal

pub returns-in_default-clause-ends : goal.returns-in_default-clause-ends
returns-in_default-clause-ends g c =
    (unbegun (schedule_of c.args.every c.args.opening) (state_of c.args.wrapped c.args.guests) c.args.trace.now (g.O.Sink.seen c.args.out.now).taken (g.L.Sink.seen c.args.log.now).taken (g.F.Folder.seen c.args.disk.now) c.requires.empty).ends

pub returns-in_default-clause-pace : goal.returns-in_default-clause-pace
returns-in_default-clause-pace g c =
    (unbegun (schedule_of c.args.every c.args.opening) (state_of c.args.wrapped c.args.guests) c.args.trace.now (g.O.Sink.seen c.args.out.now).taken (g.L.Sink.seen c.args.log.now).taken (g.F.Folder.seen c.args.disk.now) c.requires.empty).pace

pub returns-in_default-clause-in_rounds : goal.returns-in_default-clause-in_rounds
returns-in_default-clause-in_rounds g c =
    (unbegun (schedule_of c.args.every c.args.opening) (state_of c.args.wrapped c.args.guests) c.args.trace.now (g.O.Sink.seen c.args.out.now).taken (g.L.Sink.seen c.args.log.now).taken (g.F.Folder.seen c.args.disk.now) c.requires.empty).in_rounds

pub returns-in_default-clause-state : goal.returns-in_default-clause-state
returns-in_default-clause-state g c =
    let state = state_of c.args.wrapped c.args.guests in
    let begun = unbegun (schedule_of c.args.every c.args.opening) state c.args.trace.now (g.O.Sink.seen c.args.out.now).taken (g.L.Sink.seen c.args.log.now).taken (g.F.Folder.seen c.args.disk.now) c.requires.empty in
    (state, (begun.left, refl))

pub returns-in_default-clause-safe : goal.returns-in_default-clause-safe
returns-in_default-clause-safe g c =
    (unbegun (schedule_of c.args.every c.args.opening) (state_of c.args.wrapped c.args.guests) c.args.trace.now (g.O.Sink.seen c.args.out.now).taken (g.L.Sink.seen c.args.log.now).taken (g.F.Folder.seen c.args.disk.now) c.requires.empty).safe

pub run-end-requires-clause-ready : goal.run-end-requires-clause-ready
run-end-requires-clause-ready g c =
    ready c.args.wrapped c.args.guests c.in-Ok.guests c.in-Ok.transfer c.in-Ok.ensures c.requires.can.valid c.requires.can.numbered

pub run-end-requires-clause-kept : goal.run-end-requires-clause-kept
run-end-requires-clause-kept g c some =
    kept c.new.result c.args.wrapped c.args.guests (schedule_of c.args.every c.args.opening) c.args.store (g.F.Folder.seen c.args.disk.now) c.new.ensures.tally c.new.ensures.store c.requires.can
    (λ none. some (ap (λ (schedule : Schedule). schedule.every) c.new.ensures.schedule ∙ none))

pub returns-clause-state : goal.returns-clause-state
returns-clause-state g c =
    let state = plain_of c.run-end.new.self.computation in
    subst (KernelAtEnd (state_of c.args.wrapped c.args.guests) c.run-end.new.trace.records) (sym c.into_kernel.ensures)
    (at_end c.run-end.result _ _ c.run-end.new.trace.records state (same_state c.args.wrapped c.args.guests c.in-Ok.guests c.in-Ok.transfer c.in-Ok.ensures) c.run-end.ensures.state)
