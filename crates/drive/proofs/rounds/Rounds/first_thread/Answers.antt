use Rattle.std.proofs.Common.{sym, ap, ◌∙◌, map as each}
use Rattle.std.specs.Prelude.{option_map}
use Rattle.plain_tables.specs.Tables.{pid}
use Rattle.checkpointer.specs.HandedOn.{plain_of}
use Rattle.trace_log.specs.Turns.{first_thread}
use Rattle.drive.specs.Scheduling.{place_of}
use Rattle.drive.proofs.FirstTurns.{no_thread, thread_found, thread_passed}
use Rattle.drive.proofs.rounds.Rounds.first_thread.Goals as goal

pub returns-in-Some-turn_of-clause-turn : goal.returns-in-Some-turn_of-clause-turn
returns-in-Some-turn_of-clause-turn c =
    let g = plain_of c.args.computation.now in
    let processes = c.loop-number.self.processes in
    let later = c.pop.new.self in
    sym (c.loop-number.invariant.0 ∙ ap (first_thread g c.args.p (each pid processes)) c.in-Some.ensures.some
    ∙ thread_found g c.args.p (each pid processes) c.in-Some.number later (place_of c.in-Some-turn_of.turn later processes) (sym (c.in-Some-turn_of.ensures.turn later processes)))

pub loop-number-preserved : goal.loop-number-preserved
loop-number-preserved c =
    let g = plain_of c.args.computation.now in
    let processes = c.loop-number.self.processes in
    let later = c.pop.new.self in (
      c.loop-number.invariant.0 ∙ ap (first_thread g c.args.p (each pid processes)) c.in-Some.ensures.some
          ∙ thread_passed g c.args.p (each pid processes) c.in-Some.number later (sym (c.turn_of.ensures.turn later processes) ∙ ap (option_map (λ turn. place_of turn later processes)) c.in_default-turn_of.is),
      c.loop-number.invariant.1,
      c.loop-number.invariant.2,
    )

pub returns-clause-turn : goal.returns-clause-turn
returns-clause-turn c =
    let g = plain_of c.args.computation.now in
    let processes = c.loop-number.self.processes in
    sym (c.loop-number.invariant.0 ∙ ap (first_thread g c.args.p (each pid processes)) (c.pop.ensures.none c.in_default.is).0 ∙ no_thread g c.args.p (each pid processes))
