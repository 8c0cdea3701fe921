use Rattle.std.proofs.Common.{sym, ap, ◌∙◌, map as each}
use Rattle.std.specs.Prelude.{option_map}
use Rattle.plain_tables.specs.Tables.{pid}
use Rattle.checkpointer.specs.HandedOn.{plain_of}
use Rattle.trace_log.specs.Turns.{first_thread, first_turn}
use Rattle.drive.specs.Scheduling.{place_in}
use Rattle.drive.proofs.FirstTurns.{no_process, process_found, process_passed}
use Rattle.drive.proofs.rounds.Rounds.first_turn.Goals as goal

pub returns-in-Some-first_thread-clause-turn : goal.returns-in-Some-first_thread-clause-turn
returns-in-Some-first_thread-clause-turn c =
    let g = plain_of c.args.computation.now in
    sym (c.loop-number.invariant.0 ∙ ap (λ numbers. first_turn g (each pid numbers)) c.in-Some.ensures.some
    ∙ process_found g (pid c.in-Some.number) (each pid c.pop.new.self) (place_in c.first_thread.new.self c.in-Some-first_thread.turn)
    (sym (c.first_thread.ensures.turn ∙ ap (first_thread g (pid c.in-Some.number) (each pid c.pop.new.self)) c.queue_threads.ensures)
    ∙ ap (option_map (place_in c.first_thread.new.self)) c.in-Some-first_thread.is))

pub loop-number-preserved : goal.loop-number-preserved
loop-number-preserved c =
    let g = plain_of c.args.computation.now in (
      c.loop-number.invariant.0 ∙ ap (λ numbers. first_turn g (each pid numbers)) c.in-Some.ensures.some
          ∙ process_passed g (pid c.in-Some.number) (each pid c.pop.new.self) (sym (c.first_thread.ensures.turn ∙ ap (first_thread g (pid c.in-Some.number) (each pid c.pop.new.self)) c.queue_threads.ensures)
          ∙ ap (option_map (place_in c.first_thread.new.self)) c.in_default-first_thread.is)
          ∙ ap (λ numbers. first_turn g (each pid numbers)) (sym c.first_thread.ensures.processes),
      c.first_thread.ensures.come ∙ c.loop-number.invariant.1,
    )

pub returns-clause-turn : goal.returns-clause-turn
returns-clause-turn c =
    let g = plain_of c.args.computation.now in
    sym (c.loop-number.invariant.0 ∙ ap (λ numbers. first_turn g (each pid numbers)) (c.pop.ensures.none c.in_default.is).0 ∙ no_process g)
