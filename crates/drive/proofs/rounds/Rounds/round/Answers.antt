use Rattle.std.proofs.Common.{sym, ap, ◌∙◌}
use Rattle.std.specs.Prelude.{option_map}
use Rattle.views.proofs.MapLaws.{true_false}
use Rattle.checkpointer.specs.HandedOn.{plain_of}
use Rattle.trace_log.specs.Turns.{InTurn}
use Rattle.drive.specs.Scheduling.{place_in}
use Rattle.drive.proofs.NextTurns.{nobody, arrival, turn}
use Rattle.drive.proofs.rounds.Rounds.round.Goals as goal

pub returns-then-is_empty-clause-due : goal.returns-then-is_empty-clause-due
returns-then-is_empty-clause-due c = nobody (plain_of c.args.computation.now) c.queue_processes.new.queue c.queue_processes.ensures (c.is_empty.ensures.0 c.if-is_empty.true)

pub returns-in-Some-clause-due : goal.returns-in-Some-clause-due
returns-in-Some-clause-due c =
    arrival (plain_of c.args.computation.now) c.queue_processes.new.queue c.queue_processes.ensures (λ none. true_false (sym (c.is_empty.ensures.1 none) ∙ c.if-is_empty.false))
    c.in-Some.dir c.in-Some.ensures.some.0 c.in-Some.ensures.some.1

pub returns-clause-due : goal.returns-clause-due
returns-clause-due c =
    ap (option_map InTurn) (ap (option_map (place_in c.first_turn.new.self)) (sym c.in_ok-turn.was) ∙ c.first_turn.ensures.turn)
    ∙ sym (turn (plain_of c.args.computation.now) c.queue_processes.new.queue c.queue_processes.ensures (λ none. true_false (sym (c.is_empty.ensures.1 none) ∙ c.if-is_empty.false))
    (c.first_missing.ensures.none c.in_default.is))
