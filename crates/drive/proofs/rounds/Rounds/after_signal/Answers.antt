use Rattle.std.proofs.Common.{true, false, sym, ap, ◌∙◌, refl}
use Rattle.std.specs.Prelude.{is_some}
use Rattle.checkpointer.specs.HandedOn.{plain_of}
use Rattle.drive.specs.Scheduling.{place_in}
use Rattle.drive.proofs.NextTurns.{stays}
use Rattle.drive.proofs.rounds.Rounds.after_signal.Goals as goal

pub returns-in_default-clause-due : goal.returns-in_default-clause-due
returns-in_default-clause-due c =
    c.next_turn.ensures.due (place_in c.args.self.now c.args.turn) refl refl refl
    ∙ sym (stays c.args.self.now (plain_of c.args.computation.now) c.args.turn false false (ap is_some (sym c.in_default.is) ∙ c.ready_at.ensures.goes))

pub returns-clause-due : goal.returns-clause-due
returns-clause-due c =
    sym (stays c.args.self.now (plain_of c.args.computation.now) c.args.turn false true (ap is_some (sym c.in-Some.is) ∙ c.ready_at.ensures.goes))
