use Rattle.std.proofs.Common.{true, false, sym, ap, subst, ◌∙◌, refl}
use Rattle.std.specs.Prelude.{is_some}
use Rattle.checkpointer.specs.HandedOn.{plain_of, first_signal, IsDid}
use Rattle.drive.specs.Scheduling.{place_in}
use Rattle.drive.proofs.NextTurns.{served, delivered}
use Rattle.drive.proofs.rounds.Rounds.after.Goals as goal

pub returns-in-Served-clause-due : goal.returns-in-Served-clause-due
returns-in-Served-clause-due c = λ r did.
    c.next_turn.ensures.due (place_in c.args.self.now c.args.turn) refl refl refl
    ∙ sym (served c.args.self.now (plain_of c.args.computation.now) c.args.turn r (subst (λ d. IsDid d r) c.in-Served.is did))

pub returns-in-Ran-clause-due : goal.returns-in-Ran-clause-due
returns-in-Ran-clause-due c = λ r did. c.after_quantum.ensures.due r (subst (λ d. IsDid d r) c.in-Ran.is did)

pub returns-in-Deliver-clause-due : goal.returns-in-Deliver-clause-due
returns-in-Deliver-clause-due c = λ r did.
    c.after_signal.ensures.due
    ∙ sym (delivered c.args.self.now (plain_of c.args.computation.now) c.args.turn r (subst (λ d. IsDid d r) c.in-Delivered.is did) true (sym (ap (λ next. is_some (first_signal next)) c.in-Deliver.is)))

pub returns-in-GoOn-clause-due : goal.returns-in-GoOn-clause-due
returns-in-GoOn-clause-due c = λ r did.
    c.next_turn-in-GoOn.ensures.due (place_in c.args.self.now c.args.turn) refl refl refl
    ∙ sym (delivered c.args.self.now (plain_of c.args.computation.now) c.args.turn r (subst (λ d. IsDid d r) c.in-Delivered.is did) false (sym (ap (λ next. is_some (first_signal next)) c.in-GoOn.is)))
