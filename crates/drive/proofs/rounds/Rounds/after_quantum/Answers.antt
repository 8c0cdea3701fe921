use Rattle.std.proofs.Common.{true, false, sym, ap, ◌∙◌, refl}
use Rattle.checkpointer.specs.HandedOn.{plain_of}
use Rattle.plain_process.specs.Steps.{user_step}
use Rattle.trace_log.specs.Turns.{stands_in}
use Rattle.drive.specs.Scheduling.{place_in}
use Rattle.drive.proofs.NextTurns.{ran, stays}
use Rattle.drive.proofs.rounds.Rounds.after_quantum.Goals as goal

pub returns-then-not-has_stopped-clause-due : goal.returns-then-not-has_stopped-clause-due
returns-then-not-has_stopped-clause-due c = λ r did.
    let g = plain_of c.args.computation.now in
    let at = c.requires.stands in
    let stops = sym c.if-not-has_stopped.true ∙ c.has_stopped.ensures (user_step at.user c.args.turn.thread.0) at.stands ∙ sym (ap (λ found. stands_in found c.args.turn.thread.0) at.there) in
    c.next_turn.ensures.due (place_in c.args.self.now c.args.turn) refl refl refl
    ∙ sym (ran c.args.self.now g c.args.turn c.args.ran r did false stops)

pub returns-then-not-goes_on_at-clause-due : goal.returns-then-not-goes_on_at-clause-due
returns-then-not-goes_on_at-clause-due c = λ r did.
    let g = plain_of c.args.computation.now in
    let at = c.requires.stands in
    let stops = sym c.if-not-has_stopped.false ∙ c.has_stopped.ensures (user_step at.user c.args.turn.thread.0) at.stands ∙ sym (ap (λ found. stands_in found c.args.turn.thread.0) at.there) in
    let waits = sym c.if-not-goes_on_at.true ∙ c.goes_on_at.ensures in
    c.next_turn-then-not-goes_on_at.ensures.due (place_in c.args.self.now c.args.turn) refl refl refl
    ∙ sym (ran c.args.self.now g c.args.turn c.args.ran r did true stops ∙ stays c.args.self.now g c.args.turn true false waits)

pub returns-clause-due : goal.returns-clause-due
returns-clause-due c = λ r did.
    let g = plain_of c.args.computation.now in
    let at = c.requires.stands in
    let stops = sym c.if-not-has_stopped.false ∙ c.has_stopped.ensures (user_step at.user c.args.turn.thread.0) at.stands ∙ sym (ap (λ found. stands_in found c.args.turn.thread.0) at.there) in
    let goes = sym c.if-not-goes_on_at.false ∙ c.goes_on_at.ensures in
    sym (ran c.args.self.now g c.args.turn c.args.ran r did true stops ∙ stays c.args.self.now g c.args.turn true true goes)

pub returns-clause-can : goal.returns-clause-can
returns-clause-can c =
    let at = c.requires.stands in
    let stops = sym c.if-not-has_stopped.false ∙ c.has_stopped.ensures (user_step at.user c.args.turn.thread.0) at.stands ∙ sym (ap (λ found. stands_in found c.args.turn.thread.0) at.there) in
    record {
      able = record { stands = at; goes = sym c.goes_on_at.ensures ∙ c.if-not-goes_on_at.false };
      stopped = λ run. sym stops;
    }
