use Rattle.std.proofs.Common.{subst, ◌∙◌}
use Rattle.checkpointer.specs.HandedOn.{plain_of}
use Rattle.drive.specs.Scheduling.{IsComeSo, chosen}
use Rattle.drive.proofs.NextTurns.{worked_due, new_due, arrived_due}
use Rattle.drive.proofs.rounds.Rounds.choose.Goals as goal

pub returns-in-NewRound-clause-due : goal.returns-in-NewRound-clause-due
returns-in-NewRound-clause-due c = λ upcoming come.
    let g = plain_of c.args.computation.now in
    c.round.ensures.due ∙ new_due c.args.self.now g upcoming (subst (λ so. IsComeSo so c.args.self.now g upcoming) c.in-NewRound.is come)

pub returns-in-Arrived-clause-due : goal.returns-in-Arrived-clause-due
returns-in-Arrived-clause-due c = λ upcoming come.
    let g = plain_of c.args.computation.now in
    c.round-in-Arrived.ensures.due ∙ arrived_due c.args.self.now g upcoming (subst (λ so. IsComeSo so c.args.self.now g upcoming) c.in-Arrived.is come)

pub returns-in-Worked-clause-due : goal.returns-in-Worked-clause-due
returns-in-Worked-clause-due c = λ upcoming come.
    let g = plain_of c.args.computation.now in
    worked_due c.args.self.now g c.in-Worked.turn c.in-Worked.did upcoming (subst (λ so. IsComeSo so c.args.self.now g upcoming) c.in-Worked.is come)
    (chosen c.after.new.self g c.after.result) c.after.ensures.due
