use Rattle.std.proofs.Common.{◌≡◌, ◌↔◌, ap₂, ap, sym, subst, ◌∙◌}
use Rattle.wire_net.specs.declared.agents.Stepped.{Stepped}
use Rattle.wire_net.specs.declared.agents.Stepped.TheVariants.{Again}
use Rattle.refill_core.specs.Refills.{Notes, dirs_of}
use Rattle.refill_core.specs.Work.{moved_any, answer_of, IsHeldUp}
use Rattle.refill_core.specs.Stepping.{state}
use Rattle.refill_core.proofs.HeldUp.{held_up}
use Rattle.refill_core.proofs.Staying.{step_frames, step_agents}
use Rattle.refill_core.proofs.Steps.{step_after, step_fits, step_kept, step_less, step_still}
use Rattle.refill_core.proofs.refill.Refill.step.Goals as goal

seen : (c : goal.After-of) → c.deref_mut.result.now ≡ c.args.self.now
seen c = c.deref_mut.ensures.value ∙ c.self.view_is

pub returns-clause-after : goal.returns-clause-after
returns-clause-after c =
    step_after c.args.agent c.self.inside.notes.len c.step_all-moved.new.all c.deref_mut.result.now c.self.inside.notes.items c.args.self.now c.args.net.now c.step_all-moved.new.net
    c.step_all-moved.ensures.after c.step_all-moved.auto.all c.deref_mut.ensures.value c.self.view_is c.deref_mut.ensures.len

pub returns-clause-answer : goal.returns-clause-answer
returns-clause-answer c =
    c.of.ensures ∙ ap₂ answer_of c.has_work-has_work.ensures (c.step_all-moved.ensures.moved ∙ ap (λ (l : Notes). moved_any c.args.agent (dirs_of l) (state l c.args.net.now)) (seen c))

pub returns-clause-again : goal.returns-clause-again
returns-clause-again c =
    subst (λ (r : Stepped). (r ≡ Again) ↔ IsHeldUp c.args.agent c.args.net.now.channels c.args.self.now) (sym (returns-clause-answer c))
    (held_up c.args.agent (state c.args.self.now c.args.net.now) c.requires)

pub returns-clause-fits : goal.returns-clause-fits
returns-clause-fits c = step_fits c.args.agent _ c.args.self.now c.args.net.now c.step_all-moved.new.net c.requires (returns-clause-after c)

pub returns-clause-agents : goal.returns-clause-agents
returns-clause-agents c = step_agents c.args.agent _ c.args.self.now c.args.net.now c.step_all-moved.new.net c.requires (returns-clause-after c)

pub returns-clause-frame : goal.returns-clause-frame
returns-clause-frame c = step_frames c.args.agent _ c.args.self.now c.args.net.now c.step_all-moved.new.net (returns-clause-after c)

pub returns-clause-kept : goal.returns-clause-kept
returns-clause-kept c = λ d side. step_kept c.args.agent _ c.args.self.now c.args.net.now c.step_all-moved.new.net d side c.requires (returns-clause-after c)

pub returns-clause-less : goal.returns-clause-less
returns-clause-less c = λ moved. step_less c.args.agent _ c.args.self.now c.args.net.now c.step_all-moved.new.net c.requires (returns-clause-after c) (sym (returns-clause-answer c) ∙ moved)

pub returns-clause-still : goal.returns-clause-still
returns-clause-still c = λ other.
    step_still c.args.agent _ c.args.self.now c.args.net.now c.step_all-moved.new.net c.requires (returns-clause-after c) c.step_all-moved.ensures.net (λ is. other (returns-clause-answer c ∙ is))
