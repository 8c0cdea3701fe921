use Rattle.std.proofs.Common.{◌≡◌, ◌<◌, ◌↔◌, ap, ap₂, sym, subst, ◌∙◌}
use Rattle.wire_net.specs.declared.agents.Stepped.{Stepped}
use Rattle.wire_net.specs.declared.agents.Stepped.TheVariants.{Again}
use Rattle.wire_channels.specs.Channels.{Channels, direction_at}
use Rattle.wire_net.specs.CutRooms.{names_of}
use Rattle.wire_channels.specs.Frames.{SameFrames}
use Rattle.wire_net.specs.Networks.{Network}
use Rattle.wire_net.specs.Whereabouts.{whereabouts}
use Rattle.drain_core.specs.Tasks.{note_after}
use Rattle.drain_core.specs.Drains.{Notes, Fits, named_agents, has_work, moves_any, answer_of, IsHeldUp, notes_after, channels_after}
use Rattle.drain_core.specs.Holding.{agents_of}
use Rattle.drain_core.specs.Work.{work_left}
use Rattle.drain_core.proofs.AgentSteps.{same_rooms}
use Rattle.drain_core.proofs.AllDirections.{fits_after}
use Rattle.drain_core.proofs.Bytes.{kept_bytes}
use Rattle.drain_core.proofs.HeldUp.{held_up}
use Rattle.drain_core.proofs.Idle.{unmoved, still_notes, still_net}
use Rattle.drain_core.proofs.OneStep.{with_channels}
use Rattle.drain_core.proofs.Staying.{frames_after, agents_after}
use Rattle.wire_net.proofs.EachItem.{written_back}
use Rattle.drain_core.proofs.WorkLaws.{moved_lowers}
use Rattle.drain_core.proofs.drain.Drain.step.Goals as goal

pub returns-clause-notes : goal.returns-clause-notes
returns-clause-notes c =
    written_back (λ x. note_after c.args.agent (direction_at c.args.net.now.channels x.dir) x) c.self.inside.notes.len c.step_all-moved.new.all c.deref_mut.result.now c.self.inside.notes.items c.args.self.now
    c.step_all-moved.ensures.notes c.deref_mut.ensures.value c.self.view_is c.deref_mut.ensures.len

seen : (c : goal.After-of) → c.deref_mut.result.now ≡ c.args.self.now
seen c = c.deref_mut.ensures.value ∙ c.self.view_is

pub returns-clause-net : goal.returns-clause-net
returns-clause-net c =
    c.step_all-moved.ensures.net ∙ ap (λ (l : Notes). with_channels c.args.net.now (channels_after c.args.agent l c.args.net.now.channels)) (seen c)

pub returns-clause-answer : goal.returns-clause-answer
returns-clause-answer c =
    c.of.ensures ∙ ap₂ answer_of c.has_work-has_work.ensures (c.step_all-moved.ensures.moved ∙ ap (moves_any c.args.agent c.args.net.now.channels) (seen c))

pub returns-clause-fits : goal.returns-clause-fits
returns-clause-fits c =
    subst (Fits c.step_all-moved.new.net.channels) (sym (returns-clause-notes c))
    (subst (λ (m : Channels). Fits m (notes_after c.args.agent c.args.net.now.channels c.args.self.now)) (sym (ap (λ (t : Network). t.channels) (returns-clause-net c)))
    (fits_after c.args.agent c.args.net.now.channels c.args.self.now c.requires))

pub returns-clause-agents : goal.returns-clause-agents
returns-clause-agents c = ap named_agents (returns-clause-notes c) ∙ agents_after c.args.agent c.args.net.now.channels c.args.self.now

pub returns-clause-frame : goal.returns-clause-frame
returns-clause-frame c =
    subst (λ (t : Network). SameFrames c.args.net.now.channels t.channels) (sym (returns-clause-net c)) (frames_after c.args.agent c.args.self.now c.args.net.now.channels)

pub returns-clause-rooms : goal.returns-clause-rooms
returns-clause-rooms c = ap names_of (returns-clause-notes c) ∙ same_rooms c.args.agent c.args.net.now.channels c.args.self.now

pub returns-clause-kept : goal.returns-clause-kept
returns-clause-kept c = λ d side.
    ap (λ (l : Notes). whereabouts c.step_all-moved.new.net (agents_of l) d) (returns-clause-notes c)
    ∙ ap (λ (t : Network). whereabouts t (agents_of (notes_after c.args.agent c.args.net.now.channels c.args.self.now)) d) (returns-clause-net c)
    ∙ kept_bytes c.args.agent c.args.net.now c.args.self.now d side c.requires

pub returns-clause-less : goal.returns-clause-less
returns-clause-less c = λ moved.
    subst (λ (l : Notes). work_left c.step_all-moved.new.net.channels l < work_left c.args.net.now.channels c.args.self.now) (sym (returns-clause-notes c))
    (subst (λ (t : Network). work_left t.channels (notes_after c.args.agent c.args.net.now.channels c.args.self.now) < work_left c.args.net.now.channels c.args.self.now) (sym (returns-clause-net c))
    (moved_lowers c.args.agent c.args.net.now.channels c.args.self.now (has_work c.args.agent c.args.self.now) c.requires (sym (returns-clause-answer c) ∙ moved)))

pub returns-clause-still : goal.returns-clause-still
returns-clause-still c = λ other.
    let none = unmoved c.args.agent c.args.net.now.channels c.args.self.now c.requires.noted (λ is. other (returns-clause-answer c ∙ is)) in (
      returns-clause-notes c ∙ still_notes c.args.agent c.args.net.now.channels c.args.self.now none,
      returns-clause-net c ∙ ap (with_channels c.args.net.now) (still_net c.args.agent c.args.net.now.channels c.args.self.now none),
    )

pub returns-clause-again : goal.returns-clause-again
returns-clause-again c =
    subst (λ (r : Stepped). (r ≡ Again) ↔ IsHeldUp c.args.agent c.args.net.now.channels c.args.self.now) (sym (returns-clause-answer c))
    (held_up c.args.agent c.args.net.now.channels c.args.self.now c.requires.noted)
