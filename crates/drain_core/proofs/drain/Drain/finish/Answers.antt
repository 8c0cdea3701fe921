use Rattle.std.proofs.Common.{false, List, ◌++◌, ap, ap₂, sym, subst, ◌∙◌}
use Rattle.std.specs.Prelude.{All, IsSome}
use Rattle.std.proofs.lemmas.List.Elements.{All-map}
use Rattle.wire_net.specs.declared.cut_room.DirBytes.{DirBytes}
use Rattle.wire_net.specs.declared.cut_room.DirNotes.{DirNotes}
use Rattle.wire_net.specs.CutRooms.{Named, RoomView, names_of, HasRoom}
use Rattle.wire_net.specs.DrainedNets.{list_on, IsDrained, IsNamingLists, agents_of_lists}
use Rattle.wire_net.specs.Reserves.{Reserve}
use Rattle.wire_net.specs.Whereabouts.{whereabouts}
use Rattle.drain_core.specs.Drains.{Notes, IsNoted}
use Rattle.drain_core.specs.Openings.{lists_of, emptied}
use Rattle.drain_core.proofs.AllDirections.{for_each, one_of}
use Rattle.drain_core.proofs.DrainedLists.{drained_lists, noted_list, named_lists}
use Rattle.drain_core.proofs.Given.{given}
use Rattle.drain_core.proofs.KeptLists.{finish_keeps}
use Rattle.drain_core.proofs.GivenLists.{same_names}
use Rattle.wire_net.proofs.EachItem.{written_back}
use Rattle.drain_core.proofs.drain.Drain.finish.Goals as goal

pub returns-clause-lists : goal.returns-clause-lists
returns-clause-lists c =
    c.take.ensures.taken
    ∙ ap (λ (r : Reserve DirBytes). r.items) c.hand_out.ensures.lists
    ∙ ap₂ (λ (r : Reserve DirBytes) (l : Notes). r.items ++ lists_of c.args.net.now.channels l) c.self.invariant (c.deref_mut.ensures.value ∙ c.self.view_is)

pub returns-clause-given : goal.returns-clause-given
returns-clause-given c = given c.args.net.now c.args.self c.requires.fits c.requires.done

pub returns-clause-room : goal.returns-clause-room
returns-clause-room c =
    let back =
    written_back emptied c.self.inside.notes.len c.hand_out.new.all c.deref_mut.result.now c.self.inside.notes.items c.args.self c.hand_out.ensures.emptied c.deref_mut.ensures.value c.self.view_is
    c.deref_mut.ensures.len in
    c.from_parts-room.ensures
    ∙ ap (λ (l : Notes). let view : RoomView = record { lengths = names_of l; is_whole = false } in view) (c.from_vec.ensures ∙ back)
    ∙ ap (λ l. let view : RoomView = record { lengths = l; is_whole = false } in view) (same_names c.args.self)

pub returns-clause-drained : goal.returns-clause-drained
returns-clause-drained c =
    subst (IsDrained c.args.net.now.channels) (sym (returns-clause-lists c)) (drained_lists c.args.net.now c.args.self c.requires.fits (returns-clause-given c))

pub returns-clause-whole : goal.returns-clause-whole
returns-clause-whole c = λ d side there noted.
    subst (λ (lists : List DirBytes). IsSome (list_on d lists)) (sym (returns-clause-lists c)) (noted_list c.args.net.now.channels d c.args.self there noted)

pub returns-clause-names : goal.returns-clause-names
returns-clause-names c =
    subst (IsNamingLists c.from_parts-room.result.lengths) (sym (returns-clause-lists c))
    (subst (λ (lengths : List Named). IsNamingLists lengths (lists_of c.args.net.now.channels c.args.self)) (sym (ap (λ (view : RoomView). view.lengths) (returns-clause-room c)))
    (named_lists c.args.net.now c.args.self c.requires.fits (returns-clause-given c)))

pub returns-clause-kept : goal.returns-clause-kept
returns-clause-kept c = λ d side.
    ap (λ (lists : List DirBytes). whereabouts c.args.net.now (agents_of_lists lists) d) (returns-clause-lists c) ∙ finish_keeps c.args.net.now c.args.self d c.requires.fits (returns-clause-given c)

pub from_parts-room-requires : goal.from_parts-room-requires
from_parts-room-requires c =
    let back =
    written_back emptied c.self.inside.notes.len c.hand_out.new.all c.deref_mut.result.now c.self.inside.notes.items c.args.self c.hand_out.ensures.emptied c.deref_mut.ensures.value c.self.view_is
    c.deref_mut.ensures.len in
    subst (All HasRoom) (sym (c.from_vec.ensures ∙ back))
    (All-map HasRoom emptied c.args.self (for_each (λ (x : DirNotes). HasRoom (emptied x)) c.args.self (λ front rest x among.
    (one_of IsNoted front rest x (subst (All IsNoted) among c.requires.fits.noted)).empty)))
