use Rattle.std.proofs.Common.{◌<◌, ◌≤◌, map as each, ap, sym, subst, ◌∙◌}
use Rattle.std.specs.Prelude.{All}
use Rattle.wire_net.specs.declared.cut_room.DirNotes.{DirNotes}
use Rattle.wire_net.specs.declared.cut_room.RoomParts.{RoomParts}
use Rattle.wire_channels.specs.declared.limits.TheConstants.{QUEUE_LIMIT}
use Rattle.wire_net.specs.CutRooms.{all_notes}
use Rattle.wire_net.specs.Whereabouts.{whereabouts}
use Rattle.drain_core.specs.Drains.{Notes, Fits, Apart, dirs_of, has_notes}
use Rattle.drain_core.specs.Holding.{agents_of}
use Rattle.drain_core.specs.Openings.{opened, begun}
use Rattle.drain_core.proofs.Beginning.{dirs_begun, fits_begun, kept_begun, noted_begun, new_sides, new_dirs}
use Rattle.wire_net.proofs.EachItem.{written_back}
use Rattle.drain_core.proofs.drain.Drain.begin.Goals as goal

pub open_all-requires-clause-apart : goal.open_all-requires-clause-apart
open_all-requires-clause-apart c =
    subst (λ (l : Notes). Apart (dirs_of l))
    (sym (c.deref_mut.ensures.value ∙ c.into_vec-notes.ensures ∙ ap (λ (parts : RoomParts). parts.notes) (c.into_parts-parts.ensures.whole c.requires.whole)))
    (subst Apart (sym (new_dirs c.args.room.lengths)) c.requires.naming.apart)

pub open_all-requires-clause-sides : goal.open_all-requires-clause-sides
open_all-requires-clause-sides c =
    subst (All (λ (x : DirNotes). x.dir.side < 2))
    (sym (c.deref_mut.ensures.value ∙ c.into_vec-notes.ensures ∙ ap (λ (parts : RoomParts). parts.notes) (c.into_parts-parts.ensures.whole c.requires.whole)))
    (new_sides c.args.room.lengths c.requires.naming.sides)

pub returns-clause-begun : goal.returns-clause-begun
returns-clause-begun c =
    written_back (opened c.args.net.now.channels c.args.ends.now) c.into_vec-notes.result.len c.open_all.new.all c.deref_mut.result.now c.into_vec-notes.result.items (all_notes c.args.room.lengths)
    c.open_all.ensures.opened c.deref_mut.ensures.value (c.into_vec-notes.ensures ∙ ap (λ (parts : RoomParts). parts.notes) (c.into_parts-parts.ensures.whole c.requires.whole)) c.deref_mut.ensures.len

few : (c : goal.After-notes-2-1) → All (λ (x : DirNotes). x.count ≤ QUEUE_LIMIT) (begun c.args.net.now.channels c.args.ends.now c.args.room.lengths)
few c =
    subst (All (λ (x : DirNotes). x.count ≤ QUEUE_LIMIT))
    (c.open_all.ensures.opened ∙ ap (λ (l : Notes). each (opened c.args.net.now.channels c.args.ends.now) l)
    (c.deref_mut.ensures.value ∙ c.into_vec-notes.ensures ∙ ap (λ (parts : RoomParts). parts.notes) (c.into_parts-parts.ensures.whole c.requires.whole)))
    c.open_all.ensures.few

pub returns-clause-fits : goal.returns-clause-fits
returns-clause-fits c =
    subst (Fits c.args.net.now.channels) (sym (returns-clause-begun c))
    (fits_begun c.args.net.now.channels c.args.ends.now c.args.room.lengths c.requires.ends c.requires.naming (few c))

pub returns-clause-named : goal.returns-clause-named
returns-clause-named c = ap dirs_of (returns-clause-begun c) ∙ dirs_begun c.args.net.now.channels c.args.ends.now c.args.room.lengths

pub returns-clause-there : goal.returns-clause-there
returns-clause-there c = λ d side there.
    ap (has_notes d) (returns-clause-begun c) ∙ noted_begun c.args.net.now.channels c.args.ends.now c.args.room.lengths d ∙ c.requires.naming.whole d side there

pub returns-clause-kept : goal.returns-clause-kept
returns-clause-kept c = λ d.
    ap (λ (l : Notes). whereabouts c.args.net.now (agents_of l) d) (returns-clause-begun c) ∙ kept_begun c.args.net.now c.args.ends.now c.args.room.lengths d c.requires.naming
