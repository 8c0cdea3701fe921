use Rattle.std.proofs.Common.{◌≡◌, List, ap, ap₂, sym, subst, ◌∙◌}
use Rattle.std.specs.Prelude.{All}
use Rattle.wire_net.specs.declared.cut_room.DirBytes.{DirBytes}
use Rattle.wire_net.specs.CutRooms.{names_of}
use Rattle.wire_net.specs.Whereabouts.{whereabouts}
use Rattle.refill_core.specs.Beginnings.{begun}
use Rattle.refill_core.specs.Holding.{agents_of}
use Rattle.refill_core.specs.Refills.{Notes, Apart, Fits, dirs_of, has_notes}
use Rattle.refill_core.proofs.Begun.{begun_dirs, noted_begun, fits_begun, held_begun, kept_begun}
use Rattle.refill_core.proofs.Steps.{written_back}
use Rattle.refill_core.proofs.Turns.{dirs_named}
use Rattle.refill_core.proofs.refill.Refill.begin.Goals as goal

notes_lent : (c : goal.After-deref_mut-2) → c.deref_mut.result.now ≡ c.into_parts-parts.result.notes
notes_lent c = c.deref_mut.ensures.value ∙ c.into_vec-notes.ensures

pub begin_all-requires-clause-apart : goal.begin_all-requires-clause-apart
begin_all-requires-clause-apart c =
    subst Apart (sym (dirs_named c.deref_mut.result.now c.args.room.lengths (ap names_of (notes_lent c) ∙ c.into_parts-parts.ensures.names))) c.requires.naming.apart

pub returns-clause-begun : goal.returns-clause-begun
returns-clause-begun c =
    written_back c.into_vec-notes.result.len c.begin_all.new.all c.deref_mut.result.now c.into_vec-notes.result.items c.begin_all.auto.all c.deref_mut.ensures.value c.deref_mut.ensures.len
    ∙ c.begin_all.ensures
    ∙ ap₂ (λ (l : List DirBytes) (n : Notes). begun l c.args.ends.now (names_of n)) (c.deref_mut-2.ensures.value ∙ c.into_vec-lists.ensures) (c.deref_mut.ensures.value ∙ c.into_vec-notes.ensures)
    ∙ ap (begun c.args.drained.lists c.args.ends.now) c.into_parts-parts.ensures.names

pub returns-clause-named : goal.returns-clause-named
returns-clause-named c = ap dirs_of (returns-clause-begun c) ∙ begun_dirs c.args.drained.lists c.args.ends.now c.args.room.lengths

pub returns-clause-there : goal.returns-clause-there
returns-clause-there c = λ m has d side there.
    ap (has_notes d) (returns-clause-begun c) ∙ noted_begun c.args.drained.lists c.args.ends.now c.args.room.lengths d ∙ c.requires.naming.whole d (has d side there)

pub returns-clause-fits : goal.returns-clause-fits
returns-clause-fits c = λ m for drained has.
    subst (Fits m) (sym (returns-clause-begun c)) (fits_begun m c.args.ends.now c.args.room.lengths c.args.drained.lists for drained has c.requires.naming)

pub returns-clause-held : goal.returns-clause-held
returns-clause-held c = λ t for drained has d.
    ap (λ (l : Notes). whereabouts t (agents_of l) d) (returns-clause-begun c)
    ∙ held_begun t c.args.ends.now c.args.room.lengths c.args.drained.lists d for drained has c.requires.naming

pub returns-clause-kept : goal.returns-clause-kept
returns-clause-kept c = λ t for drained has.
    subst (λ (l : Notes). All (λ list. whereabouts t (agents_of l) list.dir ≡ list.bytes) c.args.drained.lists) (sym (returns-clause-begun c))
    (kept_begun t c.args.ends.now c.args.room.lengths c.args.drained.lists for drained has c.requires.naming)
