use Rattle.std.proofs.Common.{ap, sym, ◌∙◌}
use Rattle.wire_net.specs.declared.cut_room.DirBytes.{DirBytes}
use Rattle.wire_net.specs.declared.cut_room.DirNotes.{DirNotes}
use Rattle.refill_core.proofs.Turns.{others_kept}
use Rattle.refill_core.proofs.beginning.begin_on.Goals as goal

pub returns-clause-others : goal.returns-clause-others
returns-clause-others c = λ k d differ.
    others_kept c.args.lists.now k c.in-Some.place c.index-lists-place-2.result c.give_back.new.list d c.clear.new.notes.dir c.in-Some.ensures.within c.index-lists-place-2.is c.in-Some.ensures.found
    (ap (λ (l : DirBytes). l.dir) c.give_back.ensures.list ∙ ap (λ (l : DirBytes). l.dir) (sym c.index-lists-place-2.is)) (λ same. differ (same ∙ ap (λ (x : DirNotes). x.dir) c.clear.ensures))
