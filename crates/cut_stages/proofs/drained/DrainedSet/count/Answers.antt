use Rattle.std.proofs.Common.{List, sym, ap, subst, ◌∙◌}
use Rattle.wire_net.specs.declared.cut_room.DirBytes.{DirBytes}
use Rattle.cut_stages.specs.Resumptions.{Held, AreShort, count_on, left_of}
use Rattle.cut_stages.proofs.Filling.{are_short, counted}
use Rattle.cut_stages.proofs.drained.DrainedSet.count.Goals as goal

pub count_in-requires : goal.count_in-requires
count_in-requires c =
    let base = c.self.inside.base in
    subst AreShort (sym c.as_slice.ensures)
    (are_short base.system base.next_id base.stood.kernel base.owners c.self.inside.ends.items
    c.self.inside.drained.lists c.self.inside.room c.self.invariant)

pub returns : goal.returns
returns c =
    let base = c.self.inside.base in
    c.count_in.ensures ∙ ap (λ (lists : List DirBytes). count_on lists c.args.d) c.as_slice.ensures
    ∙ counted base.system base.next_id base.stood.kernel base.owners c.self.inside.ends.items
    c.self.inside.drained.lists c.self.inside.room c.self.invariant c.args.d c.requires
    ∙ ap (λ (v : Held). left_of v.kernel c.args.d) c.self.view_is
