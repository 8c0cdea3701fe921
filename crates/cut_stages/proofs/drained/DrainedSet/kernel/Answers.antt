use Rattle.std.proofs.Common.{List, Some, sym, ap, subst, ◌∙◌}
use Rattle.std.proofs.lemmas.Result.{IfOk-weaker}
use Rattle.wire_net.specs.declared.cut_room.DirBytes.{DirBytes}
use Rattle.seen_kernel.specs.Seen.{IsToldBy, all_in}
use Rattle.cut_stages.specs.Resumptions.{Held}
use Rattle.cut_stages.proofs.Telling.{kept_by, set_told}
use Rattle.cut_stages.proofs.drained.DrainedSet.kernel.Goals as goal

pub returns : goal.returns
returns c =
    let base = c.self.inside.base in
    let lists = c.self.inside.drained.lists in
    IfOk-weaker c.kernel_of.result _ _ (λ kernel made.
    made (Some (kept_by base.owners lists)) base.stood.kernel
    (subst (λ (told : List DirBytes). IsToldBy base.system (Some (kept_by base.owners lists)) base.owners told
    base.stood.kernel) (sym c.as_slice.ensures)
    (set_told base.system base.next_id base.stood.kernel base.owners c.self.inside.ends.items lists
    c.self.inside.room c.self.invariant))
    c.self.invariant.cut.wrapped.next
    ∙ ap (λ (v : Held). all_in v.kernel) c.self.view_is) c.kernel_of.ensures
