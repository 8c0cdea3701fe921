use Rattle.std.proofs.Common.{◌<◌, List, ℕ, sym, subst, ◌∙◌}
use Rattle.std.specs.FinMap as map
use Rattle.plain_process.specs.declared.memory.Frame.{Frame}
use Rattle.plain_process.specs.Memory.{Memory}
use Rattle.guest_pages.specs.Pages.{IsSpace}
use Rattle.guest_pages.proofs.Writes.{IsSpace-new_page}
use Rattle.guest_mem.proofs.space.Space.insert_zeroed.Goals as goal

pub invariant_of-self-2 : goal.invariant_of-self-2
invariant_of-self-2 c =
    let room = subst (λ (m : Memory). map.len m < 2048) (sym c.self.view_is) c.requires.room in
    subst IsSpace (sym c.in_ok-insert.ensures.ok) (IsSpace-new_page c.self.inside.frames c.args.page _ c.self.invariant c.requires.number room)

pub returns-clause-ok : goal.returns-clause-ok
returns-clause-ok c =
    let frame : List ℕ → Frame = λ page. record { rights = c.args.rights; page = page } in
    c.in_ok-insert.ensures.ok ∙ (λ i. map.insert (c.self.view_is i) c.args.page (frame (c.in_ok-zeroed.ensures i)))
