use Rattle.std.proofs.Common.{ap, sym, ◌∙◌}
use Rattle.std.specs.Prelude.{is_some}
use Rattle.plain_process.specs.Buffers.{lent}
use Rattle.thread_group.proofs.OfProcessMemory.ChildPlaces.{child_place}
use Rattle.guest_proc.proofs.guest.Guest.settle.Goals as goal

pub put_number-requires : goal.put_number-requires
put_number-requires c =
    child_place c.args.self.now.user.memory c.in-Clone.flags c.in-Clone.stack c.in-Clone.parent_tid c.in-Clone.tls c.in-Clone.child_tid
    (ap (λ q. is_some (lent c.args.self.now.user.memory q)) (sym c.in-Clone.is) ∙ c.requires.lent)
