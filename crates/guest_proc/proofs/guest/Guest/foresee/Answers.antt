use Rattle.std.proofs.Common.{sym}
use Rattle.guest_proc.proofs.Delivering.{foreseen}
use Rattle.guest_proc.proofs.guest.Guest.foresee.Goals as goal

pub returns : goal.returns
returns c not_ready =
    sym
    (foreseen c.args.self.now.user c.args.t.0 c.args.s.0 c.context_count-count.result c.mask-mask.result c.action_on-action.result c.traps_with.result not_ready c.decided.result c.mask-mask.ensures
    c.context_count-count.ensures c.action_on-action.ensures c.traps_with.ensures c.decided.ensures)
