use Rattle.std.proofs.Common.{sym, ap, ◌∙◌}
use Rattle.guest_proc.specs.Guests.{with_user}
use Rattle.guest_proc.proofs.Delivering.{has_room, enters}
use Rattle.guest_proc.proofs.guest.Guest.deliver.Goals as goal

pub enter-requires : goal.enter-requires
enter-requires c = has_room c.args.self.now.user c.args.t.0 c.args.s.0 c.args.not_ready (sym (c.in-Entered.ensures c.args.not_ready))

pub returns-in-Entered-clause-part : goal.returns-in-Entered-clause-part
returns-in-Entered-clause-part c =
    c.enter.ensures ∙ ap (with_user c.args.self.now) (enters c.args.self.now.user c.args.t.0 c.args.s.0 c.args.not_ready (sym (c.in-Entered.ensures c.args.not_ready)))
