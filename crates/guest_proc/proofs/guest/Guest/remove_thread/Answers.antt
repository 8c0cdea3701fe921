use Rattle.std.proofs.Common.{ap, sym, ◌∙◌}
use Rattle.plain_process.specs.Threads.{after_clearing}
use Rattle.guest_proc.specs.Guests.{GuestPart, with_user}
use Rattle.guest_proc.proofs.ThreadEnds.{ends_nothing, ends_thread}
use Rattle.guest_proc.proofs.guest.Guest.remove_thread.Goals as goal

pub returns-in_default : goal.returns-in_default
returns-in_default c = ap (with_user c.args.self.now) (ends_nothing c.args.self.now.user c.args.t.0 (sym c.clear_tid.ensures ∙ c.in_default.is))

pub returns : goal.returns
returns c =
    c.clear_word.ensures
    ∙ ap (λ (g : GuestPart). with_user g (after_clearing g.user c.in-Some.address)) c.forget_thread.ensures
    ∙ ap (with_user c.args.self.now) (ends_thread c.args.self.now.user c.args.t.0 c.in-Some.address (sym c.clear_tid.ensures ∙ c.in-Some.is))
