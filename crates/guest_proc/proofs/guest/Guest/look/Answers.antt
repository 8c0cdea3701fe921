use Rattle.std.proofs.Common.{◌≡◌, ◌∙◌, ap, sym, subst}
use Rattle.std.specs.Prelude.{Some, option_map}
use Rattle.std.specs.FinMap as map
use Rattle.plain_process.specs.Steps.{effect_at, user_step, waits}
use Rattle.thread_group.specs.Groups.{joined}
use Rattle.guest_proc.specs.Guests.{GuestPart, ran_at}
use Rattle.guest_proc.specs.Looking.{ran_by}
use Rattle.guest_proc.proofs.GuestLemmas.{waits_on}
use Rattle.guest_proc.proofs.LookLemmas.{looks}
use Rattle.guest_proc.proofs.guest.Guest.look.Goals as goal

pub returns-then-waits : goal.returns-then-waits
returns-then-waits c = sym (ap ran_at (waits_on c.args.self.now.user c.args.t.0 c.requires (sym c.if-waits.ensures)))

pub returns : goal.returns
returns c =
    looks (joined c.self.inside.memory c.self.inside.group) c.args.t.0 c.regs_of-regs.result c.look_at.result
    (subst (λ (v : GuestPart). option_map (λ thread. thread.regs) (map.get v.user.threads c.args.t.0) ≡ Some c.regs_of-regs.result) (sym c.self.view_is) c.regs_of-regs.ensures)
    (ap (λ (v : GuestPart). waits v.user c.args.t.0) c.self.view_is ∙ sym c.if-waits.ensures)
    (c.look_at.ensures ∙ ap (λ pages. ran_by (effect_at c.regs_of-regs.result pages) c.regs_of-regs.result) c.ram.ensures)
    ∙ ap (λ (v : GuestPart). ran_at (user_step v.user c.args.t.0)) c.self.view_is
