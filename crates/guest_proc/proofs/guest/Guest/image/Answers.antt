use Rattle.std.proofs.Common.{◌≤◌, sym, ap, subst, ◌∙◌}
use Rattle.std.specs.FinMap as map
use Rattle.plain_process.specs.declared.user_part.UserPart.{UserPart}
use Rattle.plain_process.specs.Valid.{IsUser}
use Rattle.thread_group.specs.Groups.{joined}
use Rattle.guest_proc.specs.Guests.{GuestPart}
use Rattle.guest_proc.proofs.Images.{part_of}
use Rattle.image_process.proofs.FittingParts.{image_fits}
use Rattle.guest_proc.proofs.guest.Guest.image.Goals as goal

pub returns-clause-user : goal.returns-clause-user
returns-clause-user c =
    part_of _ (joined c.self.inside.memory c.self.inside.group) c.in_ok-page_images.ensures.entries c.in_ok-thread_images.ensures c.break_start.ensures c.break_end.ensures
    c.in_ok-actions.ensures c.in_ok-waiters.ensures
    ∙ ap (λ (g : GuestPart). g.user) c.self.view_is

pub returns-clause-fits : goal.returns-clause-fits
returns-clause-fits c is some =
    let seen = ap (λ (g : GuestPart). g.user) (sym c.self.view_is) in
    image_fits _ (joined c.self.inside.memory c.self.inside.group) (record {
      pages = c.in_ok-page_images.ensures.entries;
      threads = c.in_ok-thread_images.ensures;
      break_start = c.break_start.ensures;
      break_end = c.break_end.ensures;
      actions = c.in_ok-actions.ensures;
      waiters = c.in_ok-waiters.ensures;
    }) (subst IsUser seen is) (subst (λ (u : UserPart). 1 ≤ map.len u.threads) seen some)
