use Rattle.std.proofs.Common.{not, sym, ap, ◌∙◌}
use Rattle.std.specs.Option.{option_copied}
use Rattle.plain_process.specs.declared.user_part.UserPart.{UserPart}
use Rattle.plain_process.specs.Steps.{user_step}
use Rattle.plain_machine.specs.Records.{is_unready}
use Rattle.guest_proc.specs.Guests.{ran_at}
use Rattle.computation.specs.Computations.{plain_of}
use Rattle.computation.proofs.Effects.{missing_part, nobody, same_part}
use Rattle.computation.proofs.Threads.{goes_is}
use Rattle.computation.proofs.computation.Computation.goes_on_at.Goals as goal

pub unreachable-requires : goal.unreachable-requires
unreachable-requires c =
    nobody _ c.requires.user (missing_part c.args.self.now.guests c.args.p (sym (ap option_copied c.in_default.is) ∙ c.get.ensures)) c.requires.there

pub is_idle-requires : goal.is_idle-requires
is_idle-requires c =
    c.requires.stands
    ∙ ap (λ (u : UserPart). ran_at (user_step u c.args.t.0)) (sym (same_part c.args.self.now.guests c.args.p c.in-Some.guest.now c.requires.user (sym (ap option_copied c.in-Some.is) ∙ c.get.ensures) c.requires.there))

pub returns : goal.returns
returns c =
    let g = plain_of c.args.self.now in
    let same = same_part c.args.self.now.guests c.args.p c.in-Some.guest.now c.requires.user (sym (ap option_copied c.in-Some.is) ∙ c.get.ensures) c.requires.there in
    ap not (c.is_idle.ensures g.users ∙ ap (λ (u : UserPart). is_unready g c.args.p c.args.t.0 u (user_step u c.args.t.0)) same)
    ∙ goes_is g c.args.p c.args.t.0 c.requires.user c.requires.there c.requires.thread
