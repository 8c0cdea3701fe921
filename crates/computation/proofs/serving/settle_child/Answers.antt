use Rattle.std.proofs.Common.{sym, ap, ◌∙◌}
use Rattle.std.specs.FinMap as map
use Rattle.views.proofs.Outcomes.{on_some}
use Rattle.plain_process.specs.Threads.{child_of}
use Rattle.plain_process.specs.Twins.{twin_of}
use Rattle.guest_proc.specs.Guests.{GuestPart}
use Rattle.computation.specs.Parts.{Guests}
use Rattle.computation.proofs.Effects.{same_guest, nobody}
use Rattle.computation.proofs.Twins.{not_forked, not_born, born, part_is, twin_there}
use Rattle.computation.proofs.serving.settle_child.Goals as goal

pub returns-then-not-forks : goal.returns-then-not-forks
returns-then-not-forks c before guest t has none is =
    not_forked before guest t c.args.request.now c.args.next c.args.guests.now c.args.is_born c.requires.fork (sym c.forks.ensures ∙ c.if-not-forks.true) is

pub returns-then-not-is_born : goal.returns-then-not-is_born
returns-then-not-is_born c before guest t has none is =
    c.remove.ensures.removed ∙ not_born before guest t c.args.request.now c.args.next c.args.guests.now c.args.is_born c.if-not-is_born.true (sym c.forks.ensures ∙ c.if-not-forks.false) none is

pub returns-in_default : goal.returns-in_default
returns-in_default c before guest t has none is =
    absurd (nobody _ _ (sym c.in_default.ensures.value) (ap (λ (m : Guests). map.get m c.args.next) is ∙ twin_there before guest t c.args.request.now c.args.next (sym c.forks.ensures ∙ c.if-not-forks.false)))

pub returns : goal.returns
returns c before guest t has none is =
    let q = c.args.request.now in
    let next = c.args.next in
    let fork = sym c.forks.ensures ∙ c.if-not-forks.false in
    let twin : GuestPart = record { pid = guest.pid; user = twin_of guest.user t; spare = 0 } in
    let same = same_guest c.args.guests.now next c.in-Some.child.now twin (sym c.in-Some.ensures.value) (ap (λ (m : Guests). map.get m next) is ∙ twin_there before guest t q next fork) in
    on_some c.in-Some.is (c.get_mut.follows.holds c.settle.new.self)
    ∙ born before guest t q next c.args.guests.now c.args.is_born c.settle.new.self c.if-not-is_born.false fork is
    (part_is c.settle.new.self next (child_of guest.user t next.0 q) 0 c.settle.ensures.pid
    (c.settle.ensures.user guest.user t has (ap (λ (g : GuestPart). g.user) same)) (c.settle.ensures.spare ∙ ap (λ (g : GuestPart). g.spare) same))
