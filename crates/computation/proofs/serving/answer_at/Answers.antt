use Rattle.std.proofs.Common.{sym, ap, subst, ◌∙◌, ◌≤◌}
use Rattle.std.specs.Prelude.{IfSome}
use Rattle.std.specs.FinMap as map
use Rattle.views.proofs.Outcomes.{on_some}
use Rattle.guest_proc.specs.Guests.{GuestPart}
use Rattle.plain_process.specs.Buffers.{filled_spans}
use Rattle.plain_process.specs.Put.{CanTake, added_thread, put}
use Rattle.plain_process.specs.Valid.{CanAdd}
use Rattle.plain_process.specs.declared.user_part.UserPart.{UserPart}
use Rattle.computation.proofs.Effects.{same_guest, nobody}
use Rattle.computation.proofs.serving.answer_at.Goals as goal

pub unreachable-requires : goal.unreachable-requires
unreachable-requires c = nobody _ c.requires.guest (sym c.in_default.ensures.value) c.requires.there

pub answer-requires-clause-writable : goal.answer-requires-clause-writable
answer-requires-clause-writable c =
    let same = same_guest c.args.guests.now c.args.p c.requires.guest c.in-Some.guest.now c.requires.there (sym c.in-Some.ensures.value) in
    subst (λ (g : GuestPart). CanTake g.user.memory (filled_spans g.user.memory c.args.request.now) c.args.transfer.now) same c.requires.writable

pub answer-requires-clause-added : goal.answer-requires-clause-added
answer-requires-clause-added c =
    subst (λ (g : GuestPart). CanAdd g.user c.args.request.now c.args.reply) (same_guest c.args.guests.now c.args.p c.requires.guest c.in-Some.guest.now c.requires.there (sym c.in-Some.ensures.value)) c.requires.added

pub answer-requires-clause-spare : goal.answer-requires-clause-spare
answer-requires-clause-spare c =
    subst (λ (g : GuestPart). IfSome (added_thread c.args.request.now c.args.reply) (λ _. 1 ≤ g.spare)) (same_guest c.args.guests.now c.args.p c.requires.guest c.in-Some.guest.now c.requires.there (sym c.in-Some.ensures.value)) c.requires.spare

pub returns : goal.returns
returns c guest there =
    let same = same_guest c.args.guests.now c.args.p c.in-Some.guest.now guest (sym c.in-Some.ensures.value) there in
    let number = c.answer.ensures.pid ∙ ap (λ (g : GuestPart). g.pid) same in
    let part = c.answer.ensures.user ∙ ap (λ (g : GuestPart). put g.user c.args.t.0 c.args.request.now c.args.reply c.args.transfer.now) same in (
      c.answer.new.self.spare,
      on_some c.in-Some.is (c.get_mut.follows.holds c.answer.new.self)
          ∙ ap (λ p. map.insert c.args.guests.now c.args.p (let g : GuestPart = record { pid = p; user = c.answer.new.self.user; spare = c.answer.new.self.spare } in g)) number
          ∙ ap (λ (u : UserPart). map.insert c.args.guests.now c.args.p (let g : GuestPart = record { pid = guest.pid; user = u; spare = c.answer.new.self.spare } in g)) part,
    )
