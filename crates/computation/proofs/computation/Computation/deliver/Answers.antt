use Rattle.std.proofs.Common.{None, sym, ap, subst, ◌∙◌}
use Rattle.std.specs.FinMap as map
use Rattle.views.proofs.Outcomes.{on_some}
use Rattle.call_table.specs.declared.delivery.Delivered.{Delivered}
use Rattle.guest_proc.specs.Guests.{GuestPart}
use Rattle.plain_machine.specs.declared.kernel.PlainKernel.{PlainKernel}
use Rattle.plain_machine.specs.Kernel.{is_live}
use Rattle.plain_machine.proofs.KernelThreads.{user_lives, known_threads}
use Rattle.computation.specs.Computations.{plain_of}
use Rattle.computation.specs.Parts.{kernel_found, kernel_after, guests_after, delivery_at}
use Rattle.computation.proofs.Delivered.{found_lives, state_is, numbered_after}
use Rattle.computation.proofs.Numbered.{Numbered}
use Rattle.computation.proofs.States.{seen}
use Rattle.computation.proofs.Taking.{quiet_takes, takes_valid}
use Rattle.computation.proofs.Effects.{missing_part, found_part, due_is_there, due_has_thread, due_is_signal, deliver_goes}
use Rattle.computation.proofs.computation.Computation.deliver.Goals as goal

pub unreachable-requires : goal.unreachable-requires
unreachable-requires c = due_is_there (plain_of c.args.self.now) c.args.p c.args.t c.args.s c.requires.due (missing_part c.args.self.now.guests c.args.p c.in_default.ensures.value)

pub deliver_to-delivered-requires-clause-alive : goal.deliver_to-delivered-requires-clause-alive
deliver_to-delivered-requires-clause-alive c =
    user_lives (plain_of c.args.self.now) c.args.p c.in-Some.guest.now.user c.requires.ready.valid
    (found_part c.args.self.now.guests c.args.p c.in-Some.guest.now c.in-Some.ensures.value)

pub deliver_to-delivered-requires-clause-thread : goal.deliver_to-delivered-requires-clause-thread
deliver_to-delivered-requires-clause-thread c =
    due_has_thread (plain_of c.args.self.now) c.args.p c.args.t c.args.s c.in-Some.guest.now.user (found_part c.args.self.now.guests c.args.p c.in-Some.guest.now c.in-Some.ensures.value) c.requires.due

pub deliver_to-delivered-requires-clause-known : goal.deliver_to-delivered-requires-clause-known
deliver_to-delivered-requires-clause-known c =
    sym (known_threads (plain_of c.args.self.now) c.args.p c.in-Some.guest.now.user c.requires.ready.valid
    (found_part c.args.self.now.guests c.args.p c.in-Some.guest.now c.in-Some.ensures.value) c.args.t.0)
    ∙ deliver_to-delivered-requires-clause-thread c

pub end_if_killed-requires : goal.end_if_killed-requires
end_if_killed-requires c =
    let m = c.args.self.now in
    let guest = c.in-Some.guest.now in
    ap (λ (k : PlainKernel). is_live k c.args.p) c.deliver_to-delivered.ensures.kernel
    ∙ found_lives m.kernel m.guests c.args.p c.args.t.0 c.args.s.0 guest c.requires.ready.valid
    (found_part m.guests c.args.p guest c.in-Some.ensures.value)

pub append-requires-clause-spellable : goal.append-requires-clause-spellable
append-requires-clause-spellable c =
    due_is_signal (plain_of c.args.self.now) c.args.p c.args.t c.args.s c.in-Some.guest.now.user (found_part c.args.self.now.guests c.args.p c.in-Some.guest.now c.in-Some.ensures.value) c.requires.due

pub returns-clause-took : goal.returns-clause-took
returns-clause-took c taken =
    let m = c.args.self.now in
    let g = plain_of m in
    let guest = c.in-Some.guest.now in
    let there = found_part m.guests c.args.p guest c.in-Some.ensures.value in
    let d = delivery_at m.kernel g.users c.args.p c.args.t.0 c.args.s.0 guest.user in
    let moved = c.deliver_to-delivered.new.guest in
    let told = c.deliver_to-delivered.ensures.told g.users in
    let put = on_some c.in-Some.is (c.get_mut.follows.holds moved) in
    let kernel = c.end_if_killed.ensures.kernel ∙ ap (λ (k : PlainKernel). kernel_after k c.args.p c.deliver_to-delivered.result) c.deliver_to-delivered.ensures.kernel
    ∙ ap (λ (x : Delivered). kernel_after (kernel_found m.kernel c.args.p c.args.t.0 c.args.s.0 guest.user) c.args.p x) told in
    let guests = c.end_if_killed.ensures.guests ∙ ap (λ left. guests_after left c.args.p c.deliver_to-delivered.result) put
    ∙ ap (λ (x : Delivered). guests_after (map.insert m.guests c.args.p moved) c.args.p x) told in
    quiet_takes g _ _ _ _ _ taken (deliver_goes g c.args.p c.args.t c.args.s guest.user there c.requires.due)
    (ap (λ (k : PlainKernel). seen k c.end_if_killed.new.self.guests) kernel ∙ ap (seen _) guests
    ∙ state_is m.kernel m.guests c.args.p c.args.t.0 c.args.s.0 guest c.requires.ready.valid there moved d (ap (λ (x : GuestPart). x.user) (c.deliver_to-delivered.ensures.guest g.users)))
    c.append.ensures

pub returns-clause-ready : goal.returns-clause-ready
returns-clause-ready c =
    let m = c.args.self.now in
    let g = plain_of m in
    let guest = c.in-Some.guest.now in
    let d = delivery_at m.kernel g.users c.args.p c.args.t.0 c.args.s.0 guest.user in
    let moved = c.deliver_to-delivered.new.guest in
    let put = on_some c.in-Some.is (c.get_mut.follows.holds moved) in
    let guests = c.end_if_killed.ensures.guests ∙ ap (λ left. guests_after left c.args.p c.deliver_to-delivered.result) put
    ∙ ap (λ (x : Delivered). guests_after (map.insert m.guests c.args.p moved) c.args.p x) (c.deliver_to-delivered.ensures.told g.users) in
    record {
      valid = takes_valid _ _ _ _ _ _ c.requires.ready.valid (returns-clause-took c None);
      numbered = subst Numbered (sym guests)
          (numbered_after m.guests c.args.p moved d c.requires.ready.numbered
          (ap (λ (x : GuestPart). x.pid) (c.deliver_to-delivered.ensures.guest g.users) ∙ c.requires.ready.numbered c.args.p guest (sym c.in-Some.ensures.value)));
    }
