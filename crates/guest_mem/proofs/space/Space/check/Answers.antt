use Rattle.std.proofs.Common.{◌≡◌, ◌+◌, ◌%◌, ◌≤◌, ◌<◌, refl, sym, ap, ◌∙◌, arith, cond, ◌&&◌}
use Rattle.std.specs.Prelude.{Some, None}
use Rattle.plain_process.specs.Memory.{Memory, bytes_at}
use Rattle.guest_pages.specs.declared.mem_fault.MemFault.TheVariants.{Rights}
use Rattle.guest_pages.specs.Refusals.{is_mapped, refusal}
use Rattle.guest_pages.proofs.Checks.{checked_more, refusal-missing, refusal-past, refusal-mapped}
use Rattle.guest_mem.proofs.space.Space.check.Goals as goal

pub returns-then-count-address-clause-refused : goal.returns-then-count-address-clause-refused
returns-then-count-address-clause-refused c =
    sym (ap (λ (m : Memory). refusal m c.args.right c.args.address c.args.count) (sym c.self.view_is)
    ∙ refusal-past c.self.inside.frames c.args.right c.args.address c.args.count c.self.invariant (omega arith) c.if-count-address.true)

pub loop-done-init : goal.loop-done-init
unfolding is_mapped bytes_at
loop-done-init c = record { within = omega arith; mapped = refl; allowed = refl }

pub returns-in_default-clause-refused : goal.returns-in_default-clause-refused
returns-in_default-clause-refused c =
    sym (refusal-missing c.args.self.now c.args.right c.args.address c.args.count c.loop-done.done c.loop-done-test.true (sym c.in_default.ensures))

pub loop-done-preserved : goal.loop-done-preserved
loop-done-preserved c =
    let j = c.room_in_page-done.result in
    let some : 0 < j = omega (arith, c.room_in_page-done.ensures) in
    let inside : (c.args.address + c.loop-done.done) % 4096 + j ≤ 4096 = omega (arith, c.room_in_page-done.ensures) in
    let within : c.loop-done.done + j ≤ c.args.count = omega (arith, c.room_in_page-done.ensures) in
    let more =
    checked_more c.args.self.now c.args.right c.args.address c.loop-done.done j c.in-Some.frame.now c.loop-done.has_right
    c.loop-done.invariant.mapped c.loop-done.invariant.allowed c.in-Some.ensures some inside in
    record { within = within; mapped = more.0; allowed = ap (λ b. c.loop-done.has_right && b) c.allows-has_right.ensures ∙ more.1 }

pub returns-then-has_right-clause-refused : goal.returns-then-has_right-clause-refused
returns-then-has_right-clause-refused c =
    let same : c.loop-done.done ≡ c.args.count = omega (arith, c.loop-done.invariant.within) in
    sym (refusal-mapped c.args.self.now c.args.right c.args.address c.args.count c.loop-done.done c.loop-done.has_right same c.loop-done.invariant.mapped c.loop-done.invariant.allowed
    ∙ ap (λ b. cond b None (Some Rights)) c.if-has_right.true)

pub returns-else-has_right-clause-refused : goal.returns-else-has_right-clause-refused
returns-else-has_right-clause-refused c =
    let same : c.loop-done.done ≡ c.args.count = omega (arith, c.loop-done.invariant.within) in
    sym (refusal-mapped c.args.self.now c.args.right c.args.address c.args.count c.loop-done.done c.loop-done.has_right same c.loop-done.invariant.mapped c.loop-done.invariant.allowed
    ∙ ap (λ b. cond b None (Some Rights)) c.if-has_right.false)
