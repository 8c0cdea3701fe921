use Rattle.std.proofs.Common.{◌≡◌, true, false, refl, sym, ◌∙◌, subst, arith}
use Rattle.std.specs.Prelude.{◌==◌, not, nat_lt}
use Rattle.std.specs.FinMap as map
use Rattle.std.proofs.lemmas.Bool.Decides.{nat_tests}
use Rattle.fd_tables.specs.Slots.{slot}
use Rattle.plain_machine.specs.Kernels.{IsKernel}
use Rattle.plain_machine.specs.Rows.Descriptors.{is_cloexec_at_most}
use Rattle.host_descriptors.proofs.HeldTold.{no_slot, some_slot, there_by}
use Rattle.host_descriptors.proofs.Closes.{dup3_is, is_valid_move, same_move, flags_refused}
use Rattle.host_tables.specs.Systems.{given_of}
use Rattle.wrap_names.specs.Wrapping.{StandsAfter, kernel_left}
use Rattle.wrap_ends.proofs.Rows.{dup3_bad, dup3_invalid, dup3_beyond}
use Rattle.wrap_ends.proofs.close_serving.dup3.Goals as goal

pub returns-in_default : goal.returns-in_default
returns-in_default c k next_id p x w paired whole =
    let s = c.args.system.now in
    dup3_bad s next_id k w p c.args.who paired c.args.fd c.args.to c.args.flags x
    (no_slot (map.get s.kernel.book.descriptors (slot c.args.who c.args.fd))
    (sym c.get.ensures.at ∙ c.in_default.is))

pub returns-then-to-fd : goal.returns-then-to-fd
returns-then-to-fd c k next_id p x w paired whole =
    let s = c.args.system.now in
    dup3_invalid s next_id k w p c.args.who paired c.args.fd c.args.to c.args.flags x
    (there_by s.kernel c.args.who c.args.fd c.whole.ensures _ refl
    (some_slot _ _ (sym c.get.ensures.at ∙ c.in-Some.is)))
    (same_move c.args.to c.args.fd (is_cloexec_at_most c.args.flags) c.if-to-fd.true)

pub returns-then-not-is_cloexec_at_most : goal.returns-then-not-is_cloexec_at_most
returns-then-not-is_cloexec_at_most c k next_id p x w paired whole =
    let s = c.args.system.now in
    dup3_invalid s next_id k w p c.args.who paired c.args.fd c.args.to c.args.flags x
    (there_by s.kernel c.args.who c.args.fd c.whole.ensures _ refl
    (some_slot _ _ (sym c.get.ensures.at ∙ c.in-Some.is)))
    (flags_refused (not (c.args.to == c.args.fd)) (is_cloexec_at_most c.args.flags)
    (sym c.is_cloexec_at_most.ensures ∙ c.if-not-is_cloexec_at_most.true))

pub returns-then-to-ge-DESCRIPTOR_LIMIT : goal.returns-then-to-ge-DESCRIPTOR_LIMIT
returns-then-to-ge-DESCRIPTOR_LIMIT c k next_id p x w paired whole =
    let s = c.args.system.now in
    let far = c.if-to-ge-DESCRIPTOR_LIMIT.true in
    let past : nat_lt c.args.to 256 ≡ false = grind (arith, nat_tests, far) in
    dup3_beyond s next_id k w p c.args.who paired c.args.fd c.args.to c.args.flags x
    (there_by s.kernel c.args.who c.args.fd c.whole.ensures _ refl
    (some_slot _ _ (sym c.get.ensures.at ∙ c.in-Some.is)))
    (is_valid_move c.args.to c.args.fd (is_cloexec_at_most c.args.flags) c.if-to-fd.false
    (sym c.is_cloexec_at_most.ensures ∙ c.if-not-is_cloexec_at_most.false)) past

pub returns : goal.returns
returns c k next_id p x w paired whole =
    let s = c.args.system.now in
    let near = c.if-to-ge-DESCRIPTOR_LIMIT.false in
    let low : nat_lt c.args.to 256 ≡ true = grind (arith, nat_tests, near) in
    let is = dup3_is (given_of s) s.kernel k w.stands.tables p c.args.who paired c.args.fd x c.args.to
    c.args.flags
    (is_valid_move c.args.to c.args.fd (is_cloexec_at_most c.args.flags) c.if-to-fd.false
    (sym c.is_cloexec_at_most.ensures ∙ c.if-not-is_cloexec_at_most.false)) low in
    subst (StandsAfter c.move_to.new.system next_id k x x c.move_to.result) (sym is)
    (c.move_to.ensures k next_id p x w paired (subst (λ m. IsKernel (kernel_left k m)) is whole))
