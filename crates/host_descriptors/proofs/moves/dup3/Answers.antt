use Rattle.std.proofs.Common.{◌≡◌, true, false, refl, sym, ◌∙◌, subst, arith}
use Rattle.std.specs.Prelude.{◌==◌, not, nat_lt}
use Rattle.std.specs.FinMap as map
use Rattle.std.proofs.lemmas.Bool.Decides.{nat_tests}
use Rattle.std.proofs.lemmas.Result.{IfOk-weaker}
use Rattle.fd_tables.specs.Slots.{slot}
use Rattle.host_tables.specs.OfPlainMachine.Rows.Descriptors.{dup3_row, is_cloexec_at_most}
use Rattle.host_descriptors.specs.Moves.{IsTold}
use Rattle.host_descriptors.specs.declared.moves.Moved.{Moved}
use Rattle.host_descriptors.proofs.HeldTold.{no_slot, some_slot, there_by}
use Rattle.host_descriptors.proofs.Closes.{Says, dup3_bad, dup3_invalid, dup3_beyond, dup3_is, is_valid_move, same_move, flags_refused}
use Rattle.host_descriptors.proofs.moves.dup3.Goals as goal

pub returns-in_default-clause-ok : goal.returns-in_default-clause-ok
returns-in_default-clause-ok c g k p whole st paired x =
    let real = c.args.kernel.now in
    subst (λ (m : Moved). Says g real k st p c.args.who paired c.args.fd x real m.answer
    (dup3_row k p c.args.fd c.args.to c.args.flags)) (sym c.refused.ensures)
    (dup3_bad g real k st p c.args.who paired c.args.fd x c.args.to c.args.flags
    (no_slot (map.get real.book.descriptors (slot c.args.who c.args.fd)) (sym c.get.ensures.at ∙ c.in_default.is)))

pub returns-in_default-clause-told : goal.returns-in_default-clause-told
returns-in_default-clause-told c =
    subst (λ (m : Moved). IsTold c.args.kernel.now.book (slot c.args.who c.args.to) m.answer m.closed)
    (sym c.refused.ensures) refl

pub returns-then-to-fd-clause-ok : goal.returns-then-to-fd-clause-ok
returns-then-to-fd-clause-ok c g k p whole st paired x =
    let real = c.args.kernel.now in
    subst (λ (m : Moved). Says g real k st p c.args.who paired c.args.fd x real m.answer
    (dup3_row k p c.args.fd c.args.to c.args.flags)) (sym c.refused-then-to-fd.ensures)
    (dup3_invalid g real k st p c.args.who paired c.args.fd x c.args.to c.args.flags
    (there_by real c.args.who c.args.fd c.whole.ensures _ refl
    (some_slot _ _ (sym c.get.ensures.at ∙ c.in-Some.is)))
    (same_move c.args.to c.args.fd (is_cloexec_at_most c.args.flags) c.if-to-fd.true))

pub returns-then-to-fd-clause-told : goal.returns-then-to-fd-clause-told
returns-then-to-fd-clause-told c =
    subst (λ (m : Moved). IsTold c.args.kernel.now.book (slot c.args.who c.args.to) m.answer m.closed)
    (sym c.refused-then-to-fd.ensures) refl

pub returns-then-not-is_cloexec_at_most-clause-ok : goal.returns-then-not-is_cloexec_at_most-clause-ok
returns-then-not-is_cloexec_at_most-clause-ok c g k p whole st paired x =
    let real = c.args.kernel.now in
    subst (λ (m : Moved). Says g real k st p c.args.who paired c.args.fd x real m.answer
    (dup3_row k p c.args.fd c.args.to c.args.flags)) (sym c.refused-then-not-is_cloexec_at_most.ensures)
    (dup3_invalid g real k st p c.args.who paired c.args.fd x c.args.to c.args.flags
    (there_by real c.args.who c.args.fd c.whole.ensures _ refl
    (some_slot _ _ (sym c.get.ensures.at ∙ c.in-Some.is)))
    (flags_refused (not (c.args.to == c.args.fd)) (is_cloexec_at_most c.args.flags)
    (sym c.is_cloexec_at_most.ensures ∙ c.if-not-is_cloexec_at_most.true)))

pub returns-then-not-is_cloexec_at_most-clause-told : goal.returns-then-not-is_cloexec_at_most-clause-told
returns-then-not-is_cloexec_at_most-clause-told c =
    subst (λ (m : Moved). IsTold c.args.kernel.now.book (slot c.args.who c.args.to) m.answer m.closed)
    (sym c.refused-then-not-is_cloexec_at_most.ensures) refl

pub returns-then-to-ge-DESCRIPTOR_LIMIT-clause-ok : goal.returns-then-to-ge-DESCRIPTOR_LIMIT-clause-ok
returns-then-to-ge-DESCRIPTOR_LIMIT-clause-ok c g k p whole st paired x =
    let real = c.args.kernel.now in
    subst (λ (m : Moved). Says g real k st p c.args.who paired c.args.fd x real m.answer
    (dup3_row k p c.args.fd c.args.to c.args.flags)) (sym c.refused-then-to-ge-DESCRIPTOR_LIMIT.ensures)
    (let far = c.if-to-ge-DESCRIPTOR_LIMIT.true in
    let past : nat_lt c.args.to 256 ≡ false = grind (arith, nat_tests, far) in
    dup3_beyond g real k st p c.args.who paired c.args.fd x c.args.to c.args.flags
    (there_by real c.args.who c.args.fd c.whole.ensures _ refl
    (some_slot _ _ (sym c.get.ensures.at ∙ c.in-Some.is)))
    (is_valid_move c.args.to c.args.fd (is_cloexec_at_most c.args.flags) c.if-to-fd.false
    (sym c.is_cloexec_at_most.ensures ∙ c.if-not-is_cloexec_at_most.false)) past)

pub returns-then-to-ge-DESCRIPTOR_LIMIT-clause-told : goal.returns-then-to-ge-DESCRIPTOR_LIMIT-clause-told
returns-then-to-ge-DESCRIPTOR_LIMIT-clause-told c =
    subst (λ (m : Moved). IsTold c.args.kernel.now.book (slot c.args.who c.args.to) m.answer m.closed)
    (sym c.refused-then-to-ge-DESCRIPTOR_LIMIT.ensures) refl

pub returns-clause-ok : goal.returns-clause-ok
returns-clause-ok c =
    let near = c.if-to-ge-DESCRIPTOR_LIMIT.false in
    let low : nat_lt c.args.to 256 ≡ true = grind (arith, nat_tests, near) in
    IfOk-weaker c.move_to.result _ _ (λ m serves g k p whole st paired x.
    subst (Says g c.args.kernel.now k st p c.args.who paired c.args.fd x c.move_to.new.kernel m.answer)
    (sym (dup3_is g c.args.kernel.now k st p c.args.who paired c.args.fd x c.args.to c.args.flags
    (is_valid_move c.args.to c.args.fd (is_cloexec_at_most c.args.flags) c.if-to-fd.false
    (sym c.is_cloexec_at_most.ensures ∙ c.if-not-is_cloexec_at_most.false)) low))
    (serves g k p whole st paired x))
    c.move_to.ensures.ok
