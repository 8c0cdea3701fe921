use Rattle.std.proofs.Common.{refl, sym, ap, subst, Some, Err}
use Rattle.sys_abi.specs.declared.errors.TheConstants.{EBADF}
use Rattle.fd_book.specs.Books.{Books}
use Rattle.fd_tables.specs.Slots.{slot}
use Rattle.host_tables.specs.declared.attempt.Attempt.TheVariants.{Fails}
use Rattle.host_descriptors.proofs.FinishedCloses.{finished, told_close}
use Rattle.host_descriptors.specs.Moves.{IsTold}
use Rattle.host_descriptors.specs.declared.moves.Moved.{Moved}
use Rattle.host_descriptors.proofs.HeldTold.{there_by}
use Rattle.host_descriptors.proofs.Dups.{ok_err}
use Rattle.host_descriptors.proofs.Closes.{Says, moving, moved_bad, moved_done}
use Rattle.host_descriptors.proofs.moves.move_to.Goals as goal

pub returns-in-Ok-clause-ok : goal.returns-in-Ok-clause-ok
returns-in-Ok-clause-ok c g k p whole st paired x =
    let real = c.args.kernel.now in
    let there = there_by real c.args.who c.args.fd c.whole.ensures _ refl
    (λ none. ok_err _ _ (c.in-Ok.ensures.bad.1 none)) in
    moved_done g real k st p c.args.who paired c.args.fd x c.args.to c.args.cloexec there
    c.finish-closed.new.kernel
    (finished g real k whole st p c.args.who paired c.args.to c.whole.ensures
    (Some (record { desc = there.descriptor.desc; cloexec = c.args.cloexec })) c.dup_to.new.self
    (c.in-Ok.ensures.ok there.descriptor there.at) c.in-Ok.lost c.in-Ok.ensures.lost c.object_at-before.result
    c.object_at-before.ensures c.finish-closed.new.kernel c.finish-closed.result c.finish-closed.ensures.told
    c.finish-closed.ensures.goes c.finish-closed.ensures.stays)

pub returns-in-Ok-clause-told : goal.returns-in-Ok-clause-told
returns-in-Ok-clause-told c =
    told_close c.args.kernel.now.book (slot c.args.who c.args.to) c.whole.ensures c.in-Ok.lost
    c.in-Ok.ensures.lost c.object_at-before.result c.object_at-before.ensures c.finish-closed.result
    c.finish-closed.ensures.told

pub returns-in-Err-BadFd-clause-ok : goal.returns-in-Err-BadFd-clause-ok
returns-in-Err-BadFd-clause-ok c g k p whole st paired x =
    let real = c.args.kernel.now in
    subst (λ (m : Moved). Says g real k st p c.args.who paired c.args.fd x
    (record real { book = c.dup_to.new.self }) m.answer
    (moving g real k st p c.args.who paired c.args.fd x c.args.to c.args.cloexec)) (sym c.refused.ensures)
    (subst (λ (b : Books). Says g real k st p c.args.who paired c.args.fd x (record real { book = b })
    (Fails (record { 0 = EBADF }))
    (moving g real k st p c.args.who paired c.args.fd x c.args.to c.args.cloexec))
    (sym c.in-Err-BadFd.ensures.err)
    (moved_bad g real k st p c.args.who paired c.args.fd x c.args.to c.args.cloexec
    (c.in-Err-BadFd.ensures.bad.0 (ap Err c.in-Err-BadFd.field-0-is))))

pub returns-in-Err-BadFd-clause-told : goal.returns-in-Err-BadFd-clause-told
returns-in-Err-BadFd-clause-told c =
    subst (λ (m : Moved). IsTold c.args.kernel.now.book (slot c.args.who c.args.to) m.answer m.closed)
    (sym c.refused.ensures) refl
