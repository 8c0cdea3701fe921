use Rattle.std.proofs.Common.{refl, sym, ap, subst, Some, Err}
use Rattle.fd_book.specs.Books.{Books}
use Rattle.plain_machine.specs.Kernels.{IsKernel}
use Rattle.host_tables.specs.declared.reply.KernelReply.TheVariants.{Error}
use Rattle.host_descriptors.proofs.Dups.{ok_err}
use Rattle.host_descriptors.proofs.HeldTold.{there_by}
use Rattle.wrap_names.specs.Wrapping.{StandsAfter, kernel_left}
use Rattle.wrap_ends.proofs.Rows.{closed_placed, served, moving, move_bad, move_is}
use Rattle.wrap_ends.proofs.close_calls.move_to.Goals as goal

pub returns-in-Ok : goal.returns-in-Ok
returns-in-Ok c k next_id p x w paired whole =
    let s = c.args.system.now in
    let there = there_by s.kernel c.args.who c.args.fd c.whole.ensures _ refl
    (λ none. ok_err _ _ (c.in-Ok.ensures.bad.1 none)) in
    let is = move_is s next_id k w p c.args.who paired c.args.fd c.args.to c.args.cloexec x there in
    served s next_id k w p c.args.who paired c.release.new.system _ c.args.to
    (moving s next_id k w p c.args.who paired c.args.fd c.args.to c.args.cloexec x) x is
    (closed_placed s next_id k w p c.args.who paired c.args.to c.whole.ensures
    (Some (record { desc = there.descriptor.desc; cloexec = c.args.cloexec }))
    (subst IsKernel (ap (kernel_left k) is) whole) c.dup_to.new.self
    (c.in-Ok.ensures.ok there.descriptor there.at) c.in-Ok.lost c.in-Ok.ensures.lost
    c.object_at-before.result c.object_at-before.ensures c.release.new.system c.release.ensures.goes
    c.release.ensures.forgets c.release.ensures.stays)

pub returns-in-Err-BadFd : goal.returns-in-Err-BadFd
returns-in-Err-BadFd c k next_id p x w paired whole =
    let s = c.args.system.now in
    subst (λ (b : Books). StandsAfter (record s { kernel = record s.kernel { book = b } }) next_id k x x
    (Error (record { 0 = 9 }))
    (moving s next_id k w p c.args.who paired c.args.fd c.args.to c.args.cloexec x))
    (sym c.in-Err-BadFd.ensures.err)
    (move_bad s next_id k w p c.args.who paired c.args.fd c.args.to c.args.cloexec x
    (c.in-Err-BadFd.ensures.bad.0 (ap Err c.in-Err-BadFd.field-0-is)))
