-- The row of fcntl through the pairs, command by command.
--     by_command                  the row is that of its command
--     above_limit, above_is       the tests of a descriptor more
--     own_refused, own_done       the test of an owner
use Rattle.std.proofs.Common.{◌≡◌, ℕ, Bool, true, false, List, Option, Some, None, refl, sym, ap, subst}
use Rattle.std.specs.Prelude.{nat_lt}
use Rattle.std.specs.FinMap as map
use Rattle.views.specs.Numbers.{Byte}
use Rattle.views.specs.Limits.{DESCRIPTOR_LIMIT}
use Rattle.sys_abi.specs.declared.errors.TheConstants.{EBADF, EINVAL, ESRCH}
use Rattle.sys_abi.specs.declared.identity.VPid.{VPid}
use Rattle.sys_abi.specs.declared.identity.RealPid.{RealPid}
use Rattle.fd_tables.specs.Slots as slots
use Rattle.plain_process.specs.Attempts.{Try, Fails, and_then, need}
use Rattle.host_tables.specs.OfPlainMachine.declared.kernel.PlainKernel.{PlainKernel}
use Rattle.plain_process.specs.declared.commands.FcntlCommand.{FcntlCommand}
use Rattle.host_tables.specs.OfPlainMachine.Attempts.{replied}
use Rattle.plain_process.specs.Commands.{fcntl_command}
use Rattle.host_tables.specs.OfPlainMachine.Kernel as plain
use Rattle.host_tables.specs.OfPlainMachine.Kernel.{held}
use Rattle.host_tables.specs.OfPlainMachine.Rows.Descriptors.{dup_from, dup_above, with_owner, may_own, set_owner, fcntl_by, fcntl_row}
use Rattle.host_tables.specs.declared.kernel.Kernel.{Kernel}
use Rattle.host_tables.specs.declared.attempt.Attempt.{Attempt}
use Rattle.host_tables.specs.declared.attempt.Attempt.TheVariants as answer
use Rattle.host_tables.specs.Serves.{Serves, ByNumber, ValueOfCommand, same}
use Rattle.host_tables.specs.Stands.{Given, Stands}
use Rattle.host_tables.proofs.Replies.{refused}
use Rattle.host_descriptors.specs.declared.held.Held.{Held}
use Rattle.host_descriptors.specs.Held.{held_in, seen_held}
use Rattle.host_descriptors.proofs.HeldChanges.{there_of}
use Rattle.host_descriptors.proofs.HeldTold.{row_told, row_bad}

module _ (g : Given) (real : Kernel) (x : List Byte) where
  module _ (k : PlainKernel) (p : VPid) (h : plain.Held) (argument : ℕ) where
    pub above_limit : (cloexec : Bool) → nat_lt argument DESCRIPTOR_LIMIT ≡ false
        → dup_above k p h argument cloexec ≡ Fails EINVAL
    unfolding dup_above and_then need
    above_limit cloexec e = ap (λ b. and_then (need b EINVAL) (λ _. dup_from k p h argument cloexec)) e

    pub above_is : (cloexec : Bool) → nat_lt argument DESCRIPTOR_LIMIT ≡ true
        → dup_above k p h argument cloexec ≡ dup_from k p h argument cloexec
    unfolding dup_above and_then need
    above_is cloexec e = ap (λ b. and_then (need b EINVAL) (λ _. dup_from k p h argument cloexec)) e

    pub own_refused : may_own k p argument ≡ false → set_owner k p h argument ≡ Fails ESRCH
    unfolding set_owner and_then need
    own_refused e = ap (λ b. and_then (need b ESRCH) (λ _. replied (with_owner k h argument) 0)) e

    pub own_done : may_own k p argument ≡ true → (new : Kernel) → Stands g None new (with_owner k h argument)
        → Serves ByNumber same g real new x x (answer.Gives 0) (set_owner k p h argument)
    unfolding set_owner and_then need
    own_done e new stands =
        subst (Serves ByNumber same g real new x x (answer.Gives 0))
        (sym (ap (λ b. and_then (need b ESRCH) (λ _. replied (with_owner k h argument) 0)) e))
        (record { reply = refl; bytes = refl; stands = stands })

module _ (g : Given) (real : Kernel) (k : PlainKernel) (st : Stands g None real k) (p : VPid) (who : RealPid)
    (paired : map.get g.pids p.0 ≡ Some who) (fd argument : ℕ) (x : List Byte) where
  pub fcntl_bad : map.get real.book.descriptors (slots.slot who fd) ≡ None → (number : ℕ)
      → Serves (ValueOfCommand who (fcntl_command number)) same g real real x x
      (answer.Fails (record { 0 = EBADF })) (fcntl_row k p fd number argument)
  unfolding fcntl_row
  fcntl_bad none number =
      refused g real x (ValueOfCommand who (fcntl_command number)) EBADF (fcntl_row k p fd number argument)
      (row_bad g real k st p who paired fd none (λ h. fcntl_by k p fd h argument (fcntl_command number)))

  module _ (h : Held) (is : held_in real.book (slots.slot who fd) ≡ Some h) where
    pub past_held : {A : Type 0} (m : plain.Held → Try A) → and_then (held k p fd) m ≡ m (seen_held g real h)
    past_held m = row_told g real k st p who paired fd (there_of real who fd h is) m

    pub by_command : (number : ℕ) (c : Option FcntlCommand) → c ≡ fcntl_command number → (new : Kernel)
        (a : Attempt)
        → Serves (ValueOfCommand who c) same g real new x x a (fcntl_by k p fd (seen_held g real h) argument c)
        → Serves (ValueOfCommand who (fcntl_command number)) same g real new x x a (fcntl_row k p fd number argument)
    unfolding fcntl_row
    by_command number c of new a serves =
        subst (Serves (ValueOfCommand who (fcntl_command number)) same g real new x x a)
        (sym (past_held (λ w. fcntl_by k p fd w argument (fcntl_command number))))
        (subst (λ w. Serves (ValueOfCommand who w) same g real new x x a
        (fcntl_by k p fd (seen_held g real h) argument w)) of serves)
