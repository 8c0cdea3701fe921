-- fcntl with what its command reads.
--     target_is       what is looked up is the process that the argument names
--     fcntl_same      the row is that of the guest's call
use Rattle.std.proofs.Common.{◌≡◌, ℕ, ◌<◌, ◌≤◌, Bool, true, false, cond, Option, Some, None, refl, sym, ap, ◌∙◌, arith}
use Rattle.std.specs.Prelude.{nat_lt}
use Rattle.std.specs.FinMap as map
use Rattle.std.proofs.lemmas.Bool.Decides.{nat_tests}
use Rattle.sys_abi.specs.declared.identity.VPid.{VPid}
use Rattle.sys_abi.specs.declared.identity.RealPid.{RealPid}
use Rattle.plain_process.specs.declared.commands.FcntlCommand.{FcntlCommand}
use Rattle.plain_process.specs.declared.commands.FcntlCommand.TheVariants.{DupFd, GetFd, SetFd, GetFl, SetFl, SetOwn, GetOwn, DupFdCloexec}
use Rattle.plain_process.specs.Attempts.{Try, ◌>>=◌}
use Rattle.plain_process.specs.Commands.{fcntl_command}
use Rattle.plain_tables.specs.Tables.{FIRST_PID, same_host, pid}
use Rattle.plain_machine.specs.declared.kernel.PlainKernel.{PlainKernel}
use Rattle.plain_machine.specs.Attempts.{Served}
use Rattle.plain_machine.specs.Kernel.{Held, held}
use Rattle.plain_machine.specs.Rows.Descriptors.{fcntl_by, fcntl_row}
use Rattle.host_tables.specs.declared.system.System.{System}
use Rattle.host_tables.specs.Requests.{neighbour_of}
use Rattle.wrap_names.specs.Naming.{named_in}
use Rattle.wrap_names.specs.Wrapping.{IsWrapped}
use Rattle.wrap_names.proofs.Named.{neighbour_is}
use Rattle.wrap_passing.specs.Asking.{argument_read, target_in}

below : (n m : ℕ) → nat_lt n m ≡ true → n < m
below n m h = grind (arith, nat_tests, h)

module _ (s : System) (next_id : ℕ) (k : PlainKernel) (w : IsWrapped s next_id k) (p : VPid) (number : ℕ) where
  unpaired : nat_lt number FIRST_PID ≡ true → (o : Option RealPid) → map.get s.ids.pids number ≡ o
      → map.get s.ids.pids number ≡ None
  unpaired low None e = e
  unpaired low (Some r) e =
      let first : FIRST_PID ≤ number = (w.stands.tables.paired.handed_out number r e).virt in
      let less : number < FIRST_PID = below number FIRST_PID low in
      absurd (omega (arith, first, less))

  nobody : nat_lt number FIRST_PID ≡ true → None ≡ neighbour_of s.ids.pids k p number
  nobody low =
      sym (ap (λ o. cond (same_host (map.get k.makers p) (map.get k.makers (pid number))) o None)
      (unpaired low (map.get s.ids.pids number) refl)
      ∙ none_either (same_host (map.get k.makers p) (map.get k.makers (pid number))))
    where
      none_either : (b : Bool) → ◌≡◌ {A = Option RealPid} (cond b None None) None
      none_either true = refl
      none_either false = refl

  by_size : (low : Bool) → nat_lt number FIRST_PID ≡ low
      → cond low None (named_in s p number) ≡ neighbour_of s.ids.pids k p number
  by_size true e = nobody e
  by_size false e = neighbour_is s next_id k w p number

  pub target_is : target_in s p number ≡ neighbour_of s.ids.pids k p number
  target_is = by_size (nat_lt number FIRST_PID) refl

argument_unread : (k : PlainKernel) (p : VPid) (fd : ℕ) (h : Held) (argument : ℕ) (command : Option FcntlCommand)
    → fcntl_by k p fd h (argument_read command argument) command ≡ fcntl_by k p fd h argument command
argument_unread k p fd h argument None = refl
argument_unread k p fd h argument (Some DupFd) = refl
argument_unread k p fd h argument (Some DupFdCloexec) = refl
argument_unread k p fd h argument (Some GetFd) = refl
argument_unread k p fd h argument (Some SetFd) = refl
argument_unread k p fd h argument (Some GetFl) = refl
argument_unread k p fd h argument (Some SetFl) = refl
argument_unread k p fd h argument (Some SetOwn) = refl
argument_unread k p fd h argument (Some GetOwn) = refl

pub fcntl_same : (k : PlainKernel) (p : VPid) (fd command argument : ℕ)
    → fcntl_row k p fd command (argument_read (fcntl_command command) argument)
    ≡ fcntl_row k p fd command argument
unfolding fcntl_row
fcntl_same k p fd command argument =
    ap (λ (f : Held → Try Served). held k p fd >>= f)
    (λ i h. argument_unread k p fd h argument (fcntl_command command) i)
