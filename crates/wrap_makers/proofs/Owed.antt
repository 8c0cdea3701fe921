-- What is owed to the tables and to the kernel, of a system that stands for a kernel part with the caller.
--     node_there, own_below, lives         of the caller's real number
--     left                                 its node has a number left
--     new_number, new_real, no_maker       nobody has the next numbers
use Rattle.std.proofs.Common.{◌≡◌, ℕ, ◌^◌, ◌<◌, true, Some, None, sym, ◌∙◌, subst, length, arith}
use Rattle.std.specs.Prelude.{nat_lt}
use Rattle.std.specs.FinMap as map
use Rattle.std.proofs.lemmas.Bool.Decides.{nat_tests}
use Rattle.sys_abi.specs.declared.identity.VPid.{VPid}
use Rattle.sys_abi.specs.declared.identity.RealPid.{RealPid}
use Rattle.proc_book.specs.Ends.{is_live_at}
use Rattle.proc_book.specs.Procs.{next_of}
use Rattle.plain_tables.specs.declared.process.Process.{Process}
use Rattle.plain_tables.specs.Tables.{pid}
use Rattle.plain_machine.specs.declared.kernel.PlainKernel.{PlainKernel}
use Rattle.plain_machine.specs.Kernel.{is_live}
use Rattle.plain_machine.specs.Rows.Clone.{LAST_ID}
use Rattle.host_tables.specs.declared.system.System.{System}
use Rattle.host_tables.specs.Numbers.{real, IsHandedOut}
use Rattle.host_tables.specs.Systems.{given_of}
use Rattle.host_tables.proofs.LookUps.{lives_of}
use Rattle.wrap_names.proofs.OfHostProcesses.NewNumbers.{its_process, unpaired_v, unpaired_r}
use Rattle.wrap_names.specs.Wrapping.{IsWrapped}
use Rattle.wrap_makers.proofs.NewNumber.{below, unmade, room_left}

pub is_less : (n m : ℕ) → n < m → nat_lt n m ≡ true
is_less n m h = grind (arith, nat_tests)

module _ (s : System) (number : ℕ) (k : PlainKernel) (w : IsWrapped s number k) (p : VPid) (who : RealPid)
    (paired : map.get s.ids.pids p.0 ≡ Some who) where
  handed_out : IsHandedOut s.kernel.procs.next p.0 who
  handed_out = w.stands.tables.paired.handed_out p.0 who paired

  pub node_there : who.node < length s.kernel.procs.next
  node_there = handed_out.node

  pub own_below : who.pid < next_of s.kernel.procs who.node
  own_below = handed_out.below

  pub lives : is_live k p ≡ true → is_live_at s.kernel.procs.processes who ≡ true
  unfolding is_live
  lives alive = sym (lives_of (given_of s) s.kernel k w.stands.tables p who paired) ∙ alive

  pub its_own : is_live k p ≡ true → (x : Process) × (map.get k.processes p ≡ Some x)
  its_own alive =
      its_process (given_of s) s.kernel k w.stands.kernel w.stands.tables p who paired (lives alive)

  pub last : number < LAST_ID → k.next_id < LAST_ID
  last low = subst (λ v. v < LAST_ID) (sym w.next) low

  pub left : number < LAST_ID → next_of s.kernel.procs who.node < 2 ^ 32
  left low = room_left s k w.stands who.node node_there (last low)

  pub new_number : map.get s.ids.pids number ≡ None
  new_number =
      subst (λ v. map.get s.ids.pids v ≡ None) w.next
      (unpaired_v (given_of s) s.kernel k w.stands.kernel w.stands.tables p who paired (below s k w.stands))

  pub new_real : (n : ℕ) → n ≡ next_of s.kernel.procs who.node → map.get s.ids.virts (real who.node n) ≡ None
  new_real n is =
      subst (λ r. map.get s.ids.virts (real who.node r) ≡ None) (sym is)
      (unpaired_r (given_of s) s.kernel k w.stands.kernel w.stands.tables p who paired (below s k w.stands))

  pub no_maker : map.get s.conns.makers (pid number) ≡ None
  no_maker = subst (λ v. map.get s.conns.makers (pid v) ≡ None) w.next (unmade s k w.stands)
