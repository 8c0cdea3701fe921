-- Whether a wait4 waits, through the pairs.
--     any_told, one_told, none_told      by what is found
use Rattle.std.proofs.Common.{◌≡◌, ℕ, true, Option, Some, None, refl, sym, ap, ◌∙◌}
use Rattle.std.specs.FinMap as map
use Rattle.sys_abi.specs.declared.identity.VPid.{VPid}
use Rattle.sys_abi.specs.declared.identity.RealPid.{RealPid}
use Rattle.proc_book.specs.declared.waiting.Waiting as real_waiting
use Rattle.proc_book.specs.declared.waiting.Waiting.TheVariants as found
use Rattle.proc_book.specs.Procs as table
use Rattle.plain_tables.specs.Tables.{pid}
use Rattle.plain_machine.specs.declared.kernel.PlainKernel.{PlainKernel}
use Rattle.plain_tables.specs.declared.waiting.Waiting.{Waiting}
use Rattle.plain_tables.specs.declared.waiting.Waiting.TheVariants as plain
use Rattle.plain_machine.specs.Kernels.{IsKernel}
use Rattle.plain_machine.specs.Rows.Wait.{ANY_CHILD, child_of_number}
use Rattle.plain_tables.specs.Waits as waits
use Rattle.host_descriptors.specs.OfHostTables.declared.kernel.Kernel.{Kernel}
use Rattle.host_descriptors.specs.OfHostTables.Numbers.{Pids}
use Rattle.host_descriptors.specs.OfHostTables.Requests.{neighbour_of}
use Rattle.host_descriptors.specs.OfHostTables.Stands.{Given, Stands}
use Rattle.host_descriptors.proofs.OfHostTables.Waits.{SameWait}
use Rattle.host_processes.specs.Waits.{is_answered}
use Rattle.host_processes.proofs.Waited.{stranger}
use Rattle.host_processes.proofs.WaitRow.{any_is, one_is, same_any, same_one}

same_answered : (pids : Pids) (w : Waiting) (f : real_waiting.Waiting) → SameWait pids w f
    → is_answered f ≡ waits.is_answered w
same_answered pids plain.NoChild found.NoChild is = refl
same_answered pids plain.NoChild found.NotReady is = absurd is
same_answered pids plain.NoChild (found.Ended r status) is = refl
same_answered pids plain.NotReady found.NoChild is = absurd is
same_answered pids plain.NotReady found.NotReady is = refl
same_answered pids plain.NotReady (found.Ended r status) is = absurd is
same_answered pids (plain.Ended q status) found.NoChild is = refl
same_answered pids (plain.Ended q status) found.NotReady is = absurd is
same_answered pids (plain.Ended q status) (found.Ended r real_status) is = refl

module _ (g : Given) (real : Kernel) (k : PlainKernel) (st : Stands g None real k) (whole : IsKernel k)
    (p : VPid) (who : RealPid) (paired : map.get g.pids p.0 ≡ Some who) (number : ℕ) where
  child_is : (child : Option VPid) → child_of_number number ≡ child
      → waits.is_answered (waits.wait_for k.processes p child)
      ≡ waits.is_answered (waits.wait_for k.processes p (child_of_number number))
  child_is child is = sym (ap (λ c. waits.is_answered (waits.wait_for k.processes p c)) is)

  pub any_told : number ≡ ANY_CHILD → is_answered (table.wait_for real.procs.processes who None)
      ≡ waits.is_answered (waits.wait_for k.processes p (child_of_number number))
  any_told any =
      same_answered g.pids (waits.wait_any p (map.entries k.processes))
      (table.wait_any who (map.entries real.procs.processes)) (same_any g real k st whole p who paired)
      ∙ child_is None (any_is number any)

  pub one_told : (number ≡ ANY_CHILD → ⊥) → (r : RealPid) → Some r ≡ neighbour_of g.pids k p number
      → is_answered (table.wait_for real.procs.processes who (Some r))
      ≡ waits.is_answered (waits.wait_for k.processes p (child_of_number number))
  one_told other r is =
      same_answered g.pids (waits.wait_by p (pid number) (map.get k.processes (pid number)))
      (table.wait_by who r (map.get real.procs.processes r))
      (same_one g real k st whole p who paired number r is)
      ∙ child_is (Some (pid number)) (one_is number other)

  pub none_told : (number ≡ ANY_CHILD → ⊥) → None ≡ neighbour_of g.pids k p number
      → true ≡ waits.is_answered (waits.wait_for k.processes p (child_of_number number))
  none_told other none =
      sym (ap waits.is_answered (stranger g real k st whole p who paired (pid number) none))
      ∙ child_is (Some (pid number)) (one_is number other)
