-- The row of wait4 through the pairs.
--     any_is, one_is               the child that a number names
--     same_any, same_one           what is found on both sides
--     wait_bad, wait_stranger      by the tests of the row
--     any_waited, one_waited       a wait for any child, and for a named one
--     told                         what the wait's own clauses say of it
use Rattle.std.proofs.Common.{◌≡◌, ℕ, Bool, true, false, ◌≤◌, List, Option, Some, None, refl, sym, ap, ◌∙◌, subst}
use Rattle.std.specs.Prelude.{◌==◌, if◌then◌else◌}
use Rattle.std.specs.FinMap as map
use Rattle.std.proofs.lemmas.Bool.{eqb-true, eq-eqb}
use Rattle.views.specs.Numbers.{Byte}
use Rattle.sys_abi.specs.declared.identity.VPid.{VPid}
use Rattle.sys_abi.specs.declared.identity.RealPid.{RealPid}
use Rattle.sys_abi.specs.declared.errors.TheConstants.{EINVAL, ECHILD}
use Rattle.proc_book.specs.declared.waiting.Waiting as real_waiting
use Rattle.proc_book.specs.Procs as table
use Rattle.plain_process.specs.Attempts.{Try, and_then, need}
use Rattle.plain_tables.specs.Tables.{FIRST_PID, pid}
use Rattle.plain_machine.specs.declared.kernel.PlainKernel.{PlainKernel}
use Rattle.plain_machine.specs.Attempts.{Served}
use Rattle.plain_machine.specs.Kernels.{IsKernel}
use Rattle.plain_machine.specs.Rows.Wait.{ANY_CHILD, may_be_asked, child_of_number, wait4_by, wait4_row}
use Rattle.plain_tables.specs.Waits as waits
use Rattle.host_descriptors.specs.OfHostTables.declared.kernel.Kernel.{Kernel}
use Rattle.host_descriptors.specs.OfHostTables.declared.attempt.Attempt.{Attempt}
use Rattle.host_descriptors.specs.OfHostTables.declared.attempt.Attempt.TheVariants as answer
use Rattle.host_descriptors.specs.OfHostTables.Requests.{neighbour_of}
use Rattle.host_descriptors.specs.OfHostTables.Serves.{Serves, ByPidOr, same}
use Rattle.host_descriptors.specs.OfHostTables.Stands.{Given, Stands}
use Rattle.host_descriptors.proofs.OfHostTables.Neighbours.{neighbour_some}
use Rattle.host_descriptors.proofs.OfHostTables.Replies.{refused}
use Rattle.host_descriptors.proofs.OfHostTables.Waits.{SameWait, same_wait_by, same_wait_any}
use Rattle.host_processes.specs.Waits.{wait_answer, wait_bytes, with_waited}
use Rattle.host_processes.proofs.Waited.{found_child, stranger, waited_kept}

-- the child that a number names
pub any_is : (number : ℕ) → number ≡ ANY_CHILD → child_of_number number ≡ None
any_is number e = ap (λ b. if b then None else Some (pid number)) (eq-eqb number ANY_CHILD e)

one_by : (number : ℕ) → (number ≡ ANY_CHILD → ⊥) → (b : Bool) → (number == ANY_CHILD) ≡ b
    → child_of_number number ≡ Some (pid number)
one_by number other true e = absurd (other (eqb-true number ANY_CHILD e))
one_by number other false e = ap (λ b. if b then None else Some (pid number)) e

pub one_is : (number : ℕ) → (number ≡ ANY_CHILD → ⊥) → child_of_number number ≡ Some (pid number)
one_is number other = one_by number other (number == ANY_CHILD) refl

-- both sides find the same
module _ (g : Given) (real : Kernel) (k : PlainKernel) (st : Stands g None real k) (whole : IsKernel k)
    (p : VPid) (who : RealPid) (paired : map.get g.pids p.0 ≡ Some who) where
  first : FIRST_PID ≤ p.0
  first = (st.paired.handed_out p.0 who paired).virt

  pub same_any : SameWait g.pids (waits.wait_any p (map.entries k.processes))
      (table.wait_any who (map.entries real.procs.processes))
  same_any =
      same_wait_any g.pids g.virts st.paired.inverse p who paired first real.nodes k.processes k.makers
      real.procs.processes st.numbered whole.parents st.processes

  pub same_one : (number : ℕ) (r : RealPid) → Some r ≡ neighbour_of g.pids k p number
      → SameWait g.pids (waits.wait_by p (pid number) (map.get k.processes (pid number)))
      (table.wait_by who r (map.get real.procs.processes r))
  same_one number r is =
      same_wait_by g.pids g.virts st.paired.inverse p who paired first k.processes real.procs.processes
      st.processes (pid number) r (neighbour_some g real k st p number r is).0

module _ (g : Given) (real : Kernel) (who : RealPid) (options : ℕ) (before : List Byte) where
  abbrev pub Waited : real_waiting.Waiting → Try Served → Type 0
  Waited f row = Serves (ByPidOr 0 who) same g real (with_waited real f) before (wait_bytes before f)
      (wait_answer options f) row

  pub told : (f : real_waiting.Waiting) (row : Try Served) (new : Kernel) (now : List Byte) (a : Attempt)
      → a ≡ wait_answer options f → now ≡ wait_bytes before f → new ≡ with_waited real f → Waited f row
      → Serves (ByPidOr 0 who) same g real new before now a row
  told f row new now a a_is now_is new_is waited =
      subst (λ (n : Kernel). Serves (ByPidOr 0 who) same g real n before now a row) (sym new_is)
      (subst (λ b. Serves (ByPidOr 0 who) same g real (with_waited real f) before b a row) (sym now_is)
      (subst (λ w. Serves (ByPidOr 0 who) same g real (with_waited real f) before (wait_bytes before f) w row)
      (sym a_is) waited))

  module _ (k : PlainKernel) (st : Stands g None real k) (whole : IsKernel k) (p : VPid)
      (paired : map.get g.pids p.0 ≡ Some who) (number usage : ℕ) where
    abbrev may : Bool
    may = may_be_asked number options usage

    abbrev row : Try Served
    row = wait4_row k p number options usage

    row_by : (b : Bool) → may ≡ b
        → row ≡ and_then (need b EINVAL)
        (λ _. wait4_by k options (waits.wait_for k.processes p (child_of_number number)))
    unfolding wait4_row
    row_by b e =
        ap (λ c. and_then (need c EINVAL)
        (λ _. wait4_by k options (waits.wait_for k.processes p (child_of_number number)))) e

    row_is : may ≡ true → (child : Option VPid) → child_of_number number ≡ child
        → row ≡ wait4_by k options (waits.wait_for k.processes p child)
    unfolding and_then need
    row_is e child is = row_by true e ∙ ap (λ c. wait4_by k options (waits.wait_for k.processes p c)) is

    pub wait_bad : may ≡ false
        → Serves (ByPidOr 0 who) same g real real before before (answer.Fails (record { 0 = EINVAL })) row
    unfolding and_then need
    wait_bad e = refused g real before (ByPidOr 0 who) EINVAL row (row_by false e)

    pub wait_stranger : may ≡ true → (number ≡ ANY_CHILD → ⊥) → None ≡ neighbour_of g.pids k p number
        → Serves (ByPidOr 0 who) same g real real before before (answer.Fails (record { 0 = ECHILD })) row
    wait_stranger e other none =
        refused g real before (ByPidOr 0 who) ECHILD row
        (row_is e (Some (pid number)) (one_is number other)
        ∙ ap (wait4_by k options) (stranger g real k st whole p who paired (pid number) none))

    pub any_waited : may ≡ true → number ≡ ANY_CHILD
        → Waited (table.wait_for real.procs.processes who None) row
    any_waited e any =
        subst (Waited (table.wait_for real.procs.processes who None))
        (sym (row_is e None (any_is number any)))
        (waited_kept g real k st whole p who paired options before
        (waits.wait_any p (map.entries k.processes)) (table.wait_any who (map.entries real.procs.processes))
        (same_any g real k st whole p who paired) (found_child k p None))

    pub one_waited : may ≡ true → (number ≡ ANY_CHILD → ⊥) → (r : RealPid)
        → Some r ≡ neighbour_of g.pids k p number
        → Waited (table.wait_for real.procs.processes who (Some r)) row
    one_waited e other r is =
        subst (Waited (table.wait_for real.procs.processes who (Some r)))
        (sym (row_is e (Some (pid number)) (one_is number other)))
        (waited_kept g real k st whole p who paired options before
        (waits.wait_by p (pid number) (map.get k.processes (pid number)))
        (table.wait_by who r (map.get real.procs.processes r))
        (same_one g real k st whole p who paired number r is) (found_child k p (Some (pid number))))
