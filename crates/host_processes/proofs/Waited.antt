-- A wait through the pairs.
--     found_child              what a wait found is a child
--     child_node               a child is of its parent's node
--     waited_kept              the row by what is found on both sides
--     stranger                 a number that names no process of the caller's host is no child's
use Rattle.std.proofs.Common.{◌≡◌, ℕ, Bool, true, false, cond, List, Option, Some, None, refl, sym, ap, ◌∙◌, subst}
use Rattle.std.specs.Prelude.{◌==◌, if◌then◌else◌}
use Rattle.std.specs.FinMap as map
use Rattle.std.proofs.lemmas.Option.{none-some}
use Rattle.std.proofs.lemmas.Bool.{eqb-true, eq-eqb}
use Rattle.views.specs.Numbers.{Byte}
use Rattle.views.specs.Leasts.{FindsLeast}
use Rattle.sys_abi.specs.declared.identity.VPid.{VPid}
use Rattle.sys_abi.specs.declared.identity.RealPid.{RealPid}
use Rattle.sys_abi.specs.declared.life.Life.{Life}
use Rattle.sys_abi.specs.declared.maker.Maker.{Maker}
use Rattle.sys_abi.specs.declared.life.Life.TheVariants.{Live, Zombie}
use Rattle.proc_book.specs.declared.waiting.Waiting as real_waiting
use Rattle.proc_book.specs.declared.waiting.Waiting.TheVariants as found
use Rattle.plain_process.specs.Attempts.{NotReady}
use Rattle.plain_process.specs.Memory.{low_bytes}
use Rattle.plain_tables.specs.declared.process.Process.{Process}
use Rattle.plain_tables.specs.Tables.{NOBODY, same_host}
use Rattle.plain_tables.specs.Ends.{is_child_of}
use Rattle.plain_tables.specs.Valid.Processes.{IsParent}
use Rattle.plain_machine.specs.declared.kernel.PlainKernel.{PlainKernel}
use Rattle.plain_tables.specs.declared.waiting.Waiting.{Waiting}
use Rattle.plain_tables.specs.declared.waiting.Waiting.TheVariants as plain
use Rattle.plain_machine.specs.Attempts.{replied}
use Rattle.plain_machine.specs.Kernels.{IsKernel}
use Rattle.plain_machine.specs.Rows.Wait.{WNOHANG, wait4_by}
use Rattle.plain_tables.specs.Waits as waits
use Rattle.plain_machine.proofs.Leasts.{status_at, finding, finds-wait_any}
use Rattle.host_descriptors.specs.OfHostTables.declared.kernel.Kernel.{Kernel}
use Rattle.host_descriptors.specs.OfHostTables.declared.attempt.Attempt.TheVariants as answer
use Rattle.host_descriptors.specs.OfHostTables.Requests.{neighbour_of}
use Rattle.host_descriptors.specs.OfHostTables.Serves.{Serves, ByPidOr, same}
use Rattle.host_descriptors.specs.OfHostTables.Stands.{Given, Stands}
use Rattle.host_descriptors.proofs.OfHostTables.LookUps.{some_value}
use Rattle.host_descriptors.proofs.OfHostTables.Neighbours.{there_by, together_by, neighbours_node}
use Rattle.host_descriptors.proofs.OfHostTables.Waits.{SameWait}
use Rattle.host_processes.specs.Waits.{wait_answer, wait_bytes, with_waited}
use Rattle.host_processes.proofs.Parents.{not_nobody, told_number, parent_of}
use Rattle.host_processes.proofs.Reaped.{reaped_kept}

turned : (a b : Option Maker) → same_host a b ≡ true → same_host b a ≡ true
turned a b e =
    let both = together_by a b e in
    (λ i. same_host (both.second_is i) (both.first_is i))
    ∙ eq-eqb both.second.host both.first.host (sym both.host)

-- a child of p
pub record IsChild (k : PlainKernel) (p q : VPid) : Type 0 where
  pub process : Process
  pub there : map.get k.processes q ≡ Some process
  pub child : is_child_of p process ≡ true

module _ (k : PlainKernel) (p : VPid) where
  by_life : (c q : VPid) (status : ℕ) (life : Life) → waits.wait_of c life ≡ plain.Ended q status → c ≡ q
  by_life c q status Live is = cc
  by_life c q status (Zombie s) is = cc

  by_child : (c q : VPid) (status : ℕ) (own : Life) (b : Bool)
      → cond b (waits.wait_of c own) plain.NoChild ≡ plain.Ended q status → (c ≡ q) × (b ≡ true)
  by_child c q status own true is = (by_life c q status own is, refl)
  by_child c q status own false is = cc

  one_found : (c q : VPid) (status : ℕ) (o : Option Process) → map.get k.processes c ≡ o
      → waits.wait_by p c o ≡ plain.Ended q status → IsChild k p q
  one_found c q status None there is = cc
  one_found c q status (Some x) there is =
      let here = by_child c q status x.life (is_child_of p x) is in
      record { process = x; there = ap (map.get k.processes) (sym here.0) ∙ there; child = here.1 }

  any_found : (q : VPid) (status : ℕ) (w : Waiting) → w ≡ plain.Ended q status
      → FindsLeast (is_child_of p) status_at k.processes (finding w) → IsChild k p q
  any_found q status w is finds =
      let least = subst (λ f. FindsLeast (is_child_of p) status_at k.processes (finding f)) is finds in
      record { process = least.value; there = least.there; child = least.asked }

  pub found_child : (child : Option VPid) (q : VPid) (status : ℕ)
      → waits.wait_for k.processes p child ≡ plain.Ended q status → IsChild k p q
  found_child None q status is =
      any_found q status (waits.wait_any p (map.entries k.processes)) is (finds-wait_any p k.processes)
  found_child (Some c) q status is = one_found c q status (map.get k.processes c) refl is

module _ (g : Given) (real : Kernel) (k : PlainKernel) (st : Stands g None real k) (whole : IsKernel k)
    (p : VPid)
    (who : RealPid) (paired : map.get g.pids p.0 ≡ Some who) where
  -- its parent is p
  parent_is : (q : VPid) (x : Process) → map.get k.processes q ≡ Some x → is_child_of p x ≡ true
      → IsParent k.processes k.makers q p.0
  parent_is q x there child =
      let is = eqb-true x.parent p.0 child in
      let some : (x.parent ≡ NOBODY → ⊥) =
      λ none. not_nobody p.0 (st.paired.handed_out p.0 who paired).virt (sym is ∙ none) in
      subst (IsParent k.processes k.makers q) is
      (parent_of g real k st q x.parent some x.life (whole.parents.each q x there))

  child_node : (q : VPid) (r : RealPid) → IsChild k p q → map.get g.pids q.0 ≡ Some r → r.node ≡ who.node
  child_node q r is leads =
      let of = parent_is q is.process is.there is.child in
      let y = there_by (map.get k.processes p) of.alive in
      sym (neighbours_node g real k st q p r who is.process y.0 is.there y.1 of.host leads paired)

  -- where the number names no process of the caller's host
  not_child : (q : VPid) → None ≡ neighbour_of g.pids k p q.0 → (x : Process) → map.get k.processes q ≡ Some x
      → (b : Bool) → is_child_of p x ≡ b → is_child_of p x ≡ false
  not_child q none x there false e = e
  not_child q none x there true e =
      let of = parent_is q x there e in
      let leads = some_value (map.get g.pids q.0) (st.numbered.process q x there) in
      absurd (none-some leads.0
      (none ∙ ap (λ b. if b then map.get g.pids q.0 else None)
      (turned (map.get k.makers q) (map.get k.makers p) of.host) ∙ leads.1))

  stranger_by : (q : VPid) → None ≡ neighbour_of g.pids k p q.0 → (o : Option Process)
      → map.get k.processes q ≡ o → waits.wait_by p q o ≡ plain.NoChild
  stranger_by q none None there = refl
  stranger_by q none (Some x) there =
      ap (λ b. cond b (waits.wait_of q x.life) plain.NoChild)
      (not_child q none x there (is_child_of p x) refl)

  pub stranger : (q : VPid) → None ≡ neighbour_of g.pids k p q.0
      → waits.wait_by p q (map.get k.processes q) ≡ plain.NoChild
  stranger q none = stranger_by q none (map.get k.processes q) refl

  module _ (options : ℕ) (before : List Byte) where
    abbrev Waited : Waiting → real_waiting.Waiting → Type 0
    Waited w f = Serves (ByPidOr 0 who) same g real (with_waited real f) before (wait_bytes before f)
        (wait_answer options f) (wait4_by k options w)

    not_yet : (b : Bool) → Serves (ByPidOr 0 who) same g real real before before
        (if b then answer.Gives 0 else answer.NotReady) (if b then replied k 0 else NotReady)
    not_yet true = record { reply = refl; bytes = refl; stands = st }
    not_yet false = record { answer = refl; kernel = refl; bytes = refl }

    pub waited_kept : (w : Waiting) (f : real_waiting.Waiting) → SameWait g.pids w f
        → ((q : VPid) (status : ℕ) → w ≡ plain.Ended q status → IsChild k p q) → Waited w f
    waited_kept plain.NoChild found.NoChild same_wait child =
        record { answer = refl; kernel = refl; bytes = refl }
    waited_kept plain.NoChild found.NotReady same_wait child = absurd same_wait
    waited_kept plain.NoChild (found.Ended r status) same_wait child = absurd same_wait
    waited_kept plain.NotReady found.NoChild same_wait child = absurd same_wait
    waited_kept plain.NotReady found.NotReady same_wait child = not_yet (options == WNOHANG)
    waited_kept plain.NotReady (found.Ended r status) same_wait child = absurd same_wait
    waited_kept (plain.Ended q status) found.NoChild same_wait child = absurd same_wait
    waited_kept (plain.Ended q status) found.NotReady same_wait child = absurd same_wait
    waited_kept (plain.Ended q status) (found.Ended r real_status) same_wait child = record {
      reply = told_number g real k st 0 who q.0 r same_wait.0
          (child_node q r (child q status refl) same_wait.0);
      bytes = ap (low_bytes 4) (sym same_wait.1);
      stands = reaped_kept g real k st q r same_wait.0;
    }
