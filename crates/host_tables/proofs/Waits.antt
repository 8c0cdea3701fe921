-- A wait finds the same child over real numbers as over virtual ones: a named one through its pair, and of
-- any the
-- least that has ended, since a parent's children are of its node and pairs keep their order there.
--     SameWait pids v r         the same finding
--     same_parent               a parent is the same one on both sides
--     same_wait_by              a wait for a named child
--     same_wait_any             a wait for any child
use Rattle.std.proofs.Common.{◌≡◌, ℕ, ◌<◌, ◌≤◌, Less, Bool, true, false, cond}
use Rattle.std.proofs.Common.{List, Option, Some, None, refl, sym, ap, ◌∙◌, subst, arith, ⊎_elim}
use Rattle.std.specs.Prelude.{IsTrue, ◌==◌, is_some}
use Rattle.std.specs.Ordering.{eq_by_cmp, nat_cmp, ordering_then}
use Rattle.std.specs.Cmp.{both_ways, nat_cmp_total, tied_itself}
use Rattle.std.specs.FinMap as map
use Rattle.std.proofs.lemmas.Option.{same_Some}
use Rattle.std.proofs.lemmas.Bool.{eqb-true, eq-eqb}
use Rattle.std.proofs.lemmas.Bool.Decides.{nat_tests}
use Rattle.views.specs.Seen.{Agree}
use Rattle.views.proofs.MapLaws.{key_tied, same_key, true_false}
use Rattle.views.proofs.Leasts.{SameLeast, same_least}
use Rattle.sys_abi.specs.declared.identity.VPid.{VPid}
use Rattle.sys_abi.specs.declared.identity.RealPid.{RealPid}
use Rattle.sys_abi.specs.declared.life.Life.{Life}
use Rattle.sys_abi.specs.declared.life.Life.TheVariants.{Live, Zombie}
use Rattle.sys_abi.specs.declared.maker.Maker.{Maker}
use Rattle.sys_abi.specs.Orders.{vpid_cmp, real_pid_cmp}
use Rattle.sys_abi.proofs.OrderLaws.{vpid_total, vpid_exact, real_pid_total, real_pid_exact}
use Rattle.proc_book.specs.declared.process.Process as real_process
use Rattle.proc_book.specs.declared.waiting.Waiting as real_waiting
use Rattle.proc_book.specs.declared.waiting.Waiting.TheVariants as found
use Rattle.proc_book.specs.Processes as procs
use Rattle.proc_book.specs.Ends as ends
use Rattle.proc_book.specs.Procs as table
use Rattle.proc_book.proofs.Leasts as real_leasts
use Rattle.plain_machine.specs.OfPlainTables.declared.process.Process.{Process}
use Rattle.plain_machine.specs.OfPlainTables.Tables.{FIRST_PID, NOBODY, Processes, Makers, pid, same_host}
use Rattle.plain_machine.specs.OfPlainTables.Ends.{is_child_of}
use Rattle.plain_machine.specs.OfPlainTables.Valid.Processes.{IsParent, HasParent, AreParents}
use Rattle.plain_machine.specs.OfPlainTables.declared.waiting.Waiting.{Waiting}
use Rattle.plain_machine.specs.OfPlainTables.declared.waiting.Waiting.TheVariants as plain
use Rattle.plain_machine.specs.OfPlainTables.Waits as waits
use Rattle.plain_machine.proofs.Leasts as plain_leasts
use Rattle.proc_book.specs.OfVirtIds.Pairs.{AreInverse}
use Rattle.host_tables.specs.Numbers.{Pids, Virts, IsNumberOf, AreNumbered, node_of, to_real, to_virt}
use Rattle.host_tables.specs.Processes.{SameProcess, SameProcesses}
use Rattle.host_tables.proofs.Ways.{lead_process}

-- the same finding, by the pairs
abbrev pub SameWait : Pids → Waiting → real_waiting.Waiting → Type 0
SameWait pids plain.NoChild found.NoChild = Unit {0}
SameWait pids plain.NotReady found.NotReady = Unit {0}
SameWait pids (plain.Ended q status) (found.Ended r real_status) =
    (to_real pids q ≡ Some r) × (status ≡ real_status)
SameWait pids _ _ = ⊥

same_finding : (pids : Pids) (f : Waiting) (g : real_waiting.Waiting)
    → SameLeast (to_real pids) (plain_leasts.finding f) (real_leasts.finding g) → SameWait pids f g
same_finding pids plain.NoChild found.NoChild same = tt
same_finding pids plain.NoChild found.NotReady same = same
same_finding pids plain.NoChild (found.Ended r status) same = same
same_finding pids plain.NotReady found.NoChild same = same
same_finding pids plain.NotReady found.NotReady same = tt
same_finding pids plain.NotReady (found.Ended r status) same = same
same_finding pids (plain.Ended q status) found.NoChild same = same
same_finding pids (plain.Ended q status) found.NotReady same = same
same_finding pids (plain.Ended q status) (found.Ended r real_status) same = same

-- the two ways to tell a status are one
same_status : (a b : Life) → a ≡ b → plain_leasts.status_of a ≡ table.status_by b
same_status Live b is = ap table.status_by is
same_status (Zombie status) b is = ap table.status_by is

-- what the orders say of numbers
less_number : (n m : ℕ) → nat_cmp n m ≡ Less → n < m
less_number n m is = grind (arith, nat_tests)

below_number : (n m : ℕ) → n < m → nat_cmp n m ≡ Less
below_number n m below = grind (arith, nat_tests)

by_parts : (r t : RealPid) → r.node ≡ t.node → r.pid < t.pid → real_pid_cmp r t ≡ Less
by_parts r t node below =
    ap (λ o. ordering_then o (nat_cmp r.pid t.pid))
    (ap (λ n. nat_cmp n t.node) node ∙ tied_itself nat_cmp_total t.node) ∙ below_number r.pid t.pid below

module _ (pids : Pids) (virts : Virts) (inverse : AreInverse pids virts) where
  module _ (p : VPid) (who : RealPid) (paired : map.get pids p.0 ≡ Some who) (first : FIRST_PID ≤ p.0) where
    pub same_parent : (o : Option RealPid) (n : ℕ) → IsNumberOf virts NOBODY o n
        → (n == p.0) ≡ procs.is_parent who o
    same_parent None n is = not_first (n == p.0) refl
      where
        low : (n q : ℕ) → n ≡ 1 → n ≡ q → FIRST_PID ≤ q → ⊥
        low n q e f h = omega (arith, e, f, h)

        not_first : (b : Bool) → (n == p.0) ≡ b → (n == p.0) ≡ false
        not_first true e = absurd (low n p.0 is (eqb-true n p.0 e) first)
        not_first false e = e
    same_parent (Some s) n is =
        both_ways (n == p.0) (eq_by_cmp real_pid_cmp who s)
        (λ e.
        let here = sym (inverse.leads_there n s is) ∙ ap (map.get pids) (eqb-true n p.0 e) ∙ paired in
        ap (eq_by_cmp real_pid_cmp who) (same_Some s who here) ∙ key_tied real_pid_total real_pid_exact who)
        (λ e.
        let here = ap (map.get virts) (sym (same_key real_pid_total real_pid_exact who s e)) in
        eq-eqb n p.0 (same_Some n p.0 (sym is ∙ here ∙ inverse.leads_back p.0 who paired)))

    one_same : (q : VPid) (r : RealPid) (life_is : Life) → map.get pids q.0 ≡ Some r
        → SameWait pids (waits.wait_of q life_is) (table.wait_of r life_is)
    one_same q r Live leads = tt
    one_same q r (Zombie status) leads = (leads, refl)

    abbrev virt_by : VPid → Bool → Life → Waiting
    virt_by q child life_is = cond child (waits.wait_of q life_is) plain.NoChild

    abbrev real_by : RealPid → Bool → Life → real_waiting.Waiting
    real_by r child life_is = cond child (table.wait_of r life_is) found.NoChild

    either : (q : VPid) (r : RealPid) (life_is : Life) → map.get pids q.0 ≡ Some r → (child : Bool)
        → SameWait pids (virt_by q child life_is) (real_by r child life_is)
    either q r life_is leads true = one_same q r life_is leads
    either q r life_is leads false = tt

    by_child : (q : VPid) (r : RealPid) → map.get pids q.0 ≡ Some r
        → (o : Option Process) (m : Option real_process.Process)
        → Agree (SameProcess pids virts q r) o m → SameWait pids (waits.wait_by p q o) (table.wait_by who r m)
    by_child q r leads None None same = tt
    by_child q r leads None (Some y) same = absurd same
    by_child q r leads (Some x) None same = absurd same
    by_child q r leads (Some x) (Some y) same =
        let child = procs.is_child_of who y in
        subst (λ (b : Bool). SameWait pids (virt_by q b x.life) (real_by r child y.life))
        (sym (same_parent y.parent x.parent same.parent))
        (subst (λ (life_is : Life). SameWait pids (virt_by q child x.life) (real_by r child life_is)) same.life
        (either q r x.life leads child))

    -- a child of that number
    pub same_wait_by : (virt : Processes) (real : ends.Processes) → SameProcesses pids virts virt real
        → (q : VPid) (r : RealPid) → map.get pids q.0 ≡ Some r
        → SameWait pids (waits.wait_by p q (map.get virt q)) (table.wait_by who r (map.get real r))
    same_wait_by virt real same q r leads =
        by_child q r leads (map.get virt q) (map.get real r) (same.at q r leads)

    module _ (nodes : List ℕ) (virt : Processes) (makers : Makers) (real : ends.Processes)
        (numbered : AreNumbered nodes pids virt makers) (parents : AreParents virt makers)
        (same : SameProcesses pids virts virt real) where
      -- a child is of its parent's host
      child_host : (q : VPid) (x : Process) → map.get virt q ≡ Some x → is_child_of p x ≡ true
          → same_host (map.get makers q) (map.get makers p) ≡ true
      child_host q x there child =
          by_life x.life (parents.each q x there)
        where
          is_p : x.parent ≡ p.0
          is_p = eqb-true x.parent p.0 child

          of_parent : IsParent virt makers q x.parent → same_host (map.get makers q) (map.get makers p) ≡ true
          of_parent is =
              subst (λ n. same_host (map.get makers q) (map.get makers (pid n)) ≡ true) is_p is.host

          by_life : (life : Life) → HasParent virt makers q x.parent life
              → same_host (map.get makers q) (map.get makers p) ≡ true
          by_life Live has = ⊎_elim (λ nobody. absurd (low x.parent p.0 nobody is_p first)) of_parent has
            where
              low : (n m : ℕ) → n ≡ NOBODY → n ≡ m → FIRST_PID ≤ m → ⊥
              low n m e f h = omega (arith, e, f, h)
          by_life (Zombie status) has = of_parent has.0

      -- two children are of one host
      same_hosts : (a b c : Option Maker) → same_host a c ≡ true → same_host b c ≡ true → same_host a b ≡ true
      same_hosts (Some a) (Some b) (Some c) ac bc =
          eq-eqb a.host b.host (eqb-true a.host c.host ac ∙ sym (eqb-true b.host c.host bc))
      same_hosts (Some a) (Some b) None ac bc = true_false (sym ac)
      same_hosts (Some a) None (Some c) ac bc = true_false (sym bc)
      same_hosts (Some a) None None ac bc = true_false (sym bc)
      same_hosts None b (Some c) ac bc = true_false (sym ac)
      same_hosts None b None ac bc = true_false (sym ac)

      -- so they are of one node
      same_node : (q s : VPid) (x y : Process) (r t : RealPid) → map.get virt q ≡ Some x
          → map.get virt s ≡ Some y
          → map.get pids q.0 ≡ Some r → map.get pids s.0 ≡ Some t
          → (a b : Option Maker) → map.get makers q ≡ a → map.get makers s ≡ b → same_host a b ≡ true
          → r.node ≡ t.node
      same_node q s x y r t at_q at_s to_r to_t (Some a) (Some b) is_a is_b one =
          numbered.node q x a r at_q is_a to_r ∙ ap (node_of nodes) (eqb-true a.host b.host one)
          ∙ sym (numbered.node s y b t at_s is_b to_t)
      same_node q s x y r t at_q at_s to_r to_t (Some a) None is_a is_b one = true_false (sym one)
      same_node q s x y r t at_q at_s to_r to_t None b is_a is_b one = true_false (sym one)

      -- pairs keep the order of children
      order : (q s : VPid) (r t : RealPid) (x y : Process) → map.get virt q ≡ Some x → map.get virt s ≡ Some y
          → IsTrue (is_child_of p x) → IsTrue (is_child_of p y) → to_real pids q ≡ Some r
          → to_real pids s ≡ Some t
          → vpid_cmp q s ≡ Less → real_pid_cmp r t ≡ Less
      order q s r t x y at_q at_s child_q child_s to_r to_t less =
          let one =
          same_hosts (map.get makers q) (map.get makers s) (map.get makers p)
          (child_host q x at_q child_q) (child_host s y at_s child_s) in
          let node =
          same_node q s x y r t at_q at_s to_r to_t (map.get makers q) (map.get makers s) refl refl one in
          let above =
          numbered.order q s r t (ap is_some at_q) (ap is_some at_s) one to_r to_t
          (less_number q.0 s.0 less) in
          by_parts r t node above

      abbrev virt_found : Waiting
      virt_found = waits.wait_any p (map.entries virt)

      abbrev real_found : real_waiting.Waiting
      real_found = table.wait_any who (map.entries real)

      pub same_wait_any : SameWait pids virt_found real_found
      same_wait_any =
          same_finding pids virt_found real_found
          (same_least vpid_total vpid_exact real_pid_total real_pid_exact (to_real pids) (to_virt virts)
          (lead_process pids virts inverse) (SameProcess pids virts) virt real same
          (is_child_of p) plain_leasts.status_at (procs.is_child_of who) table.status_of
          (λ q r x y is. same_parent y.parent x.parent is.parent)
          (λ q r x y is. same_status x.life y.life is.life) order
          (plain_leasts.finding virt_found) (real_leasts.finding real_found)
          (plain_leasts.finds-wait_any p virt) (real_leasts.finds-any who real))
