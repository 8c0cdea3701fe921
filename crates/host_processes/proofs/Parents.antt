-- A process's parent through the pairs.
--     parent_told      the number that tells it
use Rattle.std.proofs.Common.{◌≡◌, ℕ, ◌≤◌, Bool, true, false, cond, Option, Some, None, refl, sym, ap, ◌∙◌, subst, arith, ⊎_elim}
use Rattle.std.specs.Prelude.{◌==◌, option_and_then}
use Rattle.std.specs.FinMap as map
use Rattle.std.proofs.lemmas.Bool.{eqb-true}
use Rattle.views.specs.Seen.{Agree}
use Rattle.sys_abi.specs.declared.identity.VPid.{VPid}
use Rattle.sys_abi.specs.declared.identity.RealPid.{RealPid}
use Rattle.sys_abi.specs.declared.life.Life.{Life}
use Rattle.sys_abi.specs.declared.life.Life.TheVariants.{Live, Zombie}
use Rattle.proc_book.specs.declared.process.Process as real_process
use Rattle.plain_tables.specs.declared.process.Process.{Process}
use Rattle.plain_tables.specs.Tables.{FIRST_PID, NOBODY, pid}
use Rattle.plain_tables.specs.Valid.Processes.{IsParent, HasParent}
use Rattle.plain_machine.specs.declared.kernel.PlainKernel.{PlainKernel}
use Rattle.plain_machine.specs.Kernel.{is_live}
use Rattle.plain_machine.specs.Kernels.{IsKernel}
use Rattle.plain_machine.specs.Rows.Numbers.{parent_in}
use Rattle.host_descriptors.specs.OfHostTables.declared.kernel.Kernel.{Kernel}
use Rattle.host_descriptors.specs.OfHostTables.Numbers.{real, IsNumberOf}
use Rattle.host_descriptors.specs.OfHostTables.Processes.{SameProcess}
use Rattle.host_descriptors.specs.OfHostTables.Serves.{ByPidOr, ByPidUnless}
use Rattle.host_descriptors.specs.OfHostTables.Stands.{Given, Stands}
use Rattle.host_descriptors.proofs.OfHostTables.Neighbours.{there_by, neighbours_node}
use Rattle.host_processes.specs.Parents.{parent_value}

above : (n : ℕ) → 1 ≤ n → n ≡ 0 → ⊥
above n h e = omega (arith, h, e)

pub not_nobody : (n : ℕ) → FIRST_PID ≤ n → n ≡ NOBODY → ⊥
not_nobody n h e = omega (arith, h, e)

module _ (g : Given) (old : Kernel) (k : PlainKernel) (st : Stands g None old k) where
  not_zero : (v : ℕ) (s : RealPid) → map.get g.pids v ≡ Some s → (b : Bool) → (s.pid == 0) ≡ b
      → (s.pid == 0) ≡ false
  not_zero v s to_s true e = absurd (above s.pid (st.paired.handed_out v s to_s).first (eqb-true s.pid 0 e))
  not_zero v s to_s false e = e

  -- a number that is paired is never 0
  pub told_number : (none : ℕ) (who : RealPid) (m : ℕ) (s : RealPid) → map.get g.pids m ≡ Some s
      → s.node ≡ who.node → ByPidOr none who s.pid m g
  told_number none who m s to_s node =
      subst (λ b. ByPidUnless b none who s.pid m g) (sym (not_zero m s to_s (s.pid == 0) refl))
      (to_s ∙ (λ i. Some (real (node i) s.pid)))

  pub parent_of : (p : VPid) (n : ℕ) → (n ≡ NOBODY → ⊥) → (life : Life)
      → HasParent k.processes k.makers p n life
      → IsParent k.processes k.makers p n
  parent_of p n some Live has = ⊎_elim (λ nobody. absurd (some nobody)) (λ is. is) has
  parent_of p n some (Zombie status) has = has.0

  module _ (whole : IsKernel k) (p : VPid) (who : RealPid) (paired : map.get g.pids p.0 ≡ Some who) where
    nobody_by : (n : ℕ) → n ≡ NOBODY → (b : Bool) → cond b n NOBODY ≡ NOBODY
    nobody_by n is true = is
    nobody_by n is false = refl

    by_parent : (x : Process) → map.get k.processes p ≡ Some x → (o : Option RealPid)
        → IsNumberOf g.virts NOBODY o x.parent
        → ByPidOr NOBODY who (parent_value o) (parent_in k (Some x)) g
    unfolding is_live
    by_parent x is None nobody = nobody_by x.parent nobody (is_live k (pid x.parent))
    by_parent x is (Some s) virt =
        let to_s = st.paired.inverse.leads_there x.parent s virt in
        let some : (x.parent ≡ NOBODY → ⊥) =
        not_nobody x.parent (st.paired.handed_out x.parent s to_s).virt in
        let of = parent_of p x.parent some x.life (whole.parents.each p x is) in
        let y = there_by (map.get k.processes (pid x.parent)) of.alive in
        subst (λ m. ByPidOr NOBODY who s.pid m g) (sym (ap (λ b. cond b x.parent NOBODY) of.alive))
        (told_number NOBODY who x.parent s to_s
        (neighbours_node g old k st p (pid x.parent) who s x y.0 is y.1 of.host paired to_s))

    by_both : (o : Option Process) (q : Option real_process.Process) → map.get k.processes p ≡ o
        → Agree (SameProcess g.pids g.virts p who) o q
        → ByPidOr NOBODY who (parent_value (option_and_then (λ y. y.parent) q)) (parent_in k o) g
    by_both None None is same = refl
    by_both None (Some y) is same = absurd same
    by_both (Some x) None is same = absurd same
    by_both (Some x) (Some y) is same = by_parent x is y.parent same.parent

    pub parent_told : ByPidOr NOBODY who
        (parent_value (option_and_then (λ y. y.parent) (map.get old.procs.processes who)))
        (parent_in k (map.get k.processes p)) g
    parent_told =
        by_both (map.get k.processes p) (map.get old.procs.processes who) refl (st.processes.at p who paired)
