-- A process that changes, and a signal that becomes pending, through the pairs.
--     changed                                    a process changes on both sides
--     raised_for_process, raised_for_thread      the kernel goes on to stand
--     sent                                       the end of the rows that raise one
use Rattle.std.proofs.Common.{◌≡◌, ℕ, Bool, true, false, List, Option, Some, None, inl, inr, refl, sym, ap, ◌∙◌, subst}
use Rattle.std.specs.Prelude.{◌&&◌, is_some, unwrap_or, if◌then◌else◌}
use Rattle.std.specs.Option.{option_map_or}
use Rattle.std.specs.Cmp.{nat_cmp_total}
use Rattle.std.specs.declared.cmp.Ordering.{Ordering}
use Rattle.std.specs.FinMap as map
use Rattle.std.specs.FinMap.{nat_cmp-IsAntisymmetric}
use Rattle.views.specs.Numbers.{Byte}
use Rattle.views.specs.Seen.{SeenBy}
use Rattle.views.proofs.MapLaws.{true_false, same_or_other, get_insert_other}
use Rattle.views.proofs.Seen.{agree_same, SeenBy-insert}
use Rattle.sys_abi.specs.declared.identity.VPid.{VPid}
use Rattle.sys_abi.specs.declared.identity.RealPid.{RealPid}
use Rattle.sys_abi.specs.declared.errors.TheConstants.{ESRCH}
use Rattle.sys_abi.specs.Signals.{with_signal}
use Rattle.virt_ids.specs.Changes.{at_key}
use Rattle.proc_book.specs.declared.process.Process as real_process
use Rattle.proc_book.specs.Processes as procs
use Rattle.proc_book.specs.Procs.{can_raise}
use Rattle.plain_process.specs.Attempts.{and_then, need}
use Rattle.plain_tables.specs.declared.process.Process.{Process}
use Rattle.plain_tables.specs.Tables.{changed_by, changed_at, signals_of, raised_at, raised_for_all}
use Rattle.plain_machine.specs.declared.kernel.PlainKernel.{PlainKernel}
use Rattle.plain_machine.specs.Attempts.{replied}
use Rattle.plain_machine.specs.Kernel.{after_raise, after_raise_for_all}
use Rattle.host_descriptors.specs.OfHostTables.declared.kernel.Kernel.{Kernel}
use Rattle.host_descriptors.specs.OfHostTables.Numbers.{to_real_thread, to_virt_thread}
use Rattle.host_descriptors.specs.OfHostTables.Processes.{IsSame, SameProcess}
use Rattle.host_descriptors.specs.OfHostTables.Serves.{Serves, ByNumber, same}
use Rattle.host_descriptors.specs.OfHostTables.Stands.{Given, Stands}
use Rattle.host_descriptors.proofs.OfHostTables.LookUps.{some_value, process_of}
use Rattle.host_descriptors.proofs.OfHostTables.ProcessChanges.{HasNoMore, process_changed}
use Rattle.host_descriptors.proofs.OfHostTables.Ways.{lead_thread}
use Rattle.host_processes.specs.Raises.{answer_by, raise_answer, with_raised}

at_key_is : {K X : Type 0} {R : K → K → Ordering} (m : map.FinMap R X) (at : K) (f : X → X) (x : X)
    → map.get m at ≡ Some x → at_key m at f ≡ map.insert m at (f x)
at_key_is m at f x is = ap (λ o. option_map_or (λ value. map.insert m at (f value)) o m) is

changed_is : {K X : Type 0} {R : K → K → Ordering} (m : map.FinMap R X) (at : K) (f : X → X) (x : X)
    → map.get m at ≡ Some x → changed_at m at f ≡ map.insert m at (f x)
changed_is m at f x is = ap (changed_by m at f) is

-- a process that can have the signal raised is there
pub raises : (o : Option real_process.Process) (t : Option ℕ)
    → option_map_or (procs.lives_with t) o false ≡ true
    → (y : real_process.Process) × ((o ≡ Some y) × (procs.lives_with t y ≡ true))
raises None t e = true_false (sym e)
raises (Some y) t e = (y, (refl, e))

and_right : (a b : Bool) → (a && b) ≡ true → b ≡ true
and_right true b e = e
and_right false b e = true_false (sym e)

no_more : (x : Process) (t v w : ℕ) → map.get x.threads t ≡ Some w
    → HasNoMore (record x { threads = map.insert x.threads t v }) x
no_more x t v w is u at = elim (same_or_other nat_cmp_total nat_cmp-IsAntisymmetric u t) [
  | inl here ↦ ap is_some (ap (map.get x.threads) here ∙ is)
  | inr differ ↦
      sym (ap is_some (get_insert_other nat_cmp_total nat_cmp-IsAntisymmetric x.threads t v u differ)) ∙ at
]

module _ (g : Given) (real : Kernel) (k : PlainKernel) (st : Stands g None real k) (q : VPid) (r : RealPid)
    (paired : map.get g.pids q.0 ≡ Some r) where
  abbrev pub changed_now : (real_process.Process → real_process.Process) → Kernel
  changed_now h =
      let processes = at_key real.procs.processes r h in
      record real { procs = record real.procs { processes = processes } }

  -- a process changes on both sides
  pub changed : (f : Process → Process) (h : real_process.Process → real_process.Process) (x : Process)
      (y : real_process.Process) → map.get k.processes q ≡ Some x → map.get real.procs.processes r ≡ Some y
      → HasNoMore (f x) x → SameProcess g.pids g.virts q r (f x) (h y)
      → Stands g None (changed_now h) (record k { processes = changed_at k.processes q f })
  changed f h x y is_x is_y fewer is =
      subst (λ m. Stands g None (changed_now h) (record k { processes = m }))
      (sym (changed_is k.processes q f x is_x))
      (subst (λ m. Stands g None (record real { procs = record real.procs { processes = m } })
      (record k { processes = map.insert k.processes q (f x) }))
      (sym (at_key_is real.procs.processes r h y is_y))
      (process_changed g None real k st q r paired x (f x) (h y) is_x fewer is))

  module _ (s : ℕ) where
    pub raised_for_process : can_raise real.procs.processes r None ≡ true
        → Stands g None (changed_now (procs.raised None s)) (after_raise_for_all k q s)
    unfolding after_raise_for_all
    raised_for_process can =
        let y = raises (map.get real.procs.processes r) None can in
        let x = process_of g real k st q r paired y.0 y.1.0 in
        let is = x.1.1 in
        changed (raised_for_all s) (procs.raised None s) x.0 y.0 x.1.0 y.1.0 (λ t at. at) (record {
          life = is.life;
          pending = ap (λ set. with_signal set s) is.pending;
          parent = is.parent;
          threads = is.threads;
        })

    module _ (t u : ℕ) (leads : to_real_thread g.pids r.node t ≡ Some u) where
      pub raised_for_thread : can_raise real.procs.processes r (Some u) ≡ true
          → Stands g None (changed_now (procs.raised (Some u) s)) (after_raise k q t s)
      unfolding after_raise
      raised_for_thread can =
          let y = raises (map.get real.procs.processes r) (Some u) can in
          let x = process_of g real k st q r paired y.0 y.1.0 in
          let is = x.1.1 in
          let set = some_value (map.get y.0.threads u)
          (and_right (procs.is_live y.0) (is_some (map.get y.0.threads u)) y.1.1) in
          let here : map.get x.0.threads t ≡ Some set.0 =
          agree_same (map.get x.0.threads t) (map.get y.0.threads u) (is.threads.at t u leads) ∙ set.1 in
          changed (raised_at t s) (procs.raised (Some u) s) x.0 y.0 x.1.0 y.1.0
          (no_more x.0 t (with_signal (signals_of t x.0) s) set.0 here) (record {
            life = is.life;
            pending = is.pending;
            parent = is.parent;
            threads = subst (SeenBy (to_real_thread g.pids r.node) (to_virt_thread g.virts r.node) IsSame
                (map.insert x.0.threads t (with_signal (signals_of t x.0) s)))
                (sym (at_key_is y.0.threads u (λ set. with_signal set s) set.0 set.1))
                (SeenBy-insert nat_cmp_total nat_cmp-IsAntisymmetric nat_cmp_total nat_cmp-IsAntisymmetric
                (to_real_thread g.pids r.node) (to_virt_thread g.virts r.node)
                (lead_thread g.pids g.virts st.paired.inverse r.node) IsSame x.0.threads y.0.threads
                is.threads
                t u
                leads (with_signal (signals_of t x.0) s) (with_signal set.0 s)
                (ap (λ o. with_signal (unwrap_or o 0) s) here));
          })

-- the answer by the test of the process or thread
module _ (g : Given) (real : Kernel) (x : List Byte) (r : RealPid) (t : Option ℕ) (s : ℕ)
    (k : PlainKernel) where
  abbrev after : Bool → Kernel
  after c = record real {
    procs = record real.procs {
      processes = if c then at_key real.procs.processes r (procs.raised t s) else real.procs.processes;
    };
  }

  by_test : (b c : Bool) → b ≡ c → (c ≡ true → Stands g None (after true) k)
      → Serves ByNumber same g real (after c) x x (answer_by c) (and_then (need b ESRCH) (λ _. replied k 0))
  unfolding and_then need
  by_test true true e stands = record { reply = refl; bytes = refl; stands = stands refl }
  by_test false false e stands = record { answer = refl; kernel = refl; bytes = refl }
  by_test true false e stands = true_false e
  by_test false true e stands = true_false (sym e)

  pub sent : (b : Bool) → b ≡ can_raise real.procs.processes r t
      → (can_raise real.procs.processes r t ≡ true → Stands g None (after true) k)
      → Serves ByNumber same g real (with_raised real r t s) x x (raise_answer real r t)
      (and_then (need b ESRCH) (λ _. replied k 0))
  sent b e stands = by_test b (can_raise real.procs.processes r t) e stands
