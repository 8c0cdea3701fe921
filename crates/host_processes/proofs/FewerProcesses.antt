-- Processes that change without a further number, through the pairs.
--     AreFewer processes' processes makers' makers      each was there, with its threads and its maker
--     AreNumbered-fewer      the numbers are still those of processes and threads
--     orphaned_kept          a process has no children any more
--     zombie_kept            a process is a zombie
use Rattle.std.proofs.Common.{◌≡◌, ℕ, ◌≤◌, Bool, true, false, cond, List, Option, Some, None, refl, sym, ap, ◌∙◌, subst}
use Rattle.std.specs.Prelude.{◌&&◌, not, is_some, option_map, IsSome}
use Rattle.std.specs.Option.{option_map_or}
use Rattle.std.specs.Ordering.{nat_cmp}
use Rattle.std.specs.FinMap as map
use Rattle.views.specs.Maps.{retain, option_filter}
use Rattle.views.specs.Seen.{Agree}
use Rattle.views.proofs.MapLaws.{true_false}
use Rattle.views.proofs.MapValues.{get-map_values, get-retained}
use Rattle.views.proofs.Seen.{agree_by, SeenBy-empty}
use Rattle.sys_abi.specs.declared.identity.VPid.{VPid}
use Rattle.sys_abi.specs.declared.identity.RealPid.{RealPid}
use Rattle.sys_abi.specs.declared.maker.Maker.{Maker}
use Rattle.sys_abi.specs.Lives.{lives}
use Rattle.sys_abi.proofs.OrderLaws.{vpid_total, vpid_exact, real_pid_total, real_pid_exact}
use Rattle.proc_book.specs.declared.process.Process as real_process
use Rattle.proc_book.specs.Processes as procs
use Rattle.proc_book.specs.Ends as real_ends
use Rattle.plain_tables.specs.declared.process.Process.{Process}
use Rattle.plain_tables.specs.Tables.{FIRST_PID, NOBODY, Processes, Makers, same_host, changed_by}
use Rattle.plain_tables.specs.Ends.{is_child_of, is_zombie_child, orphan, orphaned, makers_of, zombie}
use Rattle.plain_tables.proofs.Entries.{retained}
use Rattle.plain_tables.proofs.Orphans.{orphan_threads, look_up, orphan_was}
use Rattle.plain_machine.specs.declared.kernel.PlainKernel.{PlainKernel}
use Rattle.plain_machine.specs.Ends.{without_children, with_zombie}
use Rattle.virt_ids.specs.Pairs.{AreInverse}
use Rattle.host_descriptors.specs.OfHostTables.declared.kernel.Kernel.{Kernel}
use Rattle.host_descriptors.specs.OfHostTables.Numbers.{Pids, Virts, AreNumbered, to_real_thread, to_virt_thread}
use Rattle.host_descriptors.specs.OfHostTables.Processes.{IsSame, SameProcess, SameProcesses}
use Rattle.host_descriptors.specs.OfHostTables.Stands.{Given, Stands}
use Rattle.host_descriptors.proofs.OfHostTables.Frames.{procs_kept}
use Rattle.host_descriptors.proofs.OfHostTables.ProcessChanges.{HasNoMore}
use Rattle.host_descriptors.proofs.OfHostTables.Waits.{same_parent}
use Rattle.host_processes.proofs.Raised.{changed_now, changed}

pub record AreFewer (processes' processes : Processes) (makers' makers : Makers) : Type 0 where
  pub process : (q : VPid) (x : Process) → map.get processes' q ≡ Some x
      → (z : Process) × ((map.get processes q ≡ Some z) × HasNoMore x z)
  pub maker : (q : VPid) (m : Maker) → map.get makers' q ≡ Some m → map.get makers q ≡ Some m

module _ (nodes : List ℕ) (pids : Pids) (processes processes' : Processes) (makers makers' : Makers)
    (are : AreNumbered nodes pids processes makers) (fewer : AreFewer processes' processes makers' makers) where
  some_was : (q : VPid) (o : Option Process) → map.get processes' q ≡ o → IsSome o → IsSome (map.get processes q)
  some_was q None e h = true_false (sym h)
  some_was q (Some x) e h = ap is_some (fewer.process q x e).1.0

  hosts_were : (q u : VPid) (a b : Option Maker) → map.get makers' q ≡ a → map.get makers' u ≡ b
      → same_host a b ≡ true → same_host (map.get makers q) (map.get makers u) ≡ true
  hosts_were q u None b e f h = true_false (sym h)
  hosts_were q u (Some m) None e f h = true_false (sym h)
  hosts_were q u (Some m) (Some n) e f h = (λ i. same_host (fewer.maker q m e i) (fewer.maker u n f i)) ∙ h

  pub AreNumbered-fewer : AreNumbered nodes pids processes' makers'
  AreNumbered-fewer = record {
    process = λ q x is. let z = fewer.process q x is in are.process q z.0 z.1.0;
    thread = λ q x t is at. let z = fewer.process q x is in are.thread q z.0 t z.1.0 (z.1.1 t at);
    node = λ q x m r is made leads.
        let z = fewer.process q x is in are.node q z.0 m r z.1.0 (fewer.maker q m made) leads;
    thread_node = λ q x t r s is at leads thread.
        let z = fewer.process q x is in are.thread_node q z.0 t r s z.1.0 (z.1.1 t at) leads thread;
    order = λ q u r s at_q at_u on leads_q leads_u less.
        are.order q u r s (some_was q (map.get processes' q) refl at_q) (some_was u (map.get processes' u) refl at_u)
        (hosts_were q u (map.get makers' q) (map.get makers' u) refl refl on) leads_q leads_u less;
  }

-- a process without its children

module _ (p : VPid) (processes : Processes) (makers : Makers) where
  orphan_no_more : (x : Process) → HasNoMore (orphan p x) x
  orphan_no_more x t at = ap (λ threads. is_some (map.get threads t)) (sym (orphan_threads p x)) ∙ at

  pub orphans_fewer : AreFewer (orphaned p processes) processes (makers_of (orphaned p processes) makers) makers
  orphans_fewer = record {
    process = λ q x is.
        let was = orphan_was p processes q x is in
        (was.old, (was.there, subst (λ y. HasNoMore y was.old) (sym was.is_orphan) (orphan_no_more was.old)));
    maker = λ q m is.
        (retained vpid_total vpid_exact makers (λ r. is_some (map.get (orphaned p processes) r)) q m is).1;
  }

module _ (pids : Pids) (virts : Virts) (inverse : AreInverse pids virts) (p : VPid) (who : RealPid)
    (paired : map.get pids p.0 ≡ Some who) (first : FIRST_PID ≤ p.0) where
  abbrev virt_left : Option Process → Option Process
  virt_left o = option_map (orphan p) (option_filter (λ x. not (is_zombie_child p x)) o)

  abbrev real_left : Option real_process.Process → Option real_process.Process
  real_left o = option_map (real_ends.orphan who) (option_filter (λ y. not (real_ends.is_zombie_child who y)) o)

  real_look_up : (m : real_ends.Processes) (r : RealPid)
      → map.get (real_ends.orphaned who m) r ≡ real_left (map.get m r)
  real_look_up m r =
      get-map_values (real_ends.orphan who) (retain (λ s y. not (real_ends.is_zombie_child who y)) m) r
      ∙ ap (option_map (real_ends.orphan who))
      (get-retained real_pid_total real_pid_exact (λ s y. not (real_ends.is_zombie_child who y)) m r)

  module _ (q : VPid) (r : RealPid) (x : Process) (y : real_process.Process) (is : SameProcess pids virts q r x y) where
    same_child : is_child_of p x ≡ procs.is_child_of who y
    same_child = same_parent pids virts inverse p who paired first y.parent x.parent is.parent

    same_zombie : is_zombie_child p x ≡ real_ends.is_zombie_child who y
    same_zombie = λ i. same_child i && not (lives (is.life i))

    orphans_by : (b : Bool) → SameProcess pids virts q r (cond b (record x { parent = NOBODY }) x)
        (cond b (record y { parent = None }) y)
    orphans_by true =
        record { life = is.life; pending = is.pending; parent = refl; threads = is.threads }
    orphans_by false = is

    orphans_same : SameProcess pids virts q r (orphan p x) (real_ends.orphan who y)
    orphans_same =
        subst (λ b. SameProcess pids virts q r (cond b (record x { parent = NOBODY }) x) (real_ends.orphan who y))
        (sym same_child) (orphans_by (procs.is_child_of who y))

    kept_by : (b : Bool) → Agree (SameProcess pids virts q r) (option_map (orphan p) (cond (not b) (Some x) None))
        (option_map (real_ends.orphan who) (cond (not b) (Some y) None))
    kept_by true = tt
    kept_by false = orphans_same

    either_kept : Agree (SameProcess pids virts q r) (virt_left (Some x)) (real_left (Some y))
    either_kept =
        subst (λ b. Agree (SameProcess pids virts q r) (option_map (orphan p) (cond (not b) (Some x) None))
        (real_left (Some y))) (sym same_zombie) (kept_by (real_ends.is_zombie_child who y))

  agree_left : (q : VPid) (r : RealPid) (o : Option Process) (m : Option real_process.Process)
      → Agree (SameProcess pids virts q r) o m → Agree (SameProcess pids virts q r) (virt_left o) (real_left m)
  agree_left q r None None is = tt
  agree_left q r None (Some y) is = absurd is
  agree_left q r (Some x) None is = absurd is
  agree_left q r (Some x) (Some y) is = either_kept q r x y is

  pub SameProcesses-orphaned : (virt : Processes) (real : real_ends.Processes) → SameProcesses pids virts virt real
      → SameProcesses pids virts (orphaned p virt) (real_ends.orphaned who real)
  SameProcesses-orphaned virt real same = record {
    at = λ q r leads.
        agree_by (SameProcess pids virts q r) (virt_left (map.get virt q)) _ (real_left (map.get real r)) _
        (look_up p virt q) (real_look_up real r)
        (agree_left q r (map.get virt q) (map.get real r) (same.at q r leads));
    virt_alone = λ q none. look_up p virt q ∙ ap virt_left (same.virt_alone q none);
    real_alone = λ r none. real_look_up real r ∙ ap real_left (same.real_alone r none);
  }

module _ (g : Given) (real : Kernel) (k : PlainKernel) (st : Stands g None real k) (p : VPid) (who : RealPid)
    (paired : map.get g.pids p.0 ≡ Some who) where
  pub orphaned_kept : Stands g None
      (record real {
        procs = record real.procs { processes = real_ends.orphaned who real.procs.processes };
      })
      (without_children k p)
  orphaned_kept =
      procs_kept g None real k st
      (record real.procs { processes = real_ends.orphaned who real.procs.processes })
      (orphaned p k.processes) (makers_of (orphaned p k.processes) k.makers) st.paired
      (AreNumbered-fewer real.nodes g.pids k.processes (orphaned p k.processes) k.makers
      (makers_of (orphaned p k.processes) k.makers) st.numbered (orphans_fewer p k.processes k.makers))
      (SameProcesses-orphaned g.pids g.virts st.paired.inverse p who paired
      (st.paired.handed_out p.0 who paired).virt k.processes real.procs.processes st.processes)

  -- a process that stays as a zombie, if it is there
  module _ (status : ℕ) where
    zombie_fewer : (x : Process) → HasNoMore (zombie status x) x
    zombie_fewer x t at = true_false (sym at ∙ ap is_some (map.get-empty {X = ℕ} nat_cmp t))

    zombies_same : (x : Process) (y : real_process.Process) → SameProcess g.pids g.virts p who x y
        → SameProcess g.pids g.virts p who (zombie status x) (procs.zombie status y)
    zombies_same x y is = record {
      life = refl;
      pending = refl;
      parent = is.parent;
      threads = SeenBy-empty nat_cmp nat_cmp (to_real_thread g.pids who.node) (to_virt_thread g.virts who.node)
          IsSame;
    }

    by_both : (o : Option Process) (m : Option real_process.Process) → map.get k.processes p ≡ o
        → map.get real.procs.processes who ≡ m → Agree (SameProcess g.pids g.virts p who) o m
        → Stands g None (changed_now g real k st p who paired (procs.zombie status)) (with_zombie k p status)
    by_both None None is_o is_m is =
        subst (λ m. Stands g None (record real { procs = record real.procs { processes = m } })
        (with_zombie k p status))
        (sym (ap (λ o. option_map_or (λ value. map.insert real.procs.processes who (procs.zombie status value)) o
        real.procs.processes) is_m))
        (subst (λ m. Stands g None real (record k { processes = m }))
        (sym (ap (changed_by k.processes p (zombie status)) is_o)) st)
    by_both None (Some y) is_o is_m is = absurd is
    by_both (Some x) None is_o is_m is = absurd is
    by_both (Some x) (Some y) is_o is_m is =
        changed g real k st p who paired (zombie status) (procs.zombie status) x y is_o is_m
        (zombie_fewer x) (zombies_same x y is)

    pub zombie_kept : Stands g None (changed_now g real k st p who paired (procs.zombie status))
        (with_zombie k p status)
    zombie_kept =
        by_both (map.get k.processes p) (map.get real.procs.processes who) refl refl (st.processes.at p who paired)
