-- A process leaves, through the pairs.
--     left_kept      its live parent hears of it and it stays as a zombie, or it is gone
--     leaves         the whole
--     ended          after its descriptors closed
use Rattle.std.proofs.Common.{◌≡◌, ℕ, ◌≤◌, Bool, true, false, Option, Some, None, refl, sym, ap, ◌∙◌, subst, arith}
use Rattle.std.specs.Prelude.{if◌then◌else◌}
use Rattle.std.specs.Option.{option_map_or}
use Rattle.std.specs.FinMap as map
use Rattle.views.specs.Limits.{DESCRIPTOR_LIMIT}
use Rattle.views.proofs.MapLaws.{true_false}
use Rattle.sys_abi.specs.declared.identity.VPid.{VPid}
use Rattle.sys_abi.specs.declared.identity.RealPid.{RealPid}
use Rattle.sys_abi.specs.declared.signals.TheConstants.{SIGCHLD}
use Rattle.sys_abi.specs.Lives.{lives}
use Rattle.virt_ids.specs.Changes.{at_key}
use Rattle.fd_book.specs.Books.{Books}
use Rattle.proc_book.specs.declared.process.Process as real_process
use Rattle.proc_book.specs.Processes.{raised, zombie}
use Rattle.proc_book.specs.Ends as real_ends
use Rattle.proc_book.specs.Procs.{ProcTable}
use Rattle.plain_tables.specs.declared.process.Process.{Process}
use Rattle.plain_tables.specs.Tables.{FIRST_PID, NOBODY, pid, is_live_process}
use Rattle.plain_machine.specs.declared.kernel.PlainKernel.{PlainKernel}
use Rattle.plain_machine.specs.Kernel.{is_live, without_process, after_raise_for_all}
use Rattle.plain_machine.specs.Ends.{closed_below, without_owner, without_children, with_zombie, left_to, left_by, after_end}
use Rattle.plain_machine.specs.Kernels.{IsKernel}
use Rattle.plain_machine.proofs.WholeClosing.{whole_closed_below, closed_below_closes}
use Rattle.host_descriptors.specs.OfHostTables.declared.kernel.Kernel.{Kernel}
use Rattle.host_descriptors.specs.OfHostTables.Numbers.{IsNumberOf}
use Rattle.host_descriptors.specs.OfHostTables.Serves.{Through}
use Rattle.host_descriptors.specs.OfHostTables.Stands.{Given, Stands}
use Rattle.host_descriptors.proofs.OfHostTables.LookUps.{some_value, process_of, lives_of}
use Rattle.host_processes.proofs.Raised.{changed_now, raised_for_process}
use Rattle.host_processes.proofs.Reaped.{reaped_kept}
use Rattle.host_processes.specs.Leaves.{after_leave}
use Rattle.host_processes.proofs.Disowned.{without_real_owner, disowned_kept}
use Rattle.host_processes.proofs.FewerProcesses.{orphaned_kept, zombie_kept}

-- a process that lives is there
pub live_there : (o : Option real_process.Process) → option_map_or (λ y. lives y.life) o false ≡ true
    → (y : real_process.Process) × ((o ≡ Some y) × (lives y.life ≡ true))
live_there None e = true_false (sym e)
live_there (Some y) e = (y, (refl, e))

low : (n : ℕ) → FIRST_PID ≤ n → n ≡ NOBODY → ⊥
low n first is = omega (arith, first, is)

module _ (g : Given) (real : Kernel) (k : PlainKernel) (st : Stands g None real k) (p : VPid) (who : RealPid)
    (paired : map.get g.pids p.0 ≡ Some who) (status : ℕ) where
  abbrev with_processes : real_ends.Processes → Kernel
  with_processes m = record real { procs = record real.procs { processes = m } }

  gone : Stands g None (with_processes (map.remove real.procs.processes who)) (without_process p k)
  gone = reaped_kept g real k st p who paired

  -- nobody lives
  not_there : (n : ℕ) → n ≡ NOBODY → (o : Option Process) → map.get k.processes (pid n) ≡ o
      → is_live_process o ≡ false
  not_there n nobody None is = refl
  not_there n nobody (Some x) is =
      let s = some_value (map.get g.pids n) (st.numbered.process (pid n) x is) in
      absurd (low n (st.paired.handed_out n s.0 s.1).virt nobody)

  nobody_lives : (n : ℕ) → n ≡ NOBODY → is_live k (pid n) ≡ false
  unfolding is_live
  nobody_lives n nobody = not_there n nobody (map.get k.processes (pid n)) refl

  abbrev left_if : Bool → VPid → PlainKernel
  left_if b q =
      if b then with_zombie (after_raise_for_all k q SIGCHLD) p status else without_process p k

  abbrev real_left_if : Bool → RealPid → real_ends.Processes
  real_left_if b s =
      let m = real.procs.processes in
      if b then at_key (at_key m s (raised None SIGCHLD)) who (zombie status) else map.remove m who

  by_life : (q : VPid) (s : RealPid) → map.get g.pids q.0 ≡ Some s → (b : Bool)
      → real_ends.is_live_at real.procs.processes s ≡ b
      → Stands g None (with_processes (real_left_if b s)) (left_if b q)
  by_life q s to_s true alive =
      zombie_kept g (changed_now g real k st q s to_s (raised None SIGCHLD)) (after_raise_for_all k q SIGCHLD)
      (raised_for_process g real k st q s to_s SIGCHLD alive) p who paired status
  by_life q s to_s false alive = gone

  pub left_kept : (o : Option RealPid) (n : ℕ) → IsNumberOf g.virts NOBODY o n
      → Stands g None (with_processes (real_ends.left_by who status o real.procs.processes))
      (left_to k p status (pid n))
  left_kept None n nobody =
      subst (λ b. Stands g None (with_processes (map.remove real.procs.processes who)) (left_if b (pid n)))
      (sym (nobody_lives n nobody)) gone
  left_kept (Some s) n virt =
      let to_s = st.paired.inverse.leads_there n s virt in
      subst (λ b. Stands g None (with_processes (real_ends.left_by who status (Some s) real.procs.processes))
      (left_if b (pid n)))
      (sym (lives_of g real k st (pid n) s to_s))
      (by_life (pid n) s to_s (real_ends.is_live_at real.procs.processes s) refl)

module _ (g : Given) (real : Kernel) (k : PlainKernel) (st : Stands g None real k) (p : VPid) (who : RealPid)
    (paired : map.get g.pids p.0 ≡ Some who) (status : ℕ)
    (alive : real_ends.is_live_at real.procs.processes who ≡ true) where
  abbrev disowned_book : Books
  disowned_book = record real.book { descriptions = without_real_owner who real.book.descriptions }

  abbrev ended_procs : ProcTable
  ended_procs =
      record real.procs { processes = real_ends.after_end real.procs.processes who status }

  -- the process that was there
  module _ (y : real_process.Process) (there : map.get real.procs.processes who ≡ Some y)
      (living : lives y.life ≡ true) where
    after_is : real_ends.after_end real.procs.processes who status
        ≡ real_ends.left_by who status y.parent (real_ends.orphaned who real.procs.processes)
    after_is =
        ap (λ o. real_ends.ended_by who status o real.procs.processes) there
        ∙ ap (λ b. if b
        then real_ends.left_by who status y.parent (real_ends.orphaned who real.procs.processes)
        else real.procs.processes) living

    abbrev childless : PlainKernel
    childless = without_children (without_owner k p) p

    with_parent : (x : Process) → IsNumberOf g.virts NOBODY y.parent x.parent
        → Stands g None
        (record real {
          book = disowned_book;
          procs = record real.procs {
            processes = real_ends.left_by who status y.parent (real_ends.orphaned who real.procs.processes);
          };
        })
        (left_by childless p status (Some x))
    with_parent x parent =
        let disowned = disowned_kept g real k st p who paired in
        let orphaned =
        orphaned_kept g (record real { book = disowned_book }) (without_owner k p) disowned p who paired in
        left_kept g
        (record real {
          book = disowned_book;
          procs = record real.procs { processes = real_ends.orphaned who real.procs.processes };
        })
        childless orphaned p who paired status y.parent x.parent parent

    all_left : Stands g None (record real { book = disowned_book; procs = ended_procs }) (after_leave k p status)
    all_left =
        let x = process_of g real k st p who paired y there in
        subst (λ m. Stands g None
        (record real { book = disowned_book; procs = record real.procs { processes = m } })
        (after_leave k p status)) (sym after_is)
        (subst (λ o. Stands g None
        (record real {
          book = disowned_book;
          procs = record real.procs {
            processes = real_ends.left_by who status y.parent (real_ends.orphaned who real.procs.processes);
          };
        })
        (left_by childless p status o)) (sym x.1.0) (with_parent x.0 x.1.1.parent))

  pub leaves : (book : Books) → book ≡ disowned_book → (procs : ProcTable) → procs ≡ ended_procs
      → Stands g None (record real { book = book; procs = procs }) (after_leave k p status)
  leaves book book_is procs procs_is =
      let y = live_there (map.get real.procs.processes who) alive in
      subst (λ (b : Books). Stands g None (record real { book = b; procs = procs }) (after_leave k p status))
      (sym book_is)
      (subst (λ (t : ProcTable). Stands g None (record real { book = disowned_book; procs = t })
      (after_leave k p status)) (sym procs_is) (all_left y.0 y.1.0 y.1.1))

-- after all its descriptors closed it has ended
pub end_is : (k : PlainKernel) (p : VPid) (status : ℕ)
    → after_leave (closed_below k p DESCRIPTOR_LIMIT) p status ≡ after_end k p status
unfolding after_end
end_is k p status = ends_by k p status DESCRIPTOR_LIMIT
  where
    ends_by : (k : PlainKernel) (p : VPid) (status limit : ℕ)
        → after_leave (closed_below k p limit) p status
        ≡ left_by (without_children (without_owner (closed_below k p limit) p) p) p status (map.get k.processes p)
    ends_by k p status limit =
        ap (λ m. left_by (without_children (without_owner (closed_below k p limit) p) p) p status (map.get m p))
        (closed_below_closes k p limit).processes

-- the whole end, from what closing and leaving leave
module _ (g : Given) (real : Kernel) (k : PlainKernel) (whole : IsKernel k) (st : Stands g None real k) (p : VPid)
    (who : RealPid) (paired : map.get g.pids p.0 ≡ Some who) (mid : Kernel)
    (closed : Stands g None mid (closed_below k p DESCRIPTOR_LIMIT)) where
  -- it goes on living
  still_lives : real_ends.is_live_at real.procs.processes who ≡ true
      → real_ends.is_live_at mid.procs.processes who ≡ true
  unfolding is_live
  still_lives alive =
      sym (lives_of g mid (closed_below k p DESCRIPTOR_LIMIT) closed p who paired)
      ∙ ap (λ m. is_live_process (map.get m p)) (closed_below_closes k p DESCRIPTOR_LIMIT).processes
      ∙ lives_of g real k st p who paired ∙ alive

  pub ended : real_ends.is_live_at real.procs.processes who ≡ true → (new : Kernel) (status : ℕ)
      → (real_ends.is_live_at mid.procs.processes who ≡ true
      → Through mid who (λ g k p. Stands g None new (after_leave k p status)))
      → Stands g None new (after_end k p status)
  ended alive new status left =
      subst (λ (q : PlainKernel). Stands g None new q) (end_is k p status)
      (left (still_lives alive) g (closed_below k p DESCRIPTOR_LIMIT) p
      (whole_closed_below k p DESCRIPTOR_LIMIT whole) closed paired)
