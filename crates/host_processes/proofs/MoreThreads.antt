-- A thread more, through the pairs: the kernel then stands for the kernel part with it by the pairs with one
-- more.
--     threaded_kept
--     same_thread_count      either side tells how many threads the process has
use Rattle.std.proofs.Common.{◌≡◌, true, Option, Some, None, refl, sym, ap, subst}
use Rattle.std.specs.Option.{option_map_or}
use Rattle.std.specs.declared.cmp.Ordering.{Ordering}
use Rattle.std.specs.FinMap as map
use Rattle.views.specs.Seen.{Agree}
use Rattle.sys_abi.specs.declared.identity.VPid.{VPid}
use Rattle.sys_abi.specs.declared.identity.RealPid.{RealPid}
use Rattle.virt_ids.specs.Changes.{at_key}
use Rattle.proc_book.specs.declared.process.Process as real_process
use Rattle.proc_book.specs.Ends as procs
use Rattle.proc_book.specs.Ends.{is_live_at}
use Rattle.proc_book.specs.Procs.{threads_at, with_thread, after_add_thread}
use Rattle.plain_tables.specs.declared.process.Process.{Process}
use Rattle.plain_tables.specs.Tables.{Processes, changed_by, changed_at, with_thread_entry, thread_count_in}
use Rattle.plain_machine.specs.declared.kernel.PlainKernel.{PlainKernel}
use Rattle.plain_machine.specs.Kernel.{thread_count, with_next_thread}
use Rattle.plain_machine.specs.Kernels.{IsKernel}
use Rattle.host_descriptors.specs.OfHostTables.declared.kernel.Kernel.{Kernel}
use Rattle.host_descriptors.specs.OfHostTables.Numbers.{AreNumbered}
use Rattle.host_descriptors.specs.OfHostTables.Processes.{SameProcess, SameProcesses}
use Rattle.host_descriptors.specs.OfHostTables.Requests.{AreBelow}
use Rattle.host_descriptors.specs.OfHostTables.Stands.{Given, Stands, with_number}
use Rattle.host_descriptors.proofs.OfHostTables.GrownTopics.{SameDescriptors-grows, SameDescriptions-grows}
use Rattle.host_descriptors.proofs.OfHostTables.LookUps.{real_process_of}
use Rattle.host_descriptors.proofs.OfHostTables.MorePairs.{real_here}
use Rattle.host_descriptors.proofs.OfHostTables.ProcessChanges as changes
use Rattle.host_processes.proofs.MoreNumbers.{AreNumbered-thread}
use Rattle.host_processes.proofs.MoreProcesses.{SameProcesses-thread}
use Rattle.host_processes.proofs.NewNumbers.{its_process, born, unpaired_v, unpaired_r, paired_more, pairs_kept, numbered_more}

changed_is : {K X : Type 0} {R : K → K → Ordering} (m : map.FinMap R X) (at : K) (f : X → X) (x : X)
    → map.get m at ≡ Some x → changed_at m at f ≡ map.insert m at (f x)
changed_is m at f x is = ap (changed_by m at f) is

at_key_is : {K X : Type 0} {R : K → K → Ordering} (m : map.FinMap R X) (at : K) (f : X → X) (x : X)
    → map.get m at ≡ Some x → at_key m at f ≡ map.insert m at (f x)
at_key_is m at f x is = ap (λ o. option_map_or (λ value. map.insert m at (f value)) o m) is

module _ (g : Given) (old : Kernel) (k : PlainKernel) (whole : IsKernel k) (st : Stands g None old k)
    (p : VPid) (who : RealPid) (paired : map.get g.pids p.0 ≡ Some who) where
  count_by : (o : Option Process) (q : Option real_process.Process)
      → Agree (SameProcess g.pids g.virts p who) o q
      → thread_count_in o ≡ option_map_or (λ y. map.len y.threads) q 0
  count_by None None is = refl
  count_by None (Some y) is = absurd is
  count_by (Some x) None is = absurd is
  count_by (Some x) (Some y) is = sym (changes.same_threads g None old k st p who paired x y is)

  pub same_thread_count : thread_count k p ≡ threads_at old.procs.processes who
  same_thread_count =
      count_by (map.get k.processes p) (map.get old.procs.processes who) (st.processes.at p who paired)

  module _ (alive : is_live_at old.procs.processes who ≡ true) (below : AreBelow g k.next_id) where
    abbrev thread : RealPid
    thread = born g old k whole st p who paired below

    new_v : map.get g.pids k.next_id ≡ None
    new_v = unpaired_v g old k whole st p who paired below

    new_r : map.get g.virts thread ≡ None
    new_r = unpaired_r g old k whole st p who paired below

    numbered : AreNumbered old.nodes (map.insert g.pids k.next_id thread)
        (changed_at k.processes p (with_thread_entry k.next_id)) k.makers
    numbered =
        let x = its_process g old k whole st p who paired alive in
        subst (λ (m : Processes). AreNumbered old.nodes (map.insert g.pids k.next_id thread) m k.makers)
        (sym (changed_is k.processes p (with_thread_entry k.next_id) x.0 x.1))
        (AreNumbered-thread old.nodes (map.insert g.pids k.next_id thread) k.processes k.makers
        (numbered_more g old k whole st p who paired below) p x.0 x.1 k.next_id who thread
        (pairs_kept g old k whole st p who paired below p.0 who paired)
        (real_here g.pids g.virts st.paired.inverse k.next_id thread new_v new_r) refl)

    processes : SameProcesses (map.insert g.pids k.next_id thread) (map.insert g.virts thread k.next_id)
        (changed_at k.processes p (with_thread_entry k.next_id))
        (after_add_thread old.procs who).processes
    processes =
        let x = its_process g old k whole st p who paired alive in
        let y = real_process_of g old k st p who paired x.0 x.1 in
        subst (λ (m : Processes). SameProcesses (map.insert g.pids k.next_id thread)
        (map.insert g.virts thread k.next_id) m (after_add_thread old.procs who).processes)
        (sym (changed_is k.processes p (with_thread_entry k.next_id) x.0 x.1))
        (subst (λ (m : procs.Processes). SameProcesses (map.insert g.pids k.next_id thread)
        (map.insert g.virts thread k.next_id) (map.insert k.processes p (with_thread_entry k.next_id x.0)) m)
        (sym (at_key_is old.procs.processes who (with_thread thread.pid) y.0 y.1.0))
        (SameProcesses-thread g.pids g.virts st.paired.inverse k.next_id thread new_v new_r p who paired
        k.processes old.procs.processes st.processes x.0 y.0 y.1.1 refl))

    pub threaded_kept : Stands (with_number g k.next_id thread) None
        (record old { procs = after_add_thread old.procs who }) (with_next_thread k p)
    unfolding with_next_thread
    threaded_kept = record {
      paired = paired_more g old k whole st p who paired below;
      numbered = numbered;
      processes = processes;
      descriptors = SameDescriptors-grows g.pids g.virts st.paired.inverse k.next_id thread new_v new_r
          k.descriptors old.book.descriptors st.descriptors;
      descriptions = SameDescriptions-grows g.pids g.virts st.paired.inverse k.next_id thread new_v new_r
          g.names g.addresses old.datagrams None k.descriptions old.book.descriptions st.descriptions;
      inboxes = st.inboxes;
      files = st.files;
      channels = st.channels;
      directions = st.directions;
      listeners = st.listeners;
    }
