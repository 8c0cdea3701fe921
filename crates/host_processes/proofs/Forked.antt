-- A child more, through the pairs: the kernel then stands for the forked kernel part by the pairs with one
-- more.
--     forked_kept
use Rattle.std.proofs.Common.{◌≡◌, ◌<◌, true, Some, None, sym, ◌∙◌, subst}
use Rattle.std.specs.Prelude.{slice_index}
use Rattle.std.specs.FinMap as map
use Rattle.std.proofs.lemmas.Option.{same_Some}
use Rattle.sys_abi.specs.declared.identity.VPid.{VPid}
use Rattle.sys_abi.specs.declared.identity.RealPid.{RealPid}
use Rattle.sys_abi.specs.declared.maker.Maker.{Maker}
use Rattle.fd_book.specs.Books.{Books}
use Rattle.proc_book.specs.Ends.{is_live_at}
use Rattle.proc_book.specs.Procs.{after_start}
use Rattle.plain_tables.specs.declared.process.Process.{Process}
use Rattle.plain_machine.specs.declared.kernel.PlainKernel.{PlainKernel}
use Rattle.plain_machine.specs.Ends.{after_fork}
use Rattle.plain_machine.specs.Kernel.{host_of}
use Rattle.plain_machine.specs.Kernels.{IsKernel}
use Rattle.host_descriptors.specs.OfHostTables.declared.kernel.Kernel.{Kernel}
use Rattle.host_descriptors.specs.OfHostTables.Datagrams.{SameInboxes}
use Rattle.host_descriptors.specs.OfHostTables.Descriptions.{SameDescriptions}
use Rattle.host_descriptors.specs.OfHostTables.Numbers.{AreNumbered}
use Rattle.host_descriptors.specs.OfHostTables.Requests.{AreBelow}
use Rattle.host_descriptors.specs.OfHostTables.Stands.{Given, Stands, with_number}
use Rattle.host_descriptors.proofs.OfHostTables.GrownTopics.{SameDescriptions-grows}
use Rattle.host_descriptors.proofs.OfHostTables.LookUps.{some_value}
use Rattle.host_descriptors.proofs.OfHostTables.MorePairs.{real_here}
use Rattle.host_processes.specs.Forks.{HasShared}
use Rattle.host_processes.proofs.MoreNumbers.{AreNumbered-child}
use Rattle.host_processes.proofs.MoreProcesses.{SameProcesses-child}
use Rattle.host_processes.proofs.NewNumbers.{its_node, in_range, below_next, born, unpaired_v, unpaired_r, paired_more, pairs_kept, numbered_more}
use Rattle.host_processes.proofs.SharedSlots.{SameDescriptors-shared}

module _ (g : Given) (old : Kernel) (k : PlainKernel) (whole : IsKernel k) (st : Stands g None old k)
    (p : VPid) (who : RealPid) (paired : map.get g.pids p.0 ≡ Some who)
    (alive : is_live_at old.procs.processes who ≡ true) (below : AreBelow g k.next_id) where
  abbrev child : RealPid
  child = born g old k whole st p who paired below

  new_v : map.get g.pids k.next_id ≡ None
  new_v = unpaired_v g old k whole st p who paired below

  new_r : map.get g.virts child ≡ None
  new_r = unpaired_r g old k whole st p who paired below

  abbrev maker : Maker
  maker = record { host = host_of k p; made = 1 }

  -- a number of the child's node was handed out before the child's
  last : (q : VPid) (x : Process) (s : RealPid) → map.get k.processes q ≡ Some x
      → map.get (map.insert g.pids k.next_id child) q.0 ≡ Some s → s.node ≡ child.node → s.pid < child.pid
  last q x s is leads on =
      let r = its_pair q x is in
      let same : r.0 ≡ s =
      same_Some r.0 s (sym (pairs_kept g old k whole st p who paired below q.0 r.0 r.1) ∙ leads) in
      subst (λ n. s.pid < slice_index old.procs.next n) on
      (subst (λ (z : RealPid). z.pid < slice_index old.procs.next z.node) same
      (st.paired.handed_out q.0 r.0 r.1).below)
    where
      its_pair : (q : VPid) (x : Process) → map.get k.processes q ≡ Some x
          → (s : RealPid) × (map.get g.pids q.0 ≡ Some s)
      its_pair q x is = some_value (map.get g.pids q.0) (st.numbered.process q x is)

  numbered : AreNumbered old.nodes (map.insert g.pids k.next_id child) (after_fork k p).processes
      (after_fork k p).makers
  unfolding after_fork
  numbered =
      AreNumbered-child old.nodes (map.insert g.pids k.next_id child) k.processes k.makers
      (numbered_more g old k whole st p who paired below) k.next_id p.0 child maker
      (real_here g.pids g.virts st.paired.inverse k.next_id child new_v new_r)
      (its_node g old k whole st p who paired alive)
      (below_next g old k whole st p who paired) last

  pub forked_kept : (new : Books) → HasShared child who old.book new
      → Stands (with_number g k.next_id child) None
      (record old { book = new; procs = after_start old.procs who.node (Some who) }) (after_fork k p)
  unfolding after_fork
  forked_kept new shared = record {
    paired = paired_more g old k whole st p who paired below;
    numbered = numbered;
    processes = SameProcesses-child g.pids g.virts st.paired.inverse k.next_id child new_v new_r p who paired
        k.processes old.procs.processes st.processes;
    descriptors = SameDescriptors-shared g.pids g.virts st.paired.inverse k.next_id child new_v new_r p who
        paired k.descriptors old.book new st.descriptors shared (in_range g old k whole st p who paired);
    descriptions = subst (λ m. SameDescriptions (map.insert g.virts child k.next_id) g.names g.addresses
        old.datagrams None k.descriptions m) (sym shared.descriptions)
        (SameDescriptions-grows g.pids g.virts st.paired.inverse k.next_id child new_v new_r g.names
        g.addresses old.datagrams None k.descriptions old.book.descriptions st.descriptions);
    inboxes = subst (λ m. SameInboxes old.datagrams k.inboxes m) (sym shared.descriptions) st.inboxes;
    files = st.files;
    channels = st.channels;
    directions = st.directions;
    listeners = st.listeners;
  }
