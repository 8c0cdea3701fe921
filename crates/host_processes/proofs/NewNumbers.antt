-- What a valid kernel part gives for one number more on the node of a process, and how it is paired then.
--     its_process, its_node          the process, and that its node is its host's
--     in_range, below_next           its descriptors' numbers, and those of all processes
--     unpaired_v, unpaired_r         neither next number is paired yet
--     paired_more, pairs_kept, numbered_more      the pairs with one more
use Rattle.std.proofs.Common.{◌≡◌, ℕ, ◌+◌, ◌<◌, ◌≤◌, true, Option, Some, None, refl, sym, ap, ◌∙◌, length, arith}
use Rattle.std.specs.Prelude.{is_some, IsSome, slice_index, slice_set}
use Rattle.std.specs.Option.{option_map_or}
use Rattle.std.specs.FinMap as map
use Rattle.views.specs.Limits.{DESCRIPTOR_LIMIT}
use Rattle.views.proofs.MapLaws.{true_false}
use Rattle.sys_abi.specs.declared.descriptor.Descriptor.{Descriptor}
use Rattle.sys_abi.specs.declared.identity.VPid.{VPid}
use Rattle.sys_abi.specs.declared.identity.RealPid.{RealPid}
use Rattle.sys_abi.specs.declared.maker.Maker.{Maker}
use Rattle.proc_book.specs.Ends.{is_live_at}
use Rattle.proc_book.specs.Procs.{next_of}
use Rattle.plain_tables.specs.declared.process.Process.{Process}
use Rattle.plain_tables.specs.Tables.{slot, is_live_process}
use Rattle.plain_machine.specs.declared.kernel.PlainKernel.{PlainKernel}
use Rattle.plain_machine.specs.Kernel.{host_of, is_live}
use Rattle.plain_machine.specs.Kernels.{IsKernel}
use Rattle.host_descriptors.specs.OfHostTables.declared.kernel.Kernel.{Kernel}
use Rattle.host_descriptors.specs.OfHostTables.Numbers.{real, node_of, ArePaired, AreNumbered}
use Rattle.host_descriptors.specs.OfHostTables.Requests.{AreBelow}
use Rattle.host_descriptors.specs.OfHostTables.Stands.{Given, Stands}
use Rattle.host_descriptors.proofs.OfHostTables.LookUps.{some_value, lives_of}
use Rattle.host_descriptors.proofs.OfHostTables.MorePairs.{new_virt, new_real, real_kept, ArePaired-more}
use Rattle.host_processes.proofs.MoreNumbers.{AreNumbered-grows}

live_there : (o : Option Process) → is_live_process o ≡ true → is_some o ≡ true
live_there None alive = true_false (sym alive)
live_there (Some x) alive = refl

module _ (g : Given) (old : Kernel) (k : PlainKernel) (whole : IsKernel k) (st : Stands g None old k)
    (p : VPid) (who : RealPid) (paired : map.get g.pids p.0 ≡ Some who) where
  -- the caller's process, and its maker

  there : is_live_at old.procs.processes who ≡ true → IsSome (map.get k.processes p)
  unfolding is_live
  there alive = live_there (map.get k.processes p) (lives_of g old k st p who paired ∙ alive)

  pub its_process : is_live_at old.procs.processes who ≡ true
      → (x : Process) × (map.get k.processes p ≡ Some x)
  its_process alive = some_value (map.get k.processes p) (there alive)

  its_maker : is_live_at old.procs.processes who ≡ true → (m : Maker) × (map.get k.makers p ≡ Some m)
  its_maker alive = some_value (map.get k.makers p) (whole.makers.same p ∙ there alive)

  pub its_node : is_live_at old.procs.processes who ≡ true → who.node ≡ node_of old.nodes (host_of k p)
  its_node alive =
      let x = its_process alive in
      let m = its_maker alive in
      st.numbered.node p x.0 m.0 who x.1 m.1 paired
      ∙ ap (node_of old.nodes) (sym (ap (λ o. option_map_or (λ (m : Maker). m.host) o 0) m.1))

  none_by : (at : ℕ) → DESCRIPTOR_LIMIT ≤ at → (o : Option Descriptor) → map.get k.descriptors (slot p at) ≡ o
      → map.get k.descriptors (slot p at) ≡ None
  none_by at high None is = is
  none_by at high (Some d) is =
      absurd (not_both at DESCRIPTOR_LIMIT high (whole.descriptors.number (slot p at) d is))
    where
      not_both : (a b : ℕ) → b ≤ a → a < b → ⊥
      not_both a b h l = omega (arith, h, l)

  pub in_range : (fd : ℕ) → DESCRIPTOR_LIMIT ≤ fd → map.get k.descriptors (slot p fd) ≡ None
  in_range fd high = none_by fd high (map.get k.descriptors (slot p fd)) refl

  -- numbers of processes are below the next one
  pub below_next : (q : VPid) (x : Process) → map.get k.processes q ≡ Some x → q.0 < k.next_id
  below_next q x is = (whole.processes.each q x is).number.1

  -- the next numbers

  module _ (below : AreBelow g k.next_id) where
    abbrev pub born : RealPid
    born = real who.node (next_of old.procs who.node)

    node_there : who.node < length old.procs.next
    node_there = (st.paired.handed_out p.0 who paired).node

    positive : 1 ≤ slice_index old.procs.next who.node
    positive =
        let handed = st.paired.handed_out p.0 who paired in
        let low = handed.first in
        let high = handed.below in
        omega (arith, low, high)

    pub unpaired_v : map.get g.pids k.next_id ≡ None
    unpaired_v =
        new_virt g.pids g.virts g.next old.procs.next k.next_id who.node st.paired whole.numbers.first_id
        node_there positive below

    pub unpaired_r : map.get g.virts born ≡ None
    unpaired_r =
        new_real g.pids g.virts g.next old.procs.next k.next_id who.node st.paired whole.numbers.first_id
        node_there positive below

    pub paired_more : ArePaired (map.insert g.pids k.next_id born) (map.insert g.virts born k.next_id)
        (slice_set g.next who.node (next_of old.procs who.node + 1))
        (slice_set old.procs.next who.node (next_of old.procs who.node + 1))
    paired_more =
        ArePaired-more g.pids g.virts g.next old.procs.next k.next_id who.node st.paired
        whole.numbers.first_id node_there positive below

    pub pairs_kept : (w : ℕ) (s : RealPid) → map.get g.pids w ≡ Some s
        → map.get (map.insert g.pids k.next_id born) w ≡ Some s
    pairs_kept = real_kept g.pids g.virts st.paired.inverse k.next_id born unpaired_v unpaired_r

    pub numbered_more : AreNumbered old.nodes (map.insert g.pids k.next_id born) k.processes k.makers
    numbered_more =
        AreNumbered-grows old.nodes g.pids (map.insert g.pids k.next_id born) k.processes k.makers st.numbered
        pairs_kept
