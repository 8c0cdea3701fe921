-- The kernel part stays whole over a fork.
--     whole_fork
use Rattle.std.proofs.Common.{◌≡◌, ◌≢◌, ◌+◌, ◌^◌, ◌<◌, true, refl, sym, ap, ◌∙◌, inr, arith}
use Rattle.std.specs.Prelude.{Option, Some, None, is_some}
use Rattle.std.specs.Option.{option_map_or}
use Rattle.std.specs.FinMap as map
use Rattle.plain_tables.specs.OfViews.Limits.{DESCRIPTOR_LIMIT}
use Rattle.plain_tables.proofs.OfViews.MapLaws.{get_insert_same, get_insert_other, true_false}
use Rattle.plain_tables.specs.OfSysAbi.declared.identity.VPid.{VPid}
use Rattle.plain_tables.specs.OfSysAbi.declared.identity.Slot.{Slot}
use Rattle.plain_tables.proofs.OfSysAbi.OrderLaws.{vpid_total, vpid_exact}
use Rattle.plain_machine.specs.declared.kernel.PlainKernel.{PlainKernel}
use Rattle.plain_tables.specs.declared.process.Process.{Process}
use Rattle.plain_tables.specs.OfSysAbi.declared.maker.Maker.{Maker}
use Rattle.plain_tables.specs.OfSysAbi.declared.descriptor.Descriptor.{Descriptor}
use Rattle.plain_tables.specs.Tables.{pid, is_live_process, lives_in, same_host}
use Rattle.plain_tables.specs.Ends.{child_process}
use Rattle.plain_machine.specs.Kernel.{is_live, host_of}
use Rattle.plain_machine.specs.Ends.{after_fork}
use Rattle.plain_machine.specs.Kernels.{IsKernel}
use Rattle.plain_tables.proofs.AddedProcesses.{live_below}
use Rattle.plain_tables.proofs.ClosedStreams.{same_number}
use Rattle.plain_tables.proofs.SharedDescriptors.{host_at, shared_descriptors, shared_descriptions, shared_holders, shared_hosts}
use Rattle.plain_machine.proofs.WholePlaced.{whole_added}

live_there : (found : Option Process) → is_live_process found ≡ true → is_some found ≡ true
live_there None alive = alive
live_there (Some process) alive = refl

-- the host of a process that has a maker
host_by : (found : Option Maker) → is_some found ≡ true → (host_at found ≡ Some (option_map_or (λ (m : Maker). m.host) found 0)) × (same_host (Some (record { host = option_map_or (λ (m : Maker). m.host) found 0; made = 1 })) found ≡ true)
host_by None there = true_false (sym there)
host_by (Some maker) there = (refl, same_number maker.host)

host_low : (k : PlainKernel) (is : IsKernel k) (p : VPid) (found : Option Maker) → map.get k.makers p ≡ found → option_map_or (λ (m : Maker). m.host) found 0 < 16
host_low k is p None none = omega arith
host_low k is p (Some maker) there = is.makers.hosts p maker there

pub whole_fork : (k : PlainKernel) (p : VPid) → IsKernel k → is_live k p ≡ true → map.len k.processes < 128 → k.next_id + 1 < 2 ^ 31 → IsKernel (after_fork k p)
unfolding after_fork is_live
whole_fork k p is alive few last =
    let child : VPid = pid k.next_id in
    let maker : Maker = record { host = host_of k p; made = 1 } in
    let has_maker = is.makers.same p ∙ live_there (map.get k.processes p) alive in
    let hosts = host_by (map.get k.makers p) has_maker in
    let one = whole_added k p.0 maker is few last (host_low k is p (map.get k.makers p) refl) (omega arith) (inr (alive, hosts.1)) in
    let after = map.insert k.processes child (child_process p.0 k.next_id) in
    let left = map.insert k.makers child maker in
    let lower : p ≢ child = λ same. let low = live_below k.next_id k.processes is.processes 0 p alive in let number : p.0 ≡ k.next_id = ap (λ (q : VPid). q.0) same in omega arith in
    let mine : lives_in after child ≡ true = ap is_live_process (get_insert_same vpid_total vpid_exact k.processes child (child_process p.0 k.next_id)) in
    let alike : host_at (map.get left child) ≡ host_at (map.get left p) =
    ap host_at (get_insert_same vpid_total vpid_exact k.makers child maker) ∙ sym (ap host_at (get_insert_other vpid_total vpid_exact k.makers child maker p lower) ∙ hosts.0) in
    let empty : (at : Slot) (x : Descriptor) → map.get k.descriptors at ≡ Some x → at.pid ≢ child = λ at x found same.
    let low = live_below k.next_id k.processes is.processes 0 at.pid (is.descriptors.alive at x found) in
    let number : at.pid.0 ≡ k.next_id = ap (λ (q : VPid). q.0) same in
    omega arith in
    record {
      numbers = one.numbers;
      processes = one.processes;
      makers = one.makers;
      parents = one.parents;
      files = one.files;
      open_files = one.open_files;
      descriptors = shared_descriptors p child k.descriptors k.descriptions after left DESCRIPTOR_LIMIT one.descriptors mine alike empty;
      descriptions = shared_descriptions p child k.descriptors k.descriptions after left DESCRIPTOR_LIMIT one.descriptors mine alike empty one.descriptions;
      holders = shared_holders p child k.descriptors k.descriptions after left DESCRIPTOR_LIMIT one.descriptors mine alike empty one.holders;
      made = one.made;
      channels = one.channels;
      streams = one.streams;
      listeners = one.listeners;
      addresses = one.addresses;
      hosts = shared_hosts p child k.descriptors k.descriptions after left DESCRIPTOR_LIMIT one.descriptors mine alike empty k.listeners k.channels one.hosts;
      inboxes = one.inboxes;
      counters = one.counters;
    }
