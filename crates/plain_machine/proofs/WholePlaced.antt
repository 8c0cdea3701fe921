-- The kernel part stays whole where a process gets one descriptor more, and where a process more is there.
--     whole_again      a descriptor more to a description that it holds      whole_placed      a new description behind a new descriptor
--     whole_added      a process more, which holds nothing yet
use Rattle.std.proofs.Common.{◌≡◌, ℕ, ◌+◌, ◌^◌, ◌<◌, ◌≤◌, Bool, true, false, refl, sym, ap, subst, ◌∙◌, arith}
use Rattle.std.specs.Prelude.{◌==◌, ◌&&◌, ◌⊎◌, Option, Some, None, is_some}
use Rattle.std.specs.FinMap as map
use Rattle.std.proofs.lemmas.Bool.Decides.{nat_tests}
use Rattle.plain_tables.proofs.OfViews.MapLaws.{key_tied, same_key, true_false}
use Rattle.plain_tables.specs.OfSysAbi.declared.identity.VPid.{VPid}
use Rattle.plain_tables.specs.OfSysAbi.declared.identity.DescId.{DescId}
use Rattle.plain_tables.specs.OfSysAbi.declared.identity.ConnId.{ConnId}
use Rattle.plain_tables.proofs.OfSysAbi.OrderLaws.{desc_total, desc_exact, conn_total, conn_exact}
use Rattle.plain_machine.specs.declared.kernel.PlainKernel.{PlainKernel}
use Rattle.plain_tables.specs.declared.process.Process.{Process}
use Rattle.plain_tables.specs.OfSysAbi.declared.maker.Maker.{Maker}
use Rattle.plain_tables.specs.OfSysAbi.declared.descriptor.Descriptor.{Descriptor}
use Rattle.plain_tables.specs.declared.description.Description.{Description}
use Rattle.plain_tables.specs.declared.description.Object.{Object}
use Rattle.plain_tables.specs.declared.description.Object.TheVariants.{Stream, Datagram}
use Rattle.plain_tables.specs.Tables.{NOBODY, Channels, pid, slot, is_live_process, lives_in, same_host}
use Rattle.plain_tables.specs.Objects.{is_end, is_datagram, knows}
use Rattle.plain_tables.specs.Ends.{child_process}
use Rattle.plain_tables.specs.Valid.Descriptions.{AreFlags, IsMade, HasMadePeer}
use Rattle.plain_tables.specs.Valid.Channels.{IsStream}
use Rattle.plain_machine.specs.Kernel.{is_live, with_descriptor, placed}
use Rattle.plain_machine.specs.Kernels.{IsKernel}
use Rattle.plain_machine.specs.KernelLaws.{IsAlone, MayBePlaced}
use Rattle.plain_tables.proofs.AddedDescriptions.{again_descriptors, again_descriptions, again_holders, again_hosts, new_open_files, new_made, new_counters, new_streams, new_listeners, new_addresses, new_inboxes, new_descriptors, new_descriptions, new_holders, new_hosts}
use Rattle.plain_tables.proofs.AddedProcesses.{added_are, added_makers, added_parents, added_leaves}
use Rattle.plain_tables.proofs.LeftProcesses.{descriptors_left, holders_left, made_left, hosts_left}

-- a descriptor more to a description that the process holds
pub whole_again : (k : PlainKernel) (p : VPid) (fd : ℕ) (descriptor : Descriptor) → IsKernel k → fd < 256 → map.get k.descriptors (slot p fd) ≡ None
    → (other : ℕ) (y : Descriptor) → map.get k.descriptors (slot p other) ≡ Some y → y.desc ≡ descriptor.desc → IsKernel (with_descriptor k p fd descriptor)
whole_again k p fd descriptor is low free other y stands same = record {
  numbers = is.numbers;
  processes = is.processes;
  makers = is.makers;
  parents = is.parents;
  files = is.files;
  open_files = is.open_files;
  descriptors = again_descriptors k.descriptors (slot p fd) descriptor free (slot p other) y stands same refl k.processes k.descriptions low is.descriptors;
  descriptions = again_descriptions k.descriptors (slot p fd) descriptor free (slot p other) y stands same refl k.descriptions is.descriptions;
  holders = again_holders k.descriptors (slot p fd) descriptor free (slot p other) y stands same refl k.processes k.makers k.descriptions is.holders;
  made = is.made;
  channels = is.channels;
  streams = is.streams;
  listeners = is.listeners;
  addresses = is.addresses;
  hosts = again_hosts k.descriptors (slot p fd) descriptor free (slot p other) y stands same refl k.makers k.descriptions k.listeners k.channels is.hosts;
  inboxes = is.inboxes;
  counters = is.counters;
}

-- a number that was not given out is no description's, and no datagram end knows it
module _ (k : PlainKernel) (is : IsKernel k) (p : VPid) (num : ℕ) (maker : Maker) (known : map.get k.makers p ≡ Some maker) (alive : is_live k p ≡ true) (above : maker.made ≤ num) where
  no_number : IsMade k.next_id k.processes k.makers p num → ⊥
  unfolding is_live
  no_number made = let below = made.below maker known alive in omega arith

  fresh_by : (found : Option Description) → map.get k.descriptions (record { pid = p; num = num }) ≡ found → map.get k.descriptions (record { pid = p; num = num }) ≡ None
  fresh_by None none = none
  fresh_by (Some x) there = absurd (no_number (is.made.opened (record { pid = p; num = num }) x there))

  pub fresh : map.get k.descriptions (record { pid = p; num = num }) ≡ None
  fresh = fresh_by (map.get k.descriptions (record { pid = p; num = num })) refl

  peer_other : (object : Object) → HasMadePeer k.next_id k.processes k.makers object → knows (record { pid = p; num = num }) object ≡ false
  peer_other (Datagram peer) made = chosen (knows (record { pid = p; num = num }) (Datagram peer)) refl
    where
      chosen : (b : Bool) → knows (record { pid = p; num = num }) (Datagram peer) ≡ b → b ≡ false
      chosen true same =
          let peer_is : record { pid = p; num = num } ≡ peer = same_key desc_total desc_exact (record { pid = p; num = num }) peer same in
          absurd (no_number (subst (λ (d : DescId). IsMade k.next_id k.processes k.makers d.pid d.num) (sym peer_is) made))
      chosen false other = refl
  peer_other _ made = refl

  pub unknown : (e : DescId) (y : Description) → map.get k.descriptions e ≡ Some y → knows (record { pid = p; num = num }) y.object ≡ false
  unknown e y found = peer_other y.object (is.made.peers e y found)

same_number : (n : ℕ) → (n == n) ≡ true
same_number n = grind (arith, nat_tests)

pub host_itself : (found : Option Maker) → is_some found ≡ true → same_host found found ≡ true
host_itself None there = there
host_itself (Some maker) there = same_number maker.host

alone_peer : (next_id : ℕ) (k : PlainKernel) (object : Object) → is_datagram object ≡ false → HasMadePeer next_id k.processes k.makers object
alone_peer next_id k (Datagram peer) other = true_false other
alone_peer next_id k _ other = tt

alone_stream : (channels : Channels) (flags : ℕ) (object : Object) → ((conn : ConnId) (side : ℕ) → is_end conn side object ≡ false) → IsStream channels flags object
alone_stream channels flags (Stream conn side) other = true_false (sym (ap (λ b. b && (side == side)) (key_tied conn_total conn_exact conn) ∙ same_number side) ∙ other conn side)
alone_stream channels flags _ other = tt

pub number_of : (k : PlainKernel) (is : IsKernel k) (p : VPid) → is_live_process (map.get k.processes p) ≡ true → p.0 < k.next_id
number_of k is p alive = by_found (map.get k.processes p) refl alive
  where
    by_found : (found : Option Process) → map.get k.processes p ≡ found → is_live_process found ≡ true → p.0 < k.next_id
    by_found None none lives = true_false (sym lives)
    by_found (Some process) found lives = (is.processes.each p process found).number.1

-- a new description behind a new descriptor
pub whole_placed : (k : PlainKernel) (p : VPid) (fd num : ℕ) (cloexec : Bool) (object : Object) (flags : ℕ) (maker : Maker) → IsKernel k → is_live k p ≡ true → fd < 256 → map.get k.descriptors (slot p fd) ≡ None
    → map.get k.makers p ≡ Some maker → map.get k.descriptions (record { pid = p; num = num }) ≡ None → num < maker.made
    → ((e : DescId) (y : Description) → map.get k.descriptions e ≡ Some y → knows (record { pid = p; num = num }) y.object ≡ false)
    → AreFlags flags → IsAlone object → MayBePlaced k.files k.channels k.makers p object → IsKernel (placed k p fd (record { pid = p; num = num }) cloexec object flags)
unfolding is_live
whole_placed k p fd num cloexec object flags maker is alive low free known new made no_peer sound alone may =
    let d : DescId = record { pid = p; num = num } in
    let descriptor : Descriptor = record { desc = d; cloexec = cloexec } in
    let x : Description = record { object = object; flags = flags; owner = 0 } in
    let bound = is.makers.counts p maker known in
    record {
      numbers = is.numbers;
      processes = is.processes;
      makers = is.makers;
      parents = is.parents;
      files = is.files;
      open_files = new_open_files k.descriptions d x new k.names k.files may.opened is.open_files;
      descriptors = new_descriptors k.descriptors (slot p fd) descriptor free k.descriptions x new k.processes low alive is.descriptors;
      descriptions = new_descriptions k.descriptors (slot p fd) descriptor free k.descriptions x new sound is.descriptions;
      holders = new_holders k.descriptors (slot p fd) descriptor free k.descriptions x new k.processes k.makers (host_itself (map.get k.makers p) (ap is_some known)) refl is.descriptors is.holders;
      made = new_made k.descriptions d x new k.next_id k.processes k.makers k.channels
          (record { known = number_of k is p alive; word = omega arith; below = λ m found lives. let same : maker ≡ m = cc in subst (λ (w : Maker). num < w.made) same made })
          (alone_peer k.next_id k object alone.no_datagram) is.made;
      channels = is.channels;
      streams = new_streams k.descriptions d x new alone.no_end alone.no_listener k.listeners k.channels (alone_stream k.channels flags object alone.no_end) is.streams;
      listeners = new_listeners k.descriptions d x new alone.no_end alone.no_listener k.listeners k.channels is.listeners;
      addresses = new_addresses k.descriptions d x new may.addressed alone.unbound is.addresses;
      hosts = new_hosts k.descriptors (slot p fd) descriptor free k.descriptions x new k.processes k.makers k.listeners k.channels may.host is.descriptors is.hosts;
      inboxes = new_inboxes k.descriptions d x new k.inboxes alone.no_datagram alone.knows_none no_peer is.inboxes;
      counters = new_counters k.descriptions d x new may.counts is.counters;
    }

-- a process more
pub whole_added : (k : PlainKernel) (parent : ℕ) (maker : Maker) → IsKernel k → map.len k.processes < 128 → k.next_id + 1 < 2 ^ 31 → maker.host < 16 → maker.made < 2 ^ 32
    → (parent ≡ NOBODY) ⊎ ((lives_in k.processes (pid parent) ≡ true) × (same_host (Some maker) (map.get k.makers (pid parent)) ≡ true))
    → IsKernel (record k { processes = map.insert k.processes (pid k.next_id) (child_process parent k.next_id); makers = map.insert k.makers (pid k.next_id) maker; next_id = k.next_id + 1 })
whole_added k parent maker is few last host made has =
    let after = map.insert k.processes (pid k.next_id) (child_process parent k.next_id) in
    let left = map.insert k.makers (pid k.next_id) maker in
    let leaves = added_leaves k.next_id k.processes is.processes parent k.makers maker in
    record {
      numbers = record { first_id = let first = is.numbers.first_id in omega arith; last_id = last; first_file = is.numbers.first_file; last_file = is.numbers.last_file };
      processes = added_are k.next_id k.processes is.processes parent is.numbers.first_id few;
      makers = added_makers k.next_id k.processes is.processes parent k.makers maker host made is.makers;
      parents = added_parents k.next_id k.processes is.processes parent k.makers maker has is.parents;
      files = is.files;
      open_files = is.open_files;
      descriptors = descriptors_left k.next_id k.processes after k.makers left (λ q. Unit {0}) leaves k.descriptors k.descriptions is.descriptors (λ at descriptor found. tt);
      descriptions = is.descriptions;
      holders = holders_left k.next_id k.processes after k.makers left (λ q. Unit {0}) leaves k.descriptors k.descriptions is.descriptors (λ at descriptor found. tt) (λ d description found. tt) is.holders;
      made = made_left k.next_id k.processes after k.makers left (λ q. Unit {0}) leaves k.descriptors k.descriptions is.descriptors (λ at descriptor found. tt) (k.next_id + 1) (omega arith) k.channels is.made;
      channels = is.channels;
      streams = is.streams;
      listeners = is.listeners;
      addresses = is.addresses;
      hosts = hosts_left k.next_id k.processes after k.makers left (λ q. Unit {0}) leaves k.descriptors k.descriptions is.descriptors (λ at descriptor found. tt) k.listeners k.channels is.hosts;
      inboxes = is.inboxes;
      counters = is.counters;
    }
