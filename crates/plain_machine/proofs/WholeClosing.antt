-- The kernel part stays whole where a descriptor closes.
--     whole_close      one      whole_closed_below      those of a process below a number
--     Closes      what closing leaves as it was
use Rattle.std.proofs.Common.{◌≡◌, ℕ, ◌<◌, Bool, true, false, cond, refl, sym, ap, subst, ◌∙◌, arith, ⊎_elim}
use Rattle.std.specs.Prelude.{zero, suc, Option, Some, None, is_some}
use Rattle.std.specs.Cmp.{nat_cmp_total}
use Rattle.std.specs.FinMap as map
use Rattle.plain_tables.proofs.OfViews.MapValues.{some_among-values}
use Rattle.plain_tables.proofs.OfViews.MapLaws.{key_tied, get_remove_same, same_or_other, true_false}
use Rattle.plain_tables.specs.OfSysAbi.declared.identity.VPid.{VPid}
use Rattle.plain_tables.specs.OfSysAbi.declared.identity.Slot.{Slot}
use Rattle.plain_tables.specs.OfSysAbi.declared.identity.DescId.{DescId}
use Rattle.plain_tables.specs.OfSysAbi.declared.identity.ConnId.{ConnId}
use Rattle.plain_tables.specs.OfSysAbi.declared.identity.VirtAddr.{VirtAddr}
use Rattle.plain_tables.proofs.OfSysAbi.OrderLaws.{slot_total, slot_exact, desc_total, desc_exact, address_total, address_exact}
use Rattle.plain_machine.specs.declared.kernel.PlainKernel.{PlainKernel}
use Rattle.plain_tables.specs.OfSysAbi.declared.descriptor.Descriptor.{Descriptor}
use Rattle.plain_tables.specs.declared.description.Description.{Description}
use Rattle.plain_tables.specs.declared.description.Object.{Object}
use Rattle.plain_tables.specs.declared.description.Object.TheVariants.{Console, File, Stream, Socket, Listener, Datagram, Counter}
use Rattle.plain_tables.specs.declared.channel.Listening.{Listening}
use Rattle.plain_tables.specs.Tables.{Files, Channels, Directions, Listeners, Inboxes, slot, is_held}
use Rattle.plain_tables.specs.Objects.{is_file, is_end, is_listener_at, is_datagram}
use Rattle.plain_tables.specs.Closing.{closed_channels, closed_directions, pending_channels, pending_directions, without_unkept}
use Rattle.plain_tables.specs.Valid.Files.{AreFiles, AreOpenFiles}
use Rattle.plain_tables.specs.Valid.Channels.{AreChannels, AreStreams, IsStream}
use Rattle.plain_tables.specs.Valid.Sockets.{AreListeners}
use Rattle.plain_tables.specs.Valid.Datagrams.{AreInboxes}
use Rattle.plain_machine.specs.Channels.{close_side, close_pending, close_queue, without_listener, close_listener}
use Rattle.plain_machine.specs.Closing.{let_go, without_description, released_by, released, without_descriptor, closed_by, close_fd}
use Rattle.plain_machine.specs.Ends.{closed_below}
use Rattle.plain_machine.specs.Kernels.{IsKernel}
use Rattle.plain_tables.proofs.Entries.{still_there, found_at}
use Rattle.plain_tables.proofs.FewerDescriptions.{held_keeps_descriptors, held_keeps_descriptions, held_keeps_holders, held_keeps_hosts, last_keeps_descriptors, last_keeps_descriptions, last_keeps_holders, last_keeps_hosts, any_without, without_keeps_made, without_keeps_addresses, without_keeps_counters, without_keeps_open_files, without_keeps_inboxes, without_inbox}
use Rattle.plain_tables.proofs.ClosedFiles.{closed_files, closed_open_files}
use Rattle.plain_tables.proofs.ClosedSides.{closed_keeps}
use Rattle.plain_tables.proofs.ClosedStreams.{hosts_were, end_was, channels_were, streams_without, listeners_without, closed_stream_streams, closed_stream_listeners}
use Rattle.plain_tables.proofs.ClosedListeners.{Shrinks, closed_listener_channels, closed_listener_shrinks, closed_listener_streams, closed_listener_listeners}

-- a description goes with its last descriptor
module _ (k : PlainKernel) (is : IsKernel k) (at : Slot) (descriptor : Descriptor) (there : map.get k.descriptors at ≡ Some descriptor) (last : is_held (map.remove k.descriptors at) descriptor.desc ≡ false)
    (x : Description) (known : map.get k.descriptions descriptor.desc ≡ Some x) where
  d : DescId
  d = descriptor.desc

  -- with what went beside it
  gone : (files : Files) (channels : Channels) (directions : Directions) (listeners : Listeners) (inboxes : Inboxes)
      → AreFiles k.next_file k.names files → AreOpenFiles k.names files (map.remove k.descriptions descriptor.desc) → AreChannels channels directions
      → AreStreams (map.remove k.descriptions descriptor.desc) listeners channels → AreListeners (map.remove k.descriptions descriptor.desc) listeners channels → Shrinks k.channels channels
      → ((a : VirtAddr) (one : Listening) → map.get listeners a ≡ Some one → map.get k.listeners a ≡ Some one) → AreInboxes (map.remove k.descriptions descriptor.desc) inboxes
      → IsKernel (record (without_description (without_descriptor k at) descriptor.desc) { files = files; channels = channels; directions = directions; listeners = listeners; inboxes = inboxes })
  gone files channels directions listeners inboxes are opened joined streams listening shrinks fewer boxes = record {
    numbers = is.numbers;
    processes = is.processes;
    makers = is.makers;
    parents = is.parents;
    files = are;
    open_files = opened;
    descriptors = last_keeps_descriptors k.descriptors at descriptor there k.descriptions last k.processes is.descriptors;
    descriptions = last_keeps_descriptions k.descriptors at descriptor there k.descriptions last is.descriptions;
    holders = last_keeps_holders k.descriptors at descriptor there k.descriptions last k.processes k.makers is.holders;
    made = without_keeps_made k.descriptions descriptor.desc x known k.next_id k.processes k.makers k.channels channels shrinks.there is.made;
    channels = joined;
    streams = streams;
    listeners = listening;
    addresses = without_keeps_addresses k.descriptions descriptor.desc x known is.addresses;
    hosts = record {
      held = last_keeps_hosts k.descriptors at descriptor there k.descriptions last k.makers k.listeners k.channels channels shrinks.hosts is.hosts;
      pending = λ a one conn host found queued on. is.hosts.pending a one conn host (fewer a one found) queued (shrinks.ends conn host on);
    };
    inboxes = boxes;
    counters = without_keeps_counters k.descriptions descriptor.desc x known is.counters;
  }

  same_channels : Shrinks k.channels k.channels
  same_channels = record { there = λ c it. it; hosts = λ object host it. it; ends = λ c host it. it }

  -- an object that no other table knows
  module _ (no_file : (number : ℕ) → is_file number x.object ≡ false) where
    still_open : AreOpenFiles k.names k.files (map.remove k.descriptions descriptor.desc)
    still_open = without_keeps_open_files k.descriptions descriptor.desc x known k.names k.files no_file is.open_files

    module _ (no_end : (conn : ConnId) (side : ℕ) → is_end conn side x.object ≡ false) (no_listener : (address : VirtAddr) → is_listener_at address x.object ≡ false) where
      still_streams : AreStreams (map.remove k.descriptions descriptor.desc) k.listeners k.channels
      still_streams = streams_without k.descriptions k.listeners k.channels descriptor.desc x known no_end is.streams

      still_listeners : AreListeners (map.remove k.descriptions descriptor.desc) k.listeners k.channels
      still_listeners = listeners_without k.descriptions k.listeners k.channels descriptor.desc x known no_listener is.listeners

      alone : is_datagram x.object ≡ false → IsKernel (without_description (without_descriptor k at) descriptor.desc)
      alone other = gone k.files k.channels k.directions k.listeners k.inboxes is.files still_open is.channels still_streams still_listeners same_channels (λ a one found. found)
          (without_keeps_inboxes k.descriptions descriptor.desc x known k.inboxes other is.inboxes)

  whole_let_go : (object : Object) → x.object ≡ object → IsKernel (let_go (without_description (without_descriptor k at) descriptor.desc) descriptor.desc object)
  unfolding close_listener
  whole_let_go Console same = alone (λ n. ap (is_file n) same) (λ c s. ap (is_end c s) same) (λ a. ap (is_listener_at a) same) (ap is_datagram same)
  whole_let_go (Socket address) same = alone (λ n. ap (is_file n) same) (λ c s. ap (is_end c s) same) (λ a. ap (is_listener_at a) same) (ap is_datagram same)
  whole_let_go (Counter value) same = alone (λ n. ap (is_file n) same) (λ c s. ap (is_end c s) same) (λ a. ap (is_listener_at a) same) (ap is_datagram same)
  whole_let_go (Datagram peer) same =
      gone k.files k.channels k.directions k.listeners (map.remove k.inboxes descriptor.desc) is.files (still_open (λ n. ap (is_file n) same)) is.channels
      (still_streams (λ n. ap (is_file n) same) (λ c s. ap (is_end c s) same) (λ a. ap (is_listener_at a) same))
      (still_listeners (λ n. ap (is_file n) same) (λ c s. ap (is_end c s) same) (λ a. ap (is_listener_at a) same))
      same_channels (λ a one found. found) (without_inbox k.descriptions descriptor.desc x known k.inboxes is.inboxes)
  whole_let_go (File number offset) same =
      gone (without_unkept k.names (map.remove k.descriptions descriptor.desc) k.files number) k.channels k.directions k.listeners k.inboxes
      (closed_files k.names (map.remove k.descriptions descriptor.desc) k.files number k.next_file is.files)
      (closed_open_files k.names k.descriptions k.files descriptor.desc x number offset known same is.open_files) is.channels
      (streams_without k.descriptions k.listeners k.channels descriptor.desc x known (λ c s. ap (is_end c s) same) is.streams)
      (listeners_without k.descriptions k.listeners k.channels descriptor.desc x known (λ a. ap (is_listener_at a) same) is.listeners)
      same_channels (λ a one found. found) (without_keeps_inboxes k.descriptions descriptor.desc x known k.inboxes (ap is_datagram same) is.inboxes)
  whole_let_go (Stream conn side) same =
      let joined : IsStream k.channels x.flags (Stream conn side) = subst (IsStream k.channels x.flags) same (is.streams.each descriptor.desc x known) in
      let low = joined.2.is_side in
      gone k.files (closed_channels k.channels conn side) (closed_directions k.channels k.directions conn side) k.listeners k.inboxes is.files (still_open (λ n. ap (is_file n) same))
      (closed_keeps k.channels k.directions conn side joined.0 is.channels joined.1 low)
      (closed_stream_streams k.descriptions k.listeners k.channels descriptor.desc x conn side joined.0 known same joined.1 low is.streams)
      (closed_stream_listeners k.descriptions k.listeners k.channels descriptor.desc x conn side joined.0 known same joined.1 low is.streams is.listeners)
      (record {
        there = channels_were k.channels conn side joined.0 joined.1 low;
        hosts = hosts_were k.channels conn side joined.0 joined.1 low;
        ends = end_was k.channels conn side joined.0 joined.1 low;
      })
      (λ a one found. found) (without_keeps_inboxes k.descriptions descriptor.desc x known k.inboxes (ap is_datagram same) is.inboxes)
  whole_let_go (Listener address) same = by_queue (map.get k.listeners address) refl
    where
      by_queue : (found : Option Listening) → map.get k.listeners address ≡ found → IsKernel (close_queue (without_listener (without_description (without_descriptor k at) descriptor.desc) address) found)
      by_queue None none = true_false (sym (is.listeners.described address ∙ some_among-values desc_total desc_exact (λ (y : Description). is_listener_at address y.object) k.descriptions descriptor.desc x known
          (ap (is_listener_at address) same ∙ key_tied address_total address_exact address)) ∙ ap is_some none)
      by_queue (Some listening) stands =
          gone k.files (pending_channels k.channels listening.queue) (pending_directions k.channels k.directions listening.queue) (map.remove k.listeners address) k.inboxes is.files
          (still_open (λ n. ap (is_file n) same))
          (closed_listener_channels k.descriptions k.listeners k.channels k.directions descriptor.desc x address listening known same stands is.streams is.listeners is.channels)
          (closed_listener_streams k.descriptions k.listeners k.channels k.directions descriptor.desc x address listening known same stands is.streams is.listeners is.channels)
          (closed_listener_listeners k.descriptions k.listeners k.channels k.directions descriptor.desc x address listening known same stands is.streams is.listeners is.channels is.addresses)
          (closed_listener_shrinks k.descriptions k.listeners k.channels k.directions descriptor.desc x address listening known same stands is.streams is.listeners is.channels)
          (λ a one found. still_there address_total address_exact k.listeners address a one found)
          (without_keeps_inboxes k.descriptions descriptor.desc x known k.inboxes (ap is_datagram same) is.inboxes)

module _ (k : PlainKernel) (is : IsKernel k) (at : Slot) (descriptor : Descriptor) (there : map.get k.descriptors at ≡ Some descriptor) where
  whole_released : IsKernel (released (without_descriptor k at) descriptor.desc)
  unfolding released
  whole_released = chosen (is_held (map.remove k.descriptors at) descriptor.desc) refl
    where
      by_found : is_held (map.remove k.descriptors at) descriptor.desc ≡ false → (found : Option Description) → map.get k.descriptions descriptor.desc ≡ found → IsKernel (released_by (without_descriptor k at) descriptor.desc found)
      by_found last None none = true_false (sym (is.descriptors.described at descriptor there) ∙ ap is_some none)
      by_found last (Some x) known = whole_let_go k is at descriptor there last x known x.object refl

      chosen : (b : Bool) → is_held (map.remove k.descriptors at) descriptor.desc ≡ b
          → IsKernel (cond b (without_descriptor k at) (released_by (without_descriptor k at) descriptor.desc (map.get k.descriptions descriptor.desc)))
      chosen true held = record {
        numbers = is.numbers;
        processes = is.processes;
        makers = is.makers;
        parents = is.parents;
        files = is.files;
        open_files = is.open_files;
        descriptors = held_keeps_descriptors k.descriptors at descriptor there k.processes k.descriptions is.descriptors;
        descriptions = held_keeps_descriptions k.descriptors at descriptor there k.descriptions held is.descriptions;
        holders = held_keeps_holders k.descriptors at descriptor there k.processes k.makers k.descriptions is.holders;
        made = is.made;
        channels = is.channels;
        streams = is.streams;
        listeners = is.listeners;
        addresses = is.addresses;
        hosts = held_keeps_hosts k.descriptors at descriptor there k.makers k.descriptions k.listeners k.channels is.hosts;
        inboxes = is.inboxes;
        counters = is.counters;
      }
      chosen false last = by_found last (map.get k.descriptions descriptor.desc) refl

pub whole_close : (k : PlainKernel) (p : VPid) (fd : ℕ) → IsKernel k → IsKernel (close_fd k p fd)
unfolding close_fd
whole_close k p fd is = by_found (map.get k.descriptors (slot p fd)) refl
  where
    by_found : (found : Option Descriptor) → map.get k.descriptors (slot p fd) ≡ found → IsKernel (closed_by k (slot p fd) found)
    by_found None none = is
    by_found (Some descriptor) there = whole_released k is (slot p fd) descriptor there

pub whole_closed_below : (k : PlainKernel) (p : VPid) (n : ℕ) → IsKernel k → IsKernel (closed_below k p n)
unfolding closed_below
whole_closed_below k p zero is = is
whole_closed_below k p (suc fd) is = whole_close (closed_below k p fd) p fd (whole_closed_below k p fd is)

-- processes, makers, names and numbers are as they were, and no descriptor is there that was not
pub record Closes (before after : PlainKernel) : Type 0 where
  pub processes : after.processes ≡ before.processes
  pub makers : after.makers ≡ before.makers
  pub next_id : after.next_id ≡ before.next_id
  pub descriptors : (at : Slot) (descriptor : Descriptor) → map.get after.descriptors at ≡ Some descriptor → map.get before.descriptors at ≡ Some descriptor

-- a change that leaves these as they are
same_closes : (before after : PlainKernel) → after.processes ≡ before.processes → after.makers ≡ before.makers → after.next_id ≡ before.next_id → after.descriptors ≡ before.descriptors → Closes before after
same_closes before after processes makers next_id same = record {
  processes = processes;
  makers = makers;
  next_id = next_id;
  descriptors = λ at descriptor found. ap (λ m. map.get m at) (sym same) ∙ found;
}

closes_then : (a b c : PlainKernel) → Closes a b → Closes b c → Closes a c
closes_then a b c first later = record {
  processes = later.processes ∙ first.processes;
  makers = later.makers ∙ first.makers;
  next_id = later.next_id ∙ first.next_id;
  descriptors = λ at descriptor found. first.descriptors at descriptor (later.descriptors at descriptor found);
}

queue_closes : (k : PlainKernel) (found : Option Listening) → Closes k (close_queue k found)
queue_closes k None = same_closes k k refl refl refl refl
queue_closes k (Some listening) = same_closes k (close_pending k listening.queue) refl refl refl refl

let_go_closes : (k : PlainKernel) (d : DescId) (object : Object) → Closes k (let_go k d object)
unfolding close_listener
let_go_closes k d Console = same_closes k k refl refl refl refl
let_go_closes k d (File number offset) = same_closes k (let_go k d (File number offset)) refl refl refl refl
let_go_closes k d (Stream conn side) = same_closes k (close_side k conn side) refl refl refl refl
let_go_closes k d (Socket address) = same_closes k k refl refl refl refl
let_go_closes k d (Listener address) =
    closes_then k (without_listener k address) (close_queue (without_listener k address) (map.get k.listeners address)) (same_closes k (without_listener k address) refl refl refl refl)
    (queue_closes (without_listener k address) (map.get k.listeners address))
let_go_closes k d (Datagram peer) = same_closes k (let_go k d (Datagram peer)) refl refl refl refl
let_go_closes k d (Counter value) = same_closes k k refl refl refl refl

released_closes : (k : PlainKernel) (d : DescId) → Closes k (released k d)
unfolding released
released_closes k d = chosen (is_held k.descriptors d)
  where
    by_found : (found : Option Description) → Closes k (released_by k d found)
    by_found None = same_closes k k refl refl refl refl
    by_found (Some x) = closes_then k (without_description k d) (let_go (without_description k d) d x.object) (same_closes k (without_description k d) refl refl refl refl)
        (let_go_closes (without_description k d) d x.object)

    chosen : (b : Bool) → Closes k (cond b k (released_by k d (map.get k.descriptions d)))
    chosen true = same_closes k k refl refl refl refl
    chosen false = by_found (map.get k.descriptions d)

without_closes : (k : PlainKernel) (at : Slot) → Closes k (without_descriptor k at)
without_closes k at = record {
  processes = refl;
  makers = refl;
  next_id = refl;
  descriptors = λ q descriptor found. still_there slot_total slot_exact k.descriptors at q descriptor found;
}

pub close_closes : (k : PlainKernel) (p : VPid) (fd : ℕ) → Closes k (close_fd k p fd)
unfolding close_fd
close_closes k p fd = by_found (map.get k.descriptors (slot p fd))
  where
    by_found : (found : Option Descriptor) → Closes k (closed_by k (slot p fd) found)
    by_found None = same_closes k k refl refl refl refl
    by_found (Some descriptor) = closes_then k (without_descriptor k (slot p fd)) (released (without_descriptor k (slot p fd)) descriptor.desc) (without_closes k (slot p fd))
        (released_closes (without_descriptor k (slot p fd)) descriptor.desc)

pub closed_below_closes : (k : PlainKernel) (p : VPid) (n : ℕ) → Closes k (closed_below k p n)
unfolding closed_below
closed_below_closes k p zero = same_closes k k refl refl refl refl
closed_below_closes k p (suc fd) = closes_then k (closed_below k p fd) (close_fd (closed_below k p fd) p fd) (closed_below_closes k p fd) (close_closes (closed_below k p fd) p fd)

-- a descriptor that closed is not there
closed_gone : (k : PlainKernel) (p : VPid) (fd : ℕ) (descriptor : Descriptor) → map.get (close_fd k p fd).descriptors (slot p fd) ≡ Some descriptor → ⊥
unfolding close_fd
closed_gone k p fd descriptor found = by_found (map.get k.descriptors (slot p fd)) refl found
  where
    by_found : (was : Option Descriptor) → map.get k.descriptors (slot p fd) ≡ was → map.get (closed_by k (slot p fd) was).descriptors (slot p fd) ≡ Some descriptor → ⊥
    by_found None none found = let is : map.get k.descriptors (slot p fd) ≡ Some descriptor = found in cc
    by_found (Some old) there found =
        let left = (released_closes (without_descriptor k (slot p fd)) old.desc).descriptors (slot p fd) descriptor found in
        let none : map.get (map.remove k.descriptors (slot p fd)) (slot p fd) ≡ None = get_remove_same slot_total slot_exact k.descriptors (slot p fd) in
        cc

-- below the number none of the process's is left
pub none_below : (k : PlainKernel) (p : VPid) (n : ℕ) (fd : ℕ) (descriptor : Descriptor) → fd < n → map.get (closed_below k p n).descriptors (slot p fd) ≡ Some descriptor → ⊥
unfolding closed_below
none_below k p zero fd descriptor low found = omega arith
none_below k p (suc n) fd descriptor low found = ⊎_elim
    (λ here. closed_gone (closed_below k p n) p n descriptor (subst (λ m. map.get (close_fd (closed_below k p n) p n).descriptors (slot p m) ≡ Some descriptor) here found))
    (λ other. none_below k p n fd descriptor (omega arith) ((close_closes (closed_below k p n) p n).descriptors (slot p fd) descriptor found))
    (same_or_other nat_cmp_total map.nat_cmp-IsAntisymmetric fd n)
