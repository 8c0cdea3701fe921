-- A descriptor that closes is taken out, and no other one is.
--     closed_descriptors
use Rattle.std.proofs.Common.{◌≡◌, ℕ, Bool, true, false, cond, refl, sym}
use Rattle.std.specs.Prelude.{Option, Some, None}
use Rattle.std.specs.FinMap as map
use Rattle.plain_tables.proofs.OfViews.MapLaws.{remove_absent}
use Rattle.plain_tables.specs.OfSysAbi.declared.identity.VPid.{VPid}
use Rattle.plain_tables.specs.OfSysAbi.declared.identity.DescId.{DescId}
use Rattle.plain_tables.specs.OfSysAbi.declared.identity.VirtAddr.{VirtAddr}
use Rattle.plain_tables.proofs.OfSysAbi.OrderLaws.{slot_total, slot_exact}
use Rattle.plain_machine.specs.declared.kernel.PlainKernel.{PlainKernel}
use Rattle.plain_tables.specs.OfSysAbi.declared.descriptor.Descriptor.{Descriptor}
use Rattle.plain_tables.specs.declared.description.Description.{Description}
use Rattle.plain_tables.specs.declared.description.Object.{Object}
use Rattle.plain_tables.specs.declared.description.Object.TheVariants.{Console, File, Stream, Socket, Listener, Datagram, Counter}
use Rattle.plain_tables.specs.declared.channel.Listening.{Listening}
use Rattle.plain_tables.specs.Tables.{slot, is_held}
use Rattle.plain_machine.specs.Channels.{close_queue, close_listener, without_listener}
use Rattle.plain_machine.specs.Closing.{let_go, without_description, released_by, released, without_descriptor, closed_by, close_fd}

queue_keeps : (k : PlainKernel) (found : Option Listening) → (close_queue k found).descriptors ≡ k.descriptors
queue_keeps k None = refl
queue_keeps k (Some listening) = refl

listener_keeps : (k : PlainKernel) (address : VirtAddr) → (close_listener k address).descriptors ≡ k.descriptors
unfolding close_listener
listener_keeps k address = queue_keeps (without_listener k address) (map.get k.listeners address)

let_go_keeps : (k : PlainKernel) (d : DescId) (object : Object) → (let_go k d object).descriptors ≡ k.descriptors
let_go_keeps k d Console = refl
let_go_keeps k d (File number offset) = refl
let_go_keeps k d (Stream conn side) = refl
let_go_keeps k d (Socket address) = refl
let_go_keeps k d (Listener address) = listener_keeps k address
let_go_keeps k d (Datagram peer) = refl
let_go_keeps k d (Counter value) = refl

released_by_keeps : (k : PlainKernel) (d : DescId) (found : Option Description) → (released_by k d found).descriptors ≡ k.descriptors
released_by_keeps k d None = refl
released_by_keeps k d (Some description) = let_go_keeps (without_description k d) d description.object

released_keeps : (k : PlainKernel) (d : DescId) → (released k d).descriptors ≡ k.descriptors
unfolding released
released_keeps k d = chosen (is_held k.descriptors d)
  where
    chosen : (b : Bool) → (cond b k (released_by k d (map.get k.descriptions d))).descriptors ≡ k.descriptors
    chosen true = refl
    chosen false = released_by_keeps k d (map.get k.descriptions d)

pub closed_descriptors : (k : PlainKernel) (p : VPid) (fd : ℕ) → (close_fd k p fd).descriptors ≡ map.remove k.descriptors (slot p fd)
unfolding close_fd
closed_descriptors k p fd = by_found (map.get k.descriptors (slot p fd)) refl
  where
    by_found : (found : Option Descriptor) → map.get k.descriptors (slot p fd) ≡ found → (closed_by k (slot p fd) found).descriptors ≡ map.remove k.descriptors (slot p fd)
    by_found None none = sym (remove_absent slot_total slot_exact k.descriptors (slot p fd) none)
    by_found (Some descriptor) there = released_keeps (without_descriptor k (slot p fd)) descriptor.desc
