-- The image of a kernel part: the shared image that stands for it.
--     shared_of k      the entries of its maps, as lists
--     IsSupported k      no description is a datagram end or an event counter
--     HasArrived k      all bytes of each direction have arrived
--     IsImage s k      s can be spelled and stands for k      HasImage k      some s is its image
--     KernelComesBack      what is made of the entries of a kernel part stands for it
--     KernelHasImage      and it is its image      ImageIsKernel      an image stands for one that a run may reach
-- Source: docs/FORMATS.md, "Shared image".
use Rattle.std.specs.Prelude.{◌≡◌, ℕ, Bool, false, List, [], length, Option, Some, None, filter, map as each, unwrap_or}
use Rattle.std.specs.Ordering.{nat_cmp}
use Rattle.std.specs.FinMap as map
use Rattle.sys_abi.specs.declared.identity.VPid.{VPid}
use Rattle.sys_abi.specs.declared.identity.Slot.{Slot}
use Rattle.sys_abi.specs.declared.identity.DescId.{DescId}
use Rattle.sys_abi.specs.declared.identity.ConnId.{ConnId}
use Rattle.sys_abi.specs.declared.identity.VirtAddr.{VirtAddr}
use Rattle.plain_process.specs.Valid.{Each}
use Rattle.plain_tables.specs.declared.channel.Channel.{Channel}
use Rattle.plain_tables.specs.declared.channel.Direction.{Direction}
use Rattle.plain_tables.specs.declared.channel.Listening.{Listening}
use Rattle.plain_tables.specs.declared.process.Process.{Process}
use Rattle.sys_abi.specs.declared.maker.Maker.{Maker}
use Rattle.plain_tables.specs.declared.description.Object.{Object}
use Rattle.plain_tables.specs.declared.description.Object.TheVariants as object
use Rattle.plain_tables.specs.declared.description.Description.{Description}
use Rattle.sys_abi.specs.declared.descriptor.Descriptor.{Descriptor}
use Rattle.plain_machine.specs.declared.kernel.PlainKernel.{PlainKernel}
use Rattle.plain_machine.specs.Kernels.{IsKernel}
use Rattle.plain_machine.specs.Tests.{unsupported_kind}
use Rattle.plain_tables.specs.Tables.{is_slot_of, Names, Directions, Listeners}
use Rattle.plain_tables.specs.Objects.{dir}
use Rattle.shared_items.specs.declared.shared.FileImage.{FileImage}
use Rattle.shared_items.specs.declared.shared.SideImage.{SideImage}
use Rattle.shared_items.specs.declared.shared.ChannelImage.{ChannelImage}
use Rattle.shared_items.specs.declared.shared.ObjectImage.{ObjectImage}
use Rattle.shared_items.specs.declared.shared.ObjectImage.TheVariants.{Console, File, Stream, Socket, Listener}
use Rattle.shared_items.specs.declared.shared.DescriptionImage.{DescriptionImage}
use Rattle.shared_items.specs.declared.shared.ThreadEntry.{ThreadEntry}
use Rattle.shared_items.specs.declared.shared.DescriptorEntry.{DescriptorEntry}
use Rattle.shared_items.specs.declared.shared.ProcessEntry.{ProcessEntry}
use Rattle.shared_items.specs.declared.shared.Shared.{Shared}
use Rattle.image_codec.specs.KernelParts.{kernel_of}
use Rattle.shared_items.specs.SharedFits.{IsShared}

-- files, each with its name, if it has one
abbrev pub name_under : List ℕ × ℕ → ℕ × List ℕ
name_under entry = (entry.1, entry.0)

abbrev pub names_by_number : Names → map.FinMap nat_cmp (List ℕ)
names_by_number names = map.from_entries (each name_under (map.entries names))

abbrev pub file_image : map.FinMap nat_cmp (List ℕ) → ℕ × List ℕ → FileImage
file_image names entry = record {
  number = entry.0;
  name = unwrap_or (map.get names entry.0) [];
  bytes = entry.1;
}

-- channels: each has both its directions
abbrev pub silence : Direction
silence = record { left = []; arrived = 0; ended = false; unread = false }

abbrev pub side_image : Option Direction → Option VirtAddr → SideImage
side_image found address =
    let direction = unwrap_or found silence in
    record {
      ended = direction.ended;
      unread = direction.unread;
      left = direction.left;
      address = address;
    }

abbrev pub channel_image : Directions → ConnId × Channel → ChannelImage
channel_image directions entry = record {
  id = entry.0;
  kind = entry.1.kind;
  first = side_image (map.get directions (dir entry.0 0)) entry.1.first.address;
  second = side_image (map.get directions (dir entry.0 1)) entry.1.second.address;
}

-- open descriptions: each listener has its queue, and a datagram end or an event counter has no image
abbrev pub listener_image : VirtAddr → Option Listening → ObjectImage
listener_image address None = Listener address 0 []
listener_image address (Some listening) = Listener address listening.backlog listening.queue

abbrev pub object_image : Listeners → Object → ObjectImage
object_image listeners (object.File number offset) = File number offset
object_image listeners (object.Stream conn side) = Stream conn side
object_image listeners (object.Socket address) = Socket address
object_image listeners (object.Listener address) = listener_image address (map.get listeners address)
object_image listeners _ = Console

abbrev pub description_image : Listeners → DescId × Description → DescriptionImage
description_image listeners entry = record {
  id = entry.0;
  object = object_image listeners entry.1.object;
  flags = entry.1.flags;
  owner = entry.1.owner;
}

abbrev pub thread_image : ℕ × ℕ → ThreadEntry
thread_image entry = record { tid = entry.0; pending = entry.1 }

abbrev pub descriptor_image : Slot × Descriptor → DescriptorEntry
descriptor_image entry = record { number = entry.0.fd; desc = entry.1.desc; cloexec = entry.1.cloexec }

abbrev pub is_of : {X : Type 0} → VPid → Slot × X → Bool
is_of p entry = is_slot_of p entry.0

-- each process is a maker
abbrev pub maker_or : Option Maker → Maker
maker_or None = record { host = 0; made = 0 }
maker_or (Some maker) = maker

abbrev pub process_image : PlainKernel → VPid × Process → ProcessEntry
process_image k entry =
    let maker = maker_or (map.get k.makers entry.0) in
    record {
      pid = entry.0;
      parent = entry.1.parent;
      host = maker.host;
      made = maker.made;
      life = entry.1.life;
      pending = entry.1.pending;
      threads = each thread_image (map.entries entry.1.threads);
      descriptors = each descriptor_image (filter (is_of entry.0) (map.entries k.descriptors));
    }

unfoldable pub shared_of : PlainKernel → Shared
shared_of k = record {
  next_id = k.next_id;
  next_file = k.next_file;
  files = each (file_image (names_by_number k.names)) (map.entries k.files);
  channels = each (channel_image k.directions) (map.entries k.channels);
  descriptions = each (description_image k.listeners) (map.entries k.descriptions);
  processes = each (process_image k) (map.entries k.processes);
}

pub record IsImage (s : Shared) (k : PlainKernel) : Type 0 where
  pub spelled : IsShared s
  pub kernel : kernel_of s ≡ k

abbrev pub HasImage : PlainKernel → Type 0
HasImage k = (s : Shared) × IsImage s k

abbrev pub IsSupported : PlainKernel → Type 0
IsSupported k = Each k.descriptions (λ d description. unsupported_kind description.object ≡ None)

abbrev pub HasArrived : PlainKernel → Type 0
HasArrived k = Each k.directions (λ at direction. direction.arrived ≡ length direction.left)

abbrev pub KernelComesBack : Type 0
KernelComesBack =
    (k : PlainKernel) → IsKernel k → IsSupported k → HasArrived k → kernel_of (shared_of k) ≡ k

abbrev pub KernelHasImage : Type 0
KernelHasImage = (k : PlainKernel) → IsKernel k → IsSupported k → HasArrived k → IsImage (shared_of k) k

abbrev pub ImageIsKernel : Type 0
ImageIsKernel = (s : Shared) → IsShared s → IsKernel (kernel_of s)
