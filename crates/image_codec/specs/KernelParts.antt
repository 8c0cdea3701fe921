-- What the shared image stands for: the kernel part, which all processes share.
--     kernel_of s      its lists as maps, where all bytes of a direction have arrived
-- Source: docs/FORMATS.md, "Shared image".
use Rattle.std.specs.Prelude.{ℕ, List, [], ◌∷◌, length, Option, Some, None, map as each}
use Rattle.std.specs.List.{flat_map, filter_map}
use Rattle.std.specs.declared.cmp.Ordering.{Ordering}
use Rattle.std.specs.FinMap as map
use Rattle.views.specs.Numbers.{Byte}
use Rattle.sys_abi.specs.declared.identity.VPid.{VPid}
use Rattle.sys_abi.specs.declared.identity.Slot.{Slot}
use Rattle.sys_abi.specs.declared.identity.DescId.{DescId}
use Rattle.sys_abi.specs.declared.identity.ConnId.{ConnId}
use Rattle.sys_abi.specs.declared.identity.Dir.{Dir}
use Rattle.sys_abi.specs.declared.identity.VirtAddr.{VirtAddr}
use Rattle.plain_tables.specs.declared.process.Process.{Process}
use Rattle.sys_abi.specs.declared.maker.Maker.{Maker}
use Rattle.plain_tables.specs.declared.description.Description.{Description}
use Rattle.sys_abi.specs.declared.descriptor.Descriptor.{Descriptor}
use Rattle.plain_tables.specs.declared.description.Object.{Object}
use Rattle.plain_tables.specs.declared.description.Object.TheVariants as object
use Rattle.plain_tables.specs.declared.channel.Channel.{Channel}
use Rattle.plain_tables.specs.declared.channel.ChannelEnd.{ChannelEnd}
use Rattle.plain_tables.specs.declared.channel.Direction.{Direction}
use Rattle.plain_tables.specs.declared.channel.Listening.{Listening}
use Rattle.plain_machine.specs.declared.kernel.PlainKernel.{PlainKernel}
use Rattle.shared_items.specs.declared.shared.FileImage.{FileImage}
use Rattle.shared_items.specs.declared.shared.SideImage.{SideImage}
use Rattle.shared_items.specs.declared.shared.ChannelImage.{ChannelImage}
use Rattle.shared_items.specs.declared.shared.ObjectImage.{ObjectImage}
use Rattle.shared_items.specs.declared.shared.ObjectImage.TheVariants.{Console, File, Stream, Socket, Listener}
use Rattle.shared_items.specs.declared.shared.DescriptionImage.{DescriptionImage}
use Rattle.shared_items.specs.declared.shared.ThreadEntry.{ThreadEntry}
use Rattle.shared_items.specs.declared.shared.DescriptorEntry.{DescriptorEntry}
use Rattle.shared_items.specs.declared.shared.ProcessEntry.{ProcessEntry}
use Rattle.shared_items.specs.declared.shared.Shared.{Shared}
use Rattle.shared_items.specs.Sides.{is_side_named}

-- processes, their threads and their descriptors
abbrev pub signals_entry : ThreadEntry → ℕ × ℕ
signals_entry thread = (thread.tid, thread.pending)

abbrev pub process_entry : ProcessEntry → VPid × Process
process_entry image = (
  image.pid,
  record {
    parent = image.parent;
    life = image.life;
    pending = image.pending;
    threads = map.from_entries (each signals_entry image.threads);
  },
)

abbrev pub maker_entry : ProcessEntry → VPid × Maker
maker_entry image = (image.pid, record { host = image.host; made = image.made })

abbrev pub descriptor_entry : VPid → DescriptorEntry → Slot × Descriptor
descriptor_entry p image = (
  record { pid = p; fd = image.number },
  record { desc = image.desc; cloexec = image.cloexec },
)

abbrev pub descriptor_entries : ProcessEntry → List (Slot × Descriptor)
descriptor_entries image = each (descriptor_entry image.pid) image.descriptors

-- open descriptions
abbrev pub object_of : ObjectImage → Object
object_of Console = object.Console
object_of (File number offset) = object.File number offset
object_of (Stream conn side) = object.Stream conn side
object_of (Socket address) = object.Socket address
object_of (Listener address backlog pending) = object.Listener address

abbrev pub description_entry : DescriptionImage → DescId × Description
description_entry image = (
  image.id,
  record {
    object = object_of image.object;
    flags = image.flags;
    owner = image.owner;
  },
)

abbrev pub listening_of : ObjectImage → Option (VirtAddr × Listening)
listening_of (Listener address backlog pending) =
    Some (address, record { backlog = backlog; queue = pending })
listening_of _ = None

-- files, and those of them that have a name
abbrev pub file_entry : FileImage → ℕ × List ℕ
file_entry image = (image.number, image.bytes)

abbrev pub named_entry : List Byte → ℕ → Option (List Byte × ℕ)
named_entry [] number = None
named_entry (byte ∷ rest) number = Some (byte ∷ rest, number)

abbrev pub name_entry : FileImage → Option (List Byte × ℕ)
name_entry image = named_entry image.name image.number

-- channels: a side that nothing names is closed
abbrev pub channel_end : List DescriptionImage → ConnId → ℕ → SideImage → ChannelEnd
channel_end descriptions conn side image = record {
  address = image.address;
  is_open = is_side_named descriptions conn side;
}

abbrev pub channel_entry : List DescriptionImage → ChannelImage → ConnId × Channel
channel_entry descriptions image = (
  image.id,
  record {
    kind = image.kind;
    first = channel_end descriptions image.id 0 image.first;
    second = channel_end descriptions image.id 1 image.second;
  },
)

abbrev pub direction_of : SideImage → Direction
direction_of image = record {
  left = image.left;
  arrived = length image.left;
  ended = image.ended;
  unread = image.unread;
}

abbrev pub direction_entry : ConnId → ℕ → SideImage → Dir × Direction
direction_entry conn side image = (record { conn = conn; side = side }, direction_of image)

abbrev pub direction_entries : ChannelImage → List (Dir × Direction)
direction_entries image =
    direction_entry image.id 0 image.first ∷ direction_entry image.id 1 image.second ∷ []

-- a map with the entries of a list put in from its end, so that at a key that stands twice the first one
-- counts
abbrev pub inserted : {K X : Type 0} {R : K → K → Ordering} → List (K × X) → map.FinMap R X → map.FinMap R X
inserted [] m = m
inserted (e ∷ es) m = map.insert (inserted es m) e.0 e.1

unfoldable pub kernel_of : Shared → PlainKernel
kernel_of s = record {
  processes = map.from_entries (each process_entry s.processes);
  makers = map.from_entries (each maker_entry s.processes);
  descriptors = map.from_entries (flat_map descriptor_entries s.processes);
  descriptions = map.from_entries (each description_entry s.descriptions);
  names = map.from_entries (filter_map name_entry s.files);
  files = map.from_entries (each file_entry s.files);
  next_file = s.next_file;
  channels = map.from_entries (each (channel_entry s.descriptions) s.channels);
  directions = map.from_entries (flat_map direction_entries s.channels);
  listeners = map.from_entries (filter_map (λ description. listening_of description.object) s.descriptions);
  inboxes = map.empty;
  next_id = s.next_id;
}
