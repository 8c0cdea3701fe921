-- Which values the shared image spells, as its writer asks for them: a fact a field, and for each list its
-- items in order. That these are what the format says is proved (`proofs/SharedLaws.antt`).
--     IsShared s      each field, and what is tested at the end
-- Source: docs/FORMATS.md, "Shared image".
use Rattle.std.specs.Prelude.{◌≡◌, ℕ, ◌+◌, ◌*◌, ◌==◌, Bool, List, [], length, Option, Some, None, is_some, IsTrue, if◌then◌else◌}
use Rattle.sys_abi.specs.declared.identity.ConnId.{ConnId}
use Rattle.sys_abi.specs.declared.identity.VirtAddr.{VirtAddr}
use Rattle.sys_abi.specs.declared.life.Life.{Life}
use Rattle.sys_abi.specs.declared.life.Life.TheVariants.{Live, Zombie}
use Rattle.plain_tables.specs.declared.channel.ChannelKind.{ChannelKind}
use Rattle.plain_tables.specs.declared.channel.ChannelKind.TheVariants.{Pair, Internet, Pipe}
use Rattle.shared_items.specs.declared.shared.FileImage.{FileImage}
use Rattle.shared_items.specs.declared.shared.SideImage.{SideImage}
use Rattle.shared_items.specs.declared.shared.ChannelImage.{ChannelImage}
use Rattle.shared_items.specs.declared.shared.ObjectImage.{ObjectImage}
use Rattle.shared_items.specs.declared.shared.ObjectImage.TheVariants.{Console, File, Stream, Socket, Listener}
use Rattle.shared_items.specs.declared.shared.DescriptionImage.{DescriptionImage}
use Rattle.shared_items.specs.declared.shared.ThreadEntry.{ThreadEntry}
use Rattle.shared_items.specs.declared.shared.DescriptorEntry.{DescriptorEntry}
use Rattle.shared_items.specs.declared.shared.ProcessEntry.{ProcessEntry}
use Rattle.shared_items.specs.declared.shared.Shared.{Shared}
use Rattle.image_format.specs.Fields.{is_within}
use Rattle.image_format.specs.Format.{n8, n16, n32, any}
use Rattle.image_format.specs.Texts.{FitsField, EachFrom}
use Rattle.shared_items.specs.SharedFormat.{VERSION}
use Rattle.shared_items.specs.SharedTests as field
use Rattle.shared_items.specs.WholeShared.{is_whole_shared}

-- the number that stands for a flag, for a side's flags, and for a kind of channel
abbrev pub flag : Bool → ℕ
flag b = if b then 1 else 0

abbrev pub side_flags : SideImage → ℕ
side_flags side = flag side.ended + 2 * flag side.unread

abbrev pub number_of_kind : ChannelKind → ℕ
number_of_kind Pair = 0
number_of_kind Internet = 1
number_of_kind Pipe = 2

-- those of an address, and where there is none
abbrev pub host_number : Option VirtAddr → ℕ
host_number None = 0xFFFFFFFF
host_number (Some address) = address.host

abbrev pub port_number : Option VirtAddr → ℕ
port_number None = 0
port_number (Some address) = address.port

-- the number that stands for a kind of object, and for the state of a process with its status
abbrev pub kind_of : ObjectImage → ℕ
kind_of Console = 0
kind_of (File number offset) = 1
kind_of (Stream conn side) = 2
kind_of (Socket address) = 3
kind_of (Listener address backlog pending) = 4

abbrev pub state_of : Life → ℕ
state_of Live = 0
state_of (Zombie status) = 1

abbrev pub status_of : Life → ℕ
status_of Live = 0
status_of (Zombie status) = status

abbrev pub FitsNumber : (ℕ → Bool) → ℕ → Type 0
FitsNumber ok n = FitsField n32 ok n

pub record FileFits (next_file : ℕ) (front : List FileImage) (it : FileImage) : Type 0 where
  pub number : FitsNumber (field.is_file_number next_file front) it.number
  pub name_size : FitsField n16 (is_within 0 255) (length it.name)
  pub name : IsTrue (field.is_file_name front it.name)
  pub size : FitsNumber (field.is_file_size front) (length it.bytes)
  pub bytes : IsTrue (field.are_bytes it.bytes)

-- a side of a channel of this kind; an internet connection's have addresses
pub record SideFits (kind number : ℕ) (it : SideImage) : Type 0 where
  pub size : FitsNumber (field.is_left_count kind number (side_flags it)) (length it.left)
  pub left : IsTrue (field.are_bytes it.left)
  pub has_address : is_some it.address ≡ (kind == 1)
  pub host : FitsNumber (field.is_side_host kind) (host_number it.address)
  pub port : FitsNumber (field.is_side_port kind) (port_number it.address)

pub record ChannelFits (next_id : ℕ) (front : List ChannelImage) (it : ChannelImage) : Type 0 where
  pub maker : FitsNumber (field.is_maker next_id (field.last_channel front)) it.id.pid.0
  pub number : FitsNumber (field.is_number_after (field.last_channel front) it.id.pid.0) it.id.num
  pub first : SideFits (number_of_kind it.kind) 0 it.first
  pub second : SideFits (number_of_kind it.kind) 1 it.second

pub record StreamFits (channels : List ChannelImage) (front : List DescriptionImage) (flags : ℕ)
    (conn : ConnId) (side : ℕ) : Type 0 where
  pub maker : FitsNumber any conn.pid.0
  pub number : FitsNumber (field.is_channel channels conn.pid.0) conn.num
  pub end : FitsField n8 (field.is_stream_side channels front flags conn) side

pub record SocketFits (front : List DescriptionImage) (address : VirtAddr) : Type 0 where
  pub host : FitsNumber field.is_host address.host
  pub port : FitsNumber (field.is_socket_port front address.host) address.port

pub record ConnectionFits (channels : List ChannelImage) (front : List DescriptionImage)
    (earlier : List ConnId) (it : ConnId) : Type 0 where
  pub maker : FitsNumber any it.pid.0
  pub number : FitsNumber (field.is_pending_name channels front earlier it.pid.0) it.num

pub record ListenerFits (channels : List ChannelImage) (front : List DescriptionImage) (address : VirtAddr)
    (backlog : ℕ) (pending : List ConnId) : Type 0 where
  pub host : FitsNumber field.is_host address.host
  pub port : FitsNumber (field.is_listener_port front address.host) address.port
  pub room : FitsNumber any backlog
  pub count : FitsNumber (field.is_queue_count backlog) (length pending)
  pub queue : EachFrom (ConnectionFits channels front) [] pending

abbrev pub ObjectFits : List FileImage → List ChannelImage → List DescriptionImage → ℕ → ObjectImage
    → Type 0
ObjectFits files channels front flags Console = Unit {0}
ObjectFits files channels front flags (File number offset) =
    FitsNumber (field.is_listed_file files) number × FitsNumber any offset
ObjectFits files channels front flags (Stream conn side) = StreamFits channels front flags conn side
ObjectFits files channels front flags (Socket address) = SocketFits front address
ObjectFits files channels front flags (Listener address backlog pending) =
    ListenerFits channels front address backlog pending

pub record DescriptionFits (version next_id : ℕ) (files : List FileImage) (channels : List ChannelImage)
    (front : List DescriptionImage) (it : DescriptionImage) : Type 0 where
  pub maker : FitsNumber (field.is_maker next_id (field.last_description front)) it.id.pid.0
  pub number : FitsNumber (field.is_number_after (field.last_description front) it.id.pid.0) it.id.num
  pub kind : FitsField n8 (field.is_object_kind version) (kind_of it.object)
  pub flags : FitsNumber field.is_status_flags it.flags
  pub owner : FitsNumber any it.owner
  pub what : ObjectFits files channels front it.flags it.object

pub record ThreadFits (next_id : ℕ) (earlier : List ProcessEntry) (front : List ThreadEntry)
    (it : ThreadEntry) : Type 0 where
  pub number : FitsNumber (field.is_thread_number next_id earlier front) it.tid
  pub pending : FitsNumber field.is_signals it.pending

pub record DescriptorFits (descriptions : List DescriptionImage) (front : List DescriptorEntry)
    (it : DescriptorEntry) : Type 0 where
  pub number : FitsNumber (field.is_descriptor_number front) it.number
  pub maker : FitsNumber any it.desc.pid.0
  pub described : FitsNumber (field.is_description descriptions it.desc.pid.0) it.desc.num

pub record LifeFits (channels : List ChannelImage) (descriptions : List DescriptionImage)
    (number parent made : ℕ) (life : Life) : Type 0 where
  pub state : FitsField n8 (field.is_state channels descriptions number parent made) (state_of life)
  pub status : FitsNumber (field.is_exit_status (state_of life)) (status_of life)

pub record ProcessFits (next_id : ℕ) (channels : List ChannelImage) (descriptions : List DescriptionImage)
    (front : List ProcessEntry) (it : ProcessEntry) : Type 0 where
  pub number : FitsNumber (field.is_process_number next_id front) it.pid.0
  pub parent : FitsNumber (field.is_parent front) it.parent
  pub host : FitsNumber field.is_host it.host
  pub made : FitsNumber any it.made
  pub life : LifeFits channels descriptions it.pid.0 it.parent it.made it.life
  pub pending : FitsNumber (field.is_pending_set it.life) it.pending
  pub thread_count : FitsNumber (field.is_thread_count it.life) (length it.threads)
  pub threads : EachFrom (ThreadFits next_id front) [] it.threads
  pub descriptor_count : FitsNumber (field.is_descriptor_count it.life) (length it.descriptors)
  pub descriptors : EachFrom (DescriptorFits descriptions) [] it.descriptors

pub record SharedFits (s : Shared) : Type 0 where
  pub next_id : FitsNumber field.is_next_id s.next_id
  pub next_file : FitsNumber field.is_next_file s.next_file
  pub file_count : FitsNumber field.is_file_count (length s.files)
  pub files : EachFrom (FileFits s.next_file) [] s.files
  pub channel_count : FitsNumber field.is_channel_count (length s.channels)
  pub channels : EachFrom (ChannelFits s.next_id) [] s.channels
  pub description_count : FitsNumber any (length s.descriptions)
  pub descriptions : EachFrom (DescriptionFits VERSION s.next_id s.files s.channels) [] s.descriptions
  pub process_count : FitsNumber field.is_process_count (length s.processes)
  pub processes : EachFrom (ProcessFits s.next_id s.channels s.descriptions) [] s.processes

pub record IsShared (s : Shared) : Type 0 where
  pub fields : SharedFits s
  pub whole : IsTrue (is_whole_shared s)
