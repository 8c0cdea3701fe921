-- The format of the shared image: 8 bytes `DMTSHR01`, the next number of a process or thread, the next number
-- of a file, and four lists, of files, channels, open descriptions and processes. Each list is a count in 32
-- bits and its items.
--     SpellsShared text s      the bytes are the file of this value
--     DamagedShared text n      the bytes are the file of no value: at place n they break the format
-- An item's format takes what it may look at: the version of the file, the lists before its own, the fields
-- before, and the items of its own list before it.
-- Source: docs/FORMATS.md, "Shared image".
use Rattle.std.specs.Prelude.{ℕ, ◌==◌, ◌%◌, nat_le, Bool, true, false, List, Option, Some, None, codes, if◌then◌else◌}
use Rattle.views.specs.Numbers.{Flags, Byte}
use Rattle.sys_abi.specs.declared.identity.VirtAddr.{VirtAddr}
use Rattle.sys_abi.specs.declared.identity.ConnId.{ConnId}
use Rattle.sys_abi.specs.declared.identity.DescId.{DescId}
use Rattle.sys_abi.specs.declared.life.Life.{Life}
use Rattle.sys_abi.specs.declared.life.Life.TheVariants.{Live, Zombie}
use Rattle.plain_tables.specs.declared.channel.ChannelKind.{ChannelKind}
use Rattle.plain_tables.specs.declared.channel.ChannelKind.TheVariants.{Pair, Internet, Pipe}
use Rattle.plain_tables.specs.Tables.{pid}
use Rattle.shared_items.specs.declared.shared.FileImage.{FileImage}
use Rattle.shared_items.specs.declared.shared.SideImage.{SideImage}
use Rattle.shared_items.specs.declared.shared.ChannelImage.{ChannelImage}
use Rattle.shared_items.specs.declared.shared.ObjectImage.{ObjectImage}
use Rattle.shared_items.specs.declared.shared.ObjectImage.TheVariants.{Console, File, Stream, Socket, Listener}
use Rattle.shared_items.specs.declared.shared.DescriptionImage.{DescriptionImage}
use Rattle.shared_items.specs.declared.shared.ThreadEntry.{ThreadEntry}
use Rattle.shared_items.specs.declared.shared.DescriptorEntry.{DescriptorEntry}
use Rattle.shared_items.specs.declared.shared.ProcessEntry.{ProcessEntry}
use Rattle.shared_items.specs.declared.shared.Shared.{Shared}
use Rattle.image_format.specs.Fields.{is_bytes, is_within}
use Rattle.image_format.specs.Format.{FormatOf, unsigned, raw, give, ◌>>=◌, counted, any, n8, n16, n32, SpellsFile, Damaged}
use Rattle.shared_items.specs.SharedTests as field
use Rattle.shared_items.specs.SharedTests.{conn}
use Rattle.shared_items.specs.WholeShared.{is_whole_shared}

abbrev pub SHARED_MAGIC : List Byte
SHARED_MAGIC = codes "DMTSHR01"

-- the version that begins so
abbrev pub VERSION : ℕ
VERSION = 1

abbrev pub desc : ℕ → ℕ → DescId
desc maker number = record { pid = pid maker; num = number }

unfoldable pub file : ℕ → List FileImage → FormatOf FileImage
file next_file front = do
  number ← unsigned n32 (field.is_file_number next_file front)
  name_size ← unsigned n16 (is_within 0 255)
  name ← raw name_size (field.is_file_name front)
  size ← unsigned n32 (field.is_file_size front)
  bytes ← raw size field.are_bytes
  give (record { number = number; name = name; bytes = bytes })

abbrev pub channel_kind : ℕ → ChannelKind
channel_kind kind = if kind == 0 then Pair else (if kind == 1 then Internet else Pipe)

abbrev pub side_address : ℕ → ℕ → ℕ → Option VirtAddr
side_address kind host port = if kind == 1 then Some (record { host = host; port = port }) else None

unfoldable pub side : ℕ → ℕ → FormatOf SideImage
side kind number = do
  flags ← unsigned n8 field.is_side_flags
  size ← unsigned n32 (field.is_left_count kind number flags)
  left ← raw size field.are_bytes
  host ← unsigned n32 (field.is_side_host kind)
  port ← unsigned n32 (field.is_side_port kind)
  give (record {
    ended = flags % 2 == 1;
    unread = nat_le 2 flags;
    left = left;
    address = side_address kind host port;
  })

unfoldable pub channel : ℕ → List ChannelImage → FormatOf ChannelImage
channel next_id front = do
  maker ← unsigned n32 (field.is_maker next_id (field.last_channel front))
  number ← unsigned n32 (field.is_number_after (field.last_channel front) maker)
  kind ← unsigned n8 field.is_channel_kind
  first ← side kind 0
  second ← side kind 1
  give (record {
    id = conn maker number;
    kind = channel_kind kind;
    first = first;
    second = second;
  })

-- what follows in a description of a kind, after its owner: of the console, nothing
unfoldable pub open_file : List FileImage → FormatOf ObjectImage
open_file files = do
  number ← unsigned n32 (field.is_listed_file files)
  offset ← unsigned n32 any
  give (File number offset)

unfoldable pub stream : List ChannelImage → List DescriptionImage → Flags → FormatOf ObjectImage
stream channels front flags = do
  maker ← unsigned n32 any
  number ← unsigned n32 (field.is_channel channels maker)
  end ← unsigned n8 (field.is_stream_side channels front flags (conn maker number))
  give (Stream (conn maker number) end)

unfoldable pub socket : List DescriptionImage → FormatOf ObjectImage
socket front = do
  host ← unsigned n32 field.is_host
  port ← unsigned n32 (field.is_socket_port front host)
  give (Socket (record { host = host; port = port }))

-- a connection that waits to be accepted
unfoldable pub connection : List ChannelImage → List DescriptionImage → List ConnId → FormatOf ConnId
connection channels front earlier = do
  maker ← unsigned n32 any
  number ← unsigned n32 (field.is_pending_name channels front earlier maker)
  give (conn maker number)

unfoldable pub listener : List ChannelImage → List DescriptionImage → FormatOf ObjectImage
listener channels front = do
  host ← unsigned n32 field.is_host
  port ← unsigned n32 (field.is_listener_port front host)
  backlog ← unsigned n32 any
  pending ← counted (field.is_queue_count backlog) (connection channels front)
  give (Listener (record { host = host; port = port }) backlog pending)

-- the first format where the test is met, and else the second
unfoldable pub choice : {A : Type 0} → Bool → FormatOf A → FormatOf A → FormatOf A
choice true first second = first
choice false first second = second

unfoldable pub object : ℕ → List FileImage → List ChannelImage → List DescriptionImage → ℕ → Flags
    → FormatOf ObjectImage
object version files channels front kind flags =
    choice (kind == 0) (give Console)
    (choice (kind == 1) (open_file files)
    (choice (kind == 2) (stream channels front flags)
    (choice (kind == 3) (socket front) (listener channels front))))

unfoldable pub description : ℕ → ℕ → List FileImage → List ChannelImage → List DescriptionImage
    → FormatOf DescriptionImage
description version next_id files channels front = do
  maker ← unsigned n32 (field.is_maker next_id (field.last_description front))
  number ← unsigned n32 (field.is_number_after (field.last_description front) maker)
  kind ← unsigned n8 (field.is_object_kind version)
  flags ← unsigned n32 field.is_status_flags
  owner ← unsigned n32 any
  what ← object version files channels front kind flags
  give (record { id = desc maker number; object = what; flags = flags; owner = owner })

unfoldable pub thread : ℕ → List ProcessEntry → List ThreadEntry → FormatOf ThreadEntry
thread next_id earlier front = do
  tid ← unsigned n32 (field.is_thread_number next_id earlier front)
  pending ← unsigned n32 field.is_signals
  give (record { tid = tid; pending = pending })

unfoldable pub descriptor : List DescriptionImage → List DescriptorEntry → FormatOf DescriptorEntry
descriptor descriptions front = do
  number ← unsigned n32 (field.is_descriptor_number front)
  maker ← unsigned n32 any
  described ← unsigned n32 (field.is_description descriptions maker)
  cloexec ← unsigned n8 field.is_flag
  give (record { number = number; desc = desc maker described; cloexec = cloexec == 1 })

abbrev pub life_of : ℕ → ℕ → Life
life_of state status = if state == 0 then Live else Zombie status

unfoldable pub life : List ChannelImage → List DescriptionImage → ℕ → ℕ → ℕ → FormatOf Life
life channels descriptions number parent made = do
  state ← unsigned n8 (field.is_state channels descriptions number parent made)
  status ← unsigned n32 (field.is_exit_status state)
  give (life_of state status)

unfoldable pub process : ℕ → List ChannelImage → List DescriptionImage → List ProcessEntry
    → FormatOf ProcessEntry
process next_id channels descriptions front = do
  number ← unsigned n32 (field.is_process_number next_id front)
  parent ← unsigned n32 (field.is_parent front)
  host ← unsigned n32 field.is_host
  made ← unsigned n32 any
  fate ← life channels descriptions number parent made
  pending ← unsigned n32 (field.is_pending_set fate)
  threads ← counted (field.is_thread_count fate) (thread next_id front)
  descriptors ← counted (field.is_descriptor_count fate) (descriptor descriptions)
  give (record {
    pid = pid number;
    parent = parent;
    host = host;
    made = made;
    life = fate;
    pending = pending;
    threads = threads;
    descriptors = descriptors;
  })

unfoldable pub shared : FormatOf Shared
shared = do
  magic ← raw 8 (is_bytes SHARED_MAGIC)
  next_id ← unsigned n32 field.is_next_id
  next_file ← unsigned n32 field.is_next_file
  files ← counted field.is_file_count (file next_file)
  channels ← counted field.is_channel_count (channel next_id)
  descriptions ← counted any (description VERSION next_id files channels)
  processes ← counted field.is_process_count (process next_id channels descriptions)
  give (record {
    next_id = next_id;
    next_file = next_file;
    files = files;
    channels = channels;
    descriptions = descriptions;
    processes = processes;
  })

abbrev pub SpellsShared : List Byte → Shared → Type 0
SpellsShared = SpellsFile shared is_whole_shared

abbrev pub DamagedShared : List Byte → ℕ → Type 0
DamagedShared = Damaged shared is_whole_shared
