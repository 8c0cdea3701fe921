-- The bytes of a shared image, and of each item of its lists, as its writer puts them.
--     IsSharedText text s      the bytes are the text of a value that has a file
-- Source: docs/FORMATS.md, "Shared image".
use Rattle.std.specs.Prelude.{◌≡◌, ℕ, ◌^◌, ◌<◌, List, [], ◌++◌, length, Option}
use Rattle.std.specs.List.{flat_map}
use Rattle.sys_abi.specs.declared.identity.ConnId.{ConnId}
use Rattle.sys_abi.specs.declared.identity.VirtAddr.{VirtAddr}
use Rattle.sys_abi.specs.declared.life.Life.{Life}
use Rattle.shared_items.specs.declared.shared.FileImage.{FileImage}
use Rattle.shared_items.specs.declared.shared.SideImage.{SideImage}
use Rattle.shared_items.specs.declared.shared.ChannelImage.{ChannelImage}
use Rattle.shared_items.specs.declared.shared.ObjectImage.{ObjectImage}
use Rattle.shared_items.specs.declared.shared.ObjectImage.TheVariants.{Console, File, Stream, Socket, Listener}
use Rattle.shared_items.specs.declared.shared.DescriptionImage.{DescriptionImage}
use Rattle.shared_items.specs.declared.shared.ThreadEntry.{ThreadEntry}
use Rattle.shared_items.specs.declared.shared.DescriptorEntry.{DescriptorEntry}
use Rattle.shared_items.specs.declared.shared.ProcessEntry.{ProcessEntry}
use Rattle.shared_items.specs.declared.shared.Shared.{Shared}
use Rattle.image_format.specs.Format.{n8, n16, n32, number_text}
use Rattle.shared_items.specs.SharedFormat.{SHARED_MAGIC}
use Rattle.shared_items.specs.SharedFits.{IsShared, flag, side_flags, number_of_kind, host_number, port_number, kind_of, state_of, status_of}

-- a list: how many items, and their bytes
abbrev pub list_text : {X : Type 0} → (X → List ℕ) → List X → List ℕ
list_text text items = number_text n32 (length items) ++ flat_map text items

unfoldable pub file_text : FileImage → List ℕ
file_text f =
    number_text n32 f.number ++ number_text n16 (length f.name) ++ f.name
    ++ number_text n32 (length f.bytes) ++ f.bytes

abbrev pub address_text : Option VirtAddr → List ℕ
address_text address = number_text n32 (host_number address) ++ number_text n32 (port_number address)

unfoldable pub side_text : SideImage → List ℕ
side_text s =
    number_text n8 (side_flags s) ++ number_text n32 (length s.left) ++ s.left
    ++ address_text s.address

unfoldable pub channel_text : ChannelImage → List ℕ
channel_text c =
    number_text n32 c.id.pid.0 ++ number_text n32 c.id.num ++ number_text n8 (number_of_kind c.kind)
    ++ side_text c.first ++ side_text c.second

unfoldable pub connection_text : ConnId → List ℕ
connection_text conn = number_text n32 conn.pid.0 ++ number_text n32 conn.num

-- what follows in a description after its owner
unfoldable pub object_text : ObjectImage → List ℕ
object_text Console = []
object_text (File number offset) = number_text n32 number ++ number_text n32 offset
object_text (Stream conn side) = connection_text conn ++ number_text n8 side
object_text (Socket address) = number_text n32 address.host ++ number_text n32 address.port
object_text (Listener address backlog pending) =
    number_text n32 address.host ++ number_text n32 address.port ++ number_text n32 backlog
    ++ list_text connection_text pending

unfoldable pub description_text : DescriptionImage → List ℕ
description_text d =
    number_text n32 d.id.pid.0 ++ number_text n32 d.id.num ++ number_text n8 (kind_of d.object)
    ++ number_text n32 d.flags ++ number_text n32 d.owner ++ object_text d.object

unfoldable pub thread_text : ThreadEntry → List ℕ
thread_text t = number_text n32 t.tid ++ number_text n32 t.pending

unfoldable pub descriptor_text : DescriptorEntry → List ℕ
descriptor_text d =
    number_text n32 d.number ++ number_text n32 d.desc.pid.0 ++ number_text n32 d.desc.num
    ++ number_text n8 (flag d.cloexec)

unfoldable pub life_text : Life → List ℕ
life_text life = number_text n8 (state_of life) ++ number_text n32 (status_of life)

unfoldable pub process_text : ProcessEntry → List ℕ
process_text p =
    number_text n32 p.pid.0 ++ number_text n32 p.parent ++ number_text n32 p.host
    ++ number_text n32 p.made
    ++ life_text p.life ++ number_text n32 p.pending
    ++ list_text thread_text p.threads ++ list_text descriptor_text p.descriptors

unfoldable pub shared_text : Shared → List ℕ
shared_text s =
    SHARED_MAGIC ++ number_text n32 s.next_id ++ number_text n32 s.next_file
    ++ list_text file_text s.files ++ list_text channel_text s.channels
    ++ list_text description_text s.descriptions ++ list_text process_text s.processes

-- the lists of an item have counts that their fields hold
pub record HasFileCounts (file : FileImage) : Type 0 where
  pub name : length file.name < 2 ^ 16
  pub bytes : length file.bytes < 2 ^ 32

pub record HasSideCounts (channel : ChannelImage) : Type 0 where
  pub first : length channel.first.left < 2 ^ 32
  pub second : length channel.second.left < 2 ^ 32

abbrev pub HasQueueCount : ObjectImage → Type 0
HasQueueCount (Listener address backlog pending) = length pending < 2 ^ 32
HasQueueCount _ = Unit {0}

pub record HasCounts (process : ProcessEntry) : Type 0 where
  pub threads : length process.threads < 2 ^ 32
  pub descriptors : length process.descriptors < 2 ^ 32

pub record IsSharedText (text : List ℕ) (s : Shared) : Type 0 where
  pub keeps : IsShared s
  pub text_is : text ≡ shared_text s
