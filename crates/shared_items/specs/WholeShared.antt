-- What is tested at the end of the shared image, over the whole value.
--     is_whole_shared s      each file is kept, each channel rightly named, each description rightly held, and
--                            each parent near its child
-- Source: docs/FORMATS.md, "Shared image".
use Rattle.std.specs.Prelude.{ℕ, ◌==◌, ◌&&◌, ◌||◌, Bool, true, false, not, List, length, Option, Some, None, if◌then◌else◌}
use Rattle.std.specs.List.{list_any, list_all}
use Rattle.sys_abi.specs.declared.identity.DescId.{DescId}
use Rattle.sys_abi.specs.declared.identity.ConnId.{ConnId}
use Rattle.sys_abi.specs.declared.identity.VirtAddr.{VirtAddr}
use Rattle.shared_items.specs.declared.shared.FileImage.{FileImage}
use Rattle.shared_items.specs.declared.shared.SideImage.{SideImage}
use Rattle.shared_items.specs.declared.shared.ChannelImage.{ChannelImage}
use Rattle.shared_items.specs.declared.shared.ObjectImage.{ObjectImage}
use Rattle.shared_items.specs.declared.shared.ObjectImage.TheVariants.{File, Stream, Socket, Listener}
use Rattle.shared_items.specs.declared.shared.DescriptionImage.{DescriptionImage}
use Rattle.shared_items.specs.declared.shared.DescriptorEntry.{DescriptorEntry}
use Rattle.shared_items.specs.declared.shared.ProcessEntry.{ProcessEntry}
use Rattle.shared_items.specs.declared.shared.Shared.{Shared}
use Rattle.shared_items.specs.Sides.{same_channel, is_side_named}
use Rattle.shared_items.specs.SharedTests.{is_pair, is_live_entry}

-- a file without a name is open
abbrev pub opens : ℕ → ObjectImage → Bool
opens number (File n offset) = n == number
opens number _ = false

abbrev pub is_opened : List DescriptionImage → ℕ → Bool
is_opened descriptions number = list_any (λ it. opens number it.object) descriptions

abbrev pub is_kept_file : List DescriptionImage → FileImage → Bool
is_kept_file descriptions file = not (length file.name == 0) || is_opened descriptions file.number

-- a channel has a side that is named; one that isn't sends no more, and what it is sent is read no more
abbrev pub is_named_or_closed : List DescriptionImage → ConnId → ℕ → SideImage → SideImage → Bool
is_named_or_closed descriptions conn side image other =
    is_side_named descriptions conn side || (image.ended && other.unread)

abbrev pub is_rightly_named : List DescriptionImage → ChannelImage → Bool
is_rightly_named descriptions channel =
    (is_side_named descriptions channel.id 0 || is_side_named descriptions channel.id 1)
    && is_named_or_closed descriptions channel.id 0 channel.first channel.second
    && is_named_or_closed descriptions channel.id 1 channel.second channel.first

-- what is held has its holders' host: a socket, a listener with the connections that wait at it, and an end
-- of an internet connection, as its address says
abbrev pub is_of_host : ℕ → Option VirtAddr → Bool
is_of_host host None = true
is_of_host host (Some address) = address.host == host

abbrev pub side_of : ChannelImage → ℕ → SideImage
side_of channel side = if side == 0 then channel.first else channel.second

abbrev pub is_end_of_host : ℕ → ConnId → ℕ → ChannelImage → Bool
is_end_of_host host conn side channel =
    not (same_channel conn channel.id) || is_of_host host (side_of channel side).address

abbrev pub is_side_of_host : List ChannelImage → ℕ → ℕ → ConnId → Bool
is_side_of_host channels host side conn = list_all (is_end_of_host host conn side) channels

abbrev pub is_object_of_host : List ChannelImage → ℕ → ObjectImage → Bool
is_object_of_host channels host (Stream conn side) = is_side_of_host channels host side conn
is_object_of_host channels host (Socket address) = address.host == host
is_object_of_host channels host (Listener address backlog pending) =
    (address.host == host) && list_all (is_side_of_host channels host 1) pending
is_object_of_host channels host _ = true

-- the processes that hold a description, a descriptor each
abbrev pub names_description : DescId → DescriptorEntry → Bool
names_description id descriptor = is_pair id.pid.0 id.num descriptor.desc

abbrev pub holds : DescId → ProcessEntry → Bool
holds id process = list_any (names_description id) process.descriptors

abbrev pub is_held_by_some : List ProcessEntry → DescId → Bool
is_held_by_some processes id = list_any (holds id) processes

-- two processes that hold a description are of one host, and so is a live process that is its owner
abbrev pub may_share : ProcessEntry → DescId → ProcessEntry → Bool
may_share process id other = not (holds id other) || (other.host == process.host)

abbrev pub is_owner_of : ℕ → ℕ → ProcessEntry → Bool
is_owner_of owner host process = is_live_entry owner process && (process.host == host)

abbrev pub is_owner : List ProcessEntry → ℕ → ℕ → Bool
is_owner processes host owner = (owner == 0) || list_any (is_owner_of owner host) processes

abbrev pub may_hold : List ChannelImage → List ProcessEntry → DescriptionImage → ProcessEntry → Bool
may_hold channels processes description process =
    list_all (may_share process description.id) processes
    && is_owner processes process.host description.owner
    && is_object_of_host channels process.host description.object

abbrev pub is_rightly_held_by : List ChannelImage → List ProcessEntry → DescriptionImage → ProcessEntry → Bool
is_rightly_held_by channels processes description process =
    not (holds description.id process) || may_hold channels processes description process

abbrev pub is_rightly_held : List ChannelImage → List ProcessEntry → DescriptionImage → Bool
is_rightly_held channels processes description =
    is_held_by_some processes description.id
    && list_all (is_rightly_held_by channels processes description) processes

-- a parent is of its child's host
abbrev pub is_of_parents_host : ProcessEntry → ProcessEntry → Bool
is_of_parents_host child parent = not (child.parent == parent.pid.0) || (child.host == parent.host)

abbrev pub is_near_parent : List ProcessEntry → ProcessEntry → Bool
is_near_parent processes child = list_all (is_of_parents_host child) processes

unfoldable pub is_whole_shared : Shared → Bool
is_whole_shared s =
    list_all (is_kept_file s.descriptions) s.files
    && list_all (is_rightly_named s.descriptions) s.channels
    && list_all (is_rightly_held s.channels s.processes) s.descriptions
    && list_all (is_near_parent s.processes) s.processes
