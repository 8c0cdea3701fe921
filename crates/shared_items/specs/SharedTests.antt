-- Which values the fields of the shared image may have, each after the fields before it.
--     is_next_id .. is_flag      a field, after the fields of the item and of the items before it
-- What is tested at the end of the file stands in `WholeShared.antt`.
-- Source: docs/FORMATS.md, "Shared image".
use Rattle.std.specs.Prelude.{◌==◌, ◌&&◌, ◌||◌, ℕ, ◌+◌, ◌-◌, ◌%◌, ◌^◌, nat_le, nat_lt, bit_and, Bool, true, false, not, List, length, sum_by, Option, Some, None, option_map, if◌then◌else◌}
use Rattle.std.specs.List.{list_any, list_all}
use Rattle.views.specs.Numbers.{ThreadNumber, Flags, Byte}
use Rattle.views.specs.Limits.{HOST_LIMIT, PROCESS_LIMIT, THREAD_LIMIT, DESCRIPTOR_LIMIT, CHANNEL_LIMIT, FILE_LIMIT, ALL_FILES_LIMIT, DIRECTION_LIMIT}
use Rattle.sys_abi.specs.declared.identity.DescId.{DescId}
use Rattle.sys_abi.specs.declared.identity.ConnId.{ConnId}
use Rattle.views.specs.NumberMap.{is_above}
use Rattle.sys_abi.specs.declared.life.Life.{Life}
use Rattle.plain_tables.specs.declared.channel.ChannelKind.{ChannelKind}
use Rattle.plain_tables.specs.declared.channel.ChannelKind.TheVariants.{Internet, Pipe}
use Rattle.plain_tables.specs.Tables.{FIRST_PID, pid}
use Rattle.shared_items.specs.declared.shared.FileImage.{FileImage}
use Rattle.shared_items.specs.declared.shared.ChannelImage.{ChannelImage}
use Rattle.shared_items.specs.declared.shared.ObjectImage.{ObjectImage}
use Rattle.shared_items.specs.declared.shared.ObjectImage.TheVariants.{Socket, Listener}
use Rattle.shared_items.specs.declared.shared.DescriptionImage.{DescriptionImage}
use Rattle.shared_items.specs.declared.shared.ThreadEntry.{ThreadEntry}
use Rattle.shared_items.specs.declared.shared.DescriptorEntry.{DescriptorEntry}
use Rattle.shared_items.specs.declared.shared.ProcessEntry.{ProcessEntry}
use Rattle.shared_items.specs.Sides.{same_channel, is_side_named}
use Rattle.image_format.specs.Fields.{is_bytes, is_within, last_item}
use Rattle.sys_abi.specs.Lives.{lives}

-- numbers of processes and threads are given out from here on
abbrev pub is_given_out : ℕ → ℕ → Bool
is_given_out next_id n = nat_le FIRST_PID n && nat_lt n next_id

abbrev pub is_next_id : ℕ → Bool
is_next_id n = nat_le FIRST_PID n && nat_lt n (2 ^ 31)

abbrev pub is_next_file : ℕ → Bool
is_next_file n = nat_le 1 n

abbrev pub is_file_count : ℕ → Bool
is_file_count n = nat_le n FILE_LIMIT

abbrev pub is_channel_count : ℕ → Bool
is_channel_count n = nat_le n CHANNEL_LIMIT

abbrev pub is_process_count : ℕ → Bool
is_process_count n = nat_le n PROCESS_LIMIT

abbrev pub is_host : ℕ → Bool
is_host n = nat_lt n HOST_LIMIT

-- a port, which is 0 where there is none
abbrev pub is_port : ℕ → Bool
is_port n = nat_le n 65535

-- each item of a file's text is one
abbrev pub are_bytes : List Byte → Bool
are_bytes bytes = list_all (λ byte. nat_lt byte (2 ^ 8)) bytes

-- files: a name holds no zero byte, and no two files have the same one
abbrev pub last_file : List FileImage → Option ℕ
last_file front = option_map (λ file. file.number) (last_item front)

abbrev pub is_file_number : ℕ → List FileImage → ℕ → Bool
is_file_number next_file front n = is_above (last_file front) n && is_within 1 (next_file - 1) n

abbrev pub file_has_name : List Byte → FileImage → Bool
file_has_name name file = is_bytes name file.name

abbrev pub is_new_name : List FileImage → List Byte → Bool
is_new_name front name = (length name == 0) || not (list_any (file_has_name name) front)

abbrev pub is_file_name : List FileImage → List Byte → Bool
is_file_name front name = list_all (is_within 1 255) name && is_new_name front name

abbrev pub is_file_size : List FileImage → ℕ → Bool
is_file_size front size = nat_le (sum_by (λ file. length file.bytes) front + size) ALL_FILES_LIMIT

-- a list of pairs rises: at its maker a pair is not below the one before, and at its number it is above it
abbrev pub is_maker_after : Option (ℕ × ℕ) → ℕ → Bool
is_maker_after None maker = true
is_maker_after (Some before) maker = nat_le before.0 maker

abbrev pub is_number_after : Option (ℕ × ℕ) → ℕ → ℕ → Bool
is_number_after None maker n = true
is_number_after (Some before) maker n = nat_lt before.0 maker || nat_lt before.1 n

abbrev pub last_channel : List ChannelImage → Option (ℕ × ℕ)
last_channel front = option_map (λ channel. (channel.id.pid.0, channel.id.num)) (last_item front)

abbrev pub last_description : List DescriptionImage → Option (ℕ × ℕ)
last_description front =
    option_map (λ description. (description.id.pid.0, description.id.num)) (last_item front)

abbrev pub is_maker : ℕ → Option (ℕ × ℕ) → ℕ → Bool
is_maker next_id before maker = is_maker_after before maker && nat_lt maker next_id

-- channels: 0 is a pair, 1 an internet connection, 2 a pipe; side 1 of a pipe sends nothing
abbrev pub is_channel_kind : ℕ → Bool
is_channel_kind kind = nat_le kind 2

abbrev pub is_side_flags : Flags → Bool
is_side_flags flags = nat_le flags 3

abbrev pub may_hold_bytes : ℕ → ℕ → Flags → Bool
may_hold_bytes kind side flags = nat_lt flags 2 && not ((kind == 2) && (side == 1))

abbrev pub is_left_count : ℕ → ℕ → Flags → ℕ → Bool
is_left_count kind side flags n = nat_le n DIRECTION_LIMIT && ((n == 0) || may_hold_bytes kind side flags)

abbrev pub is_side_host : ℕ → ℕ → Bool
is_side_host kind n = if kind == 1 then is_host n else n == 0xFFFFFFFF

abbrev pub is_side_port : ℕ → ℕ → Bool
is_side_port kind n = if kind == 1 then is_port n else n == 0

-- 0 is the console, 1 a file, 2 a stream, 3 a socket, 4 a listener
abbrev pub is_object_kind : ℕ → ℕ → Bool
is_object_kind version kind = nat_le kind 4

-- the access mode (0, 1 or 2), O_APPEND and O_NONBLOCK (`man 2 open`)
abbrev pub is_status_flags : Flags → Bool
is_status_flags flags = (bit_and flags 0xC03 == flags) && not (bit_and flags 3 == 3)

-- the file and the channel that a description names are there
abbrev pub is_listed_file : List FileImage → ℕ → Bool
is_listed_file files n = list_any (λ file. file.number == n) files

abbrev pub conn : ℕ → ℕ → ConnId
conn maker n = record { pid = pid maker; num = n }

abbrev pub is_channel : List ChannelImage → ℕ → ℕ → Bool
is_channel channels maker n = list_any (λ channel. same_channel (conn maker n) channel.id) channels

-- a pipe is written at side 0 and read at side 1
abbrev pub fits_mode : ChannelKind → Flags → ℕ → Bool
fits_mode Pipe flags side = flags % 4 == (if side == 0 then 1 else 0)
fits_mode _ flags side = true

abbrev pub has_end : ConnId → Flags → ℕ → ChannelImage → Bool
has_end name flags side channel = same_channel name channel.id && fits_mode channel.kind flags side

-- a side of a stream's channel, which nothing names before
abbrev pub is_stream_side : List ChannelImage → List DescriptionImage → Flags → ConnId → ℕ → Bool
is_stream_side channels front flags name side =
    nat_le side 1 && list_any (has_end name flags side) channels && not (is_side_named front name side)

-- no two sockets or listeners of a host have one port
abbrev pub has_port : ℕ → ℕ → ObjectImage → Bool
has_port host port (Socket address) = (address.host == host) && (address.port == port)
has_port host port (Listener address backlog pending) = (address.host == host) && (address.port == port)
has_port host port _ = false

abbrev pub is_listed_port : List DescriptionImage → ℕ → ℕ → Bool
is_listed_port front host port = list_any (λ it. has_port host port it.object) front

abbrev pub is_socket_port : List DescriptionImage → ℕ → ℕ → Bool
is_socket_port front host port = is_port port && ((port == 0) || not (is_listed_port front host port))

abbrev pub is_listener_port : List DescriptionImage → ℕ → ℕ → Bool
is_listener_port front host port = is_within 1 65535 port && not (is_listed_port front host port)

abbrev pub is_queue_count : ℕ → ℕ → Bool
is_queue_count backlog n = nat_le n backlog

-- what waits at a listener: internet connections, of which nothing names side 1 before
abbrev pub is_internet : ChannelKind → Bool
is_internet Internet = true
is_internet _ = false

abbrev pub is_connection : ConnId → ChannelImage → Bool
is_connection name channel = same_channel name channel.id && is_internet channel.kind

abbrev pub may_wait : List ChannelImage → List DescriptionImage → List ConnId → ConnId → Bool
may_wait channels front earlier name =
    list_any (is_connection name) channels
    && not (is_side_named front name 1)
    && not (list_any (same_channel name) earlier)

abbrev pub is_pending_name : List ChannelImage → List DescriptionImage → List ConnId → ℕ → ℕ → Bool
is_pending_name channels front earlier maker n = may_wait channels front earlier (conn maker n)

-- processes
abbrev pub lists_thread : ℕ → ProcessEntry → Bool
lists_thread n process = list_any (λ thread. thread.tid == n) process.threads

abbrev pub last_process : List ProcessEntry → Option ℕ
last_process front = option_map (λ process. process.pid.0) (last_item front)

abbrev pub is_process_number : ℕ → List ProcessEntry → ℕ → Bool
is_process_number next_id front n =
    is_above (last_process front) n && is_given_out next_id n && not (list_any (lists_thread n) front)

abbrev pub is_live_entry : ℕ → ProcessEntry → Bool
is_live_entry n process = (process.pid.0 == n) && lives process.life

-- nobody, or an earlier process that lives
abbrev pub is_parent : List ProcessEntry → ℕ → Bool
is_parent front n = (n == 1) || list_any (is_live_entry n) front

abbrev pub is_number_below : ℕ → ℕ → ℕ → ℕ → Bool
is_number_below pid made maker n = not (maker == pid) || nat_lt n made

-- `made` is above each number that the process gave
abbrev pub is_above_channels : ℕ → ℕ → List ChannelImage → Bool
is_above_channels pid made channels =
    list_all (λ channel. is_number_below pid made channel.id.pid.0 channel.id.num) channels

abbrev pub is_above_descriptions : ℕ → ℕ → List DescriptionImage → Bool
is_above_descriptions pid made descriptions =
    list_all (λ it. is_number_below pid made it.id.pid.0 it.id.num) descriptions

abbrev pub is_made : List ChannelImage → List DescriptionImage → ℕ → ℕ → Bool
is_made channels descriptions pid made =
    is_above_channels pid made channels && is_above_descriptions pid made descriptions

-- 0 lives, 1 is a zombie, which has a parent
abbrev pub LAST_STATE : ℕ
LAST_STATE = 1

abbrev pub is_state : List ChannelImage → List DescriptionImage → ℕ → ℕ → ℕ → ℕ → Bool
is_state channels descriptions pid parent made state =
    nat_le state LAST_STATE
    && (if state == 0 then is_made channels descriptions pid made else not (parent == 1))

abbrev pub is_exit_status : ℕ → ℕ → Bool
is_exit_status state n = not (state == 0) || (n == 0)

-- a set of the signals 1 to 31
abbrev pub is_signals : ℕ → Bool
is_signals n = nat_lt n (2 ^ 31)

abbrev pub is_pending_set : Life → ℕ → Bool
is_pending_set life n = is_signals n && (lives life || (n == 0))

-- a process that lives has 1 to 64 threads, and a zombie has none
abbrev pub is_thread_count : Life → ℕ → Bool
is_thread_count life n = if lives life then is_within 1 THREAD_LIMIT n else n == 0

abbrev pub is_number_of : ℕ → ProcessEntry → Bool
is_number_of n process = (process.pid.0 == n) || lists_thread n process

abbrev pub last_thread : List ThreadEntry → Option ThreadNumber
last_thread front = option_map (λ thread. thread.tid) (last_item front)

abbrev pub is_thread_number : ℕ → List ProcessEntry → List ThreadEntry → ℕ → Bool
is_thread_number next_id earlier front n =
    is_above (last_thread front) n && is_given_out next_id n && not (list_any (is_number_of n) earlier)

abbrev pub is_descriptor_count : Life → ℕ → Bool
is_descriptor_count life n = nat_le n DESCRIPTOR_LIMIT && (lives life || (n == 0))

abbrev pub last_descriptor : List DescriptorEntry → Option ℕ
last_descriptor front = option_map (λ descriptor. descriptor.number) (last_item front)

abbrev pub is_descriptor_number : List DescriptorEntry → ℕ → Bool
is_descriptor_number front n = is_above (last_descriptor front) n && nat_lt n DESCRIPTOR_LIMIT

abbrev pub is_pair : ℕ → ℕ → DescId → Bool
is_pair maker n id = (id.pid.0 == maker) && (id.num == n)

abbrev pub is_description : List DescriptionImage → ℕ → ℕ → Bool
is_description descriptions maker n = list_any (λ description. is_pair maker n description.id) descriptions

abbrev pub is_flag : ℕ → Bool
is_flag n = nat_le n 1
