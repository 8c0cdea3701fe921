-- Words of the calls that make descriptions: their flags, and the ends of what they make.
-- Source: `man 2 pipe`, `man 2 socketpair`, `man 2 eventfd`, `man 2 open` (O_NONBLOCK, O_CLOEXEC).
--     are_making_flags flags         no others than O_NONBLOCK and O_CLOEXEC
--     end_flags mode flags           an access mode, with O_NONBLOCK where it is among the flags
--     has_channel_room k p           room for a channel more that p makes, and for the numbers
--     with_ends, with_datagrams      a channel with both its ends, a pair of datagram ends
use Rattle.std.specs.Prelude.{◌==◌, ◌&&◌, ℕ, ◌+◌, Bool, nat_lt, bit_and, List, [], if◌then◌else◌, None}
use Rattle.std.specs.FinMap as map
use Rattle.plain_tables.specs.OfViews.Numbers.{Flags, Byte}
use Rattle.plain_tables.specs.OfViews.Limits.{CHANNEL_LIMIT}
use Rattle.plain_tables.specs.OfSysAbi.declared.identity.VPid.{VPid}
use Rattle.plain_tables.specs.OfSysAbi.declared.identity.DescId.{DescId}
use Rattle.plain_tables.specs.OfSysAbi.declared.identity.ConnId.{ConnId}
use Rattle.plain_tables.specs.OfSysAbi.declared.flags.TheConstants.{O_NONBLOCK, O_CLOEXEC}
use Rattle.plain_tables.specs.OfSysAbi.Flags.{has_flag}
use Rattle.plain_machine.specs.declared.kernel.PlainKernel.{PlainKernel}
use Rattle.plain_machine.specs.declared.new_end.NewEnd.{NewEnd}
use Rattle.plain_tables.specs.declared.channel.ChannelKind.{ChannelKind}
use Rattle.plain_tables.specs.declared.description.Object.TheVariants.{Stream, Datagram}
use Rattle.plain_machine.specs.Kernel.{made_of, has_numbers, numbered, placed}
use Rattle.plain_machine.specs.Channels.{open_channel, with_channel}

abbrev pub are_making_flags : Flags → Bool
are_making_flags flags = bit_and flags (O_NONBLOCK + O_CLOEXEC) == flags

abbrev pub end_flags : ℕ → Flags → Flags
end_flags mode flags = if has_flag flags O_NONBLOCK then mode + O_NONBLOCK else mode

abbrev pub has_channel_room : PlainKernel → VPid → Bool
has_channel_room k p = has_numbers k p && nat_lt (map.len k.channels) CHANNEL_LIMIT

abbrev pub desc_id : VPid → ℕ → DescId
desc_id p num = record { pid = p; num = num }

abbrev pub conn_id : VPid → ℕ → ConnId
conn_id p num = record { pid = p; num = num }

abbrev pub with_stream : PlainKernel → VPid → ConnId → ℕ → Bool → NewEnd → PlainKernel
with_stream k p conn num cloexec end =
    placed k p end.fd (desc_id p num) cloexec (Stream conn end.side) end.flags

-- a channel without addresses
abbrev pub with_new_channel : PlainKernel → ConnId → ChannelKind → PlainKernel
with_new_channel k conn kind = with_channel k conn (open_channel kind None None)

-- the next three numbers are those of the channel and of its ends
abbrev pub with_ends : PlainKernel → VPid → ChannelKind → Bool → NewEnd → NewEnd → PlainKernel
with_ends k p kind cloexec first second =
    let made = made_of k p in
    let conn = conn_id p made in
    let joined = with_new_channel (numbered k p 3) conn kind in
    with_stream (with_stream joined p conn (made + 1) cloexec first) p conn (made + 2) cloexec second

abbrev pub with_inbox : PlainKernel → DescId → List (List Byte) → PlainKernel
with_inbox k d messages = record k { inboxes = map.insert k.inboxes d messages }

-- an end of a datagram pair, at which no message waits
abbrev pub with_datagram : PlainKernel → VPid → ℕ → ℕ → ℕ → Bool → Flags → PlainKernel
with_datagram k p fd num peer cloexec flags =
    with_inbox (placed k p fd (desc_id p num) cloexec (Datagram (desc_id p peer)) flags) (desc_id p num) []

-- the next two numbers are those of the ends
abbrev pub with_datagrams : PlainKernel → VPid → Bool → Flags → ℕ → ℕ → PlainKernel
with_datagrams k p cloexec flags fd other =
    let made = made_of k p in
    with_datagram (with_datagram (numbered k p 2) p fd made (made + 1) cloexec flags)
    p other (made + 1) made cloexec flags
