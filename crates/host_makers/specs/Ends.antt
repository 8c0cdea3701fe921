-- The rows that make two ends, of a channel or of a datagram pair, by the ends.
-- Source: `man 2 pipe`, `man 2 socketpair`.
--     channel_row k p kind cloexec ..      a channel of that kind with both its ends
--     datagram_row k p cloexec flags       a datagram pair
--     channel_ends, datagram_ends          what is to be placed for them, over real numbers
use Rattle.std.specs.Prelude.{ℕ, Bool}
use Rattle.views.specs.Numbers.{Flags}
use Rattle.sys_abi.specs.declared.errors.TheConstants.{ENFILE}
use Rattle.sys_abi.specs.declared.identity.ConnId.{ConnId}
use Rattle.sys_abi.specs.declared.identity.VPid.{VPid}
use Rattle.fd_tables.specs.declared.description.Desc.{Desc}
use Rattle.fd_tables.specs.declared.description.Object.TheVariants.{Stream, Datagram}
use Rattle.plain_tables.specs.declared.channel.ChannelKind.{ChannelKind}
use Rattle.plain_process.specs.Attempts.{Try, Gives, need, ◌>>=◌, ◌>>◌}
use Rattle.plain_machine.specs.declared.kernel.PlainKernel.{PlainKernel}
use Rattle.plain_machine.specs.Attempts.{Served}
use Rattle.plain_machine.specs.Making.{has_channel_room, with_ends, with_datagrams}
use Rattle.plain_machine.specs.Kernel.{has_numbers}
use Rattle.plain_machine.specs.Rows.Channels.{two_free, numbers_answered, new_end}
use Rattle.host_tables.specs.declared.request.ChannelIds.{ChannelIds}
use Rattle.host_tables.specs.declared.request.PairIds.{PairIds}
use Rattle.host_makers.specs.declared.channels.StreamEnd.{StreamEnd}
use Rattle.host_makers.specs.declared.placing.TwoEnds.{TwoEnds}
use Rattle.host_makers.specs.Places.{new_desc}

abbrev pub with_channel_ends : PlainKernel → VPid → ChannelKind → Bool → StreamEnd → StreamEnd → ℕ → ℕ
    → PlainKernel
with_channel_ends k p kind cloexec one other first second =
    with_ends k p kind cloexec (new_end first one.side one.flags) (new_end second other.side other.flags)

unfoldable pub channel_row : PlainKernel → VPid → ChannelKind → Bool → StreamEnd → StreamEnd → Try Served
channel_row k p kind cloexec one other = do
  need (has_channel_room k p) ENFILE
  fds ← two_free k p
  Gives (numbers_answered (with_channel_ends k p kind cloexec one other fds.0 fds.1) fds.0 fds.1)

abbrev pub stream_desc : ConnId → StreamEnd → Desc
stream_desc conn end = new_desc (Stream conn end.side) end.flags

abbrev pub channel_ends : ChannelIds → Bool → StreamEnd → StreamEnd → TwoEnds
channel_ends ids cloexec one other = record {
  ids = record { first = ids.first; second = ids.second };
  first = stream_desc ids.channel one;
  second = stream_desc ids.channel other;
  cloexec = cloexec;
}

unfoldable pub datagram_row : PlainKernel → VPid → Bool → Flags → Try Served
datagram_row k p cloexec flags = do
  need (has_numbers k p) ENFILE
  fds ← two_free k p
  Gives (numbers_answered (with_datagrams k p cloexec flags fds.0 fds.1) fds.0 fds.1)

abbrev pub datagram_ends : ℕ → PairIds → Bool → Flags → TwoEnds
datagram_ends queue ids cloexec flags = record {
  ids = ids;
  first = new_desc (Datagram queue 0) flags;
  second = new_desc (Datagram queue 1) flags;
  cloexec = cloexec;
}
