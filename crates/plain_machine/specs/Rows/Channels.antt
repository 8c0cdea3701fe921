-- pipe2(fds, flags), socketpair(domain, type, protocol, fds) (`man 2 pipe2`, `man 2 socketpair`): two ends
-- behind the free descriptor and the next one, whose numbers are answered.
use Rattle.std.specs.Prelude.{◌==◌, ◌&&◌, ◌||◌, ℕ, ◌+◌, ◌-◌, ◌%◌, not, Bool, [], ◌++◌, if◌then◌else◌}
use Rattle.plain_tables.specs.OfViews.Numbers.{Flags}
use Rattle.plain_tables.specs.OfSysAbi.declared.identity.VPid.{VPid}
use Rattle.plain_tables.specs.OfSysAbi.declared.errors.TheConstants.{EINVAL, ENFILE, EOPNOTSUPP, EAFNOSUPPORT}
use Rattle.plain_tables.specs.OfSysAbi.declared.flags.TheConstants.{O_WRONLY, O_RDWR, O_CLOEXEC}
use Rattle.plain_tables.specs.OfSysAbi.declared.reply.Reply.TheVariants.{Value}
use Rattle.plain_tables.specs.OfSysAbi.Flags.{has_flag}
use Rattle.plain_machine.specs.declared.kernel.PlainKernel.{PlainKernel}
use Rattle.plain_machine.specs.declared.new_end.NewEnd.{NewEnd}
use Rattle.plain_tables.specs.declared.channel.ChannelKind.TheVariants.{Pair, Pipe}
use Rattle.plain_tables.specs.OfPlainProcess.Attempts.{Try, Gives, need, ◌>>=◌, ◌>>◌}
use Rattle.plain_tables.specs.OfPlainProcess.Memory.{low_bytes}
use Rattle.plain_machine.specs.Attempts.{Served}
use Rattle.plain_machine.specs.Kernel.{free_from, has_numbers}
use Rattle.plain_machine.specs.Making.{are_making_flags, end_flags, has_channel_room, with_ends, with_datagrams}

-- the free descriptor and the next free one
unfoldable pub two_free : PlainKernel → VPid → Try (ℕ × ℕ)
two_free k p = do
  first ← free_from k p 0
  second ← free_from k p (first + 1)
  Gives (first, second)

-- the numbers of two descriptors
abbrev pub numbers_answered : PlainKernel → ℕ → ℕ → Served
numbers_answered k first second = record {
  kernel = k;
  reply = Value 0;
  bytes = low_bytes 4 first ++ low_bytes 4 second;
  console = [];
}

abbrev pub new_end : ℕ → ℕ → Flags → NewEnd
new_end fd side flags = record { fd = fd; side = side; flags = flags }

-- the first descriptor reads from side 1, the second one writes at side 0
abbrev pub with_pipe : PlainKernel → VPid → Flags → ℕ → ℕ → PlainKernel
with_pipe k p flags reader writer =
    with_ends k p Pipe (has_flag flags O_CLOEXEC) (new_end reader 1 (end_flags 0 flags))
    (new_end writer 0 (end_flags O_WRONLY flags))

unfoldable pub pipe2_row : PlainKernel → VPid → Flags → Try Served
pipe2_row k p flags = do
  need (are_making_flags flags) EINVAL
  need (has_channel_room k p) ENFILE
  fds ← two_free k p
  Gives (numbers_answered (with_pipe k p flags fds.0 fds.1) fds.0 fds.1)

abbrev pub STREAMS : ℕ
STREAMS = 1

abbrev pub DATAGRAMS : ℕ
DATAGRAMS = 2

-- streams or datagrams, with flags
abbrev pub is_pair_type : ℕ → Bool
is_pair_type socket_type =
    ((socket_type % 16 == STREAMS) || (socket_type % 16 == DATAGRAMS))
    && are_making_flags (socket_type - socket_type % 16)

abbrev pub with_stream_pair : PlainKernel → VPid → Flags → ℕ → ℕ → PlainKernel
with_stream_pair k p flags first second =
    with_ends k p Pair (has_flag flags O_CLOEXEC) (new_end first 0 (end_flags O_RDWR flags))
    (new_end second 1 (end_flags O_RDWR flags))

unfoldable pub stream_pair : PlainKernel → VPid → Flags → Try Served
stream_pair k p flags = do
  need (has_channel_room k p) ENFILE
  fds ← two_free k p
  Gives (numbers_answered (with_stream_pair k p flags fds.0 fds.1) fds.0 fds.1)

abbrev pub with_datagram_pair : PlainKernel → VPid → Flags → ℕ → ℕ → PlainKernel
with_datagram_pair k p flags first second =
    with_datagrams k p (has_flag flags O_CLOEXEC) (end_flags O_RDWR flags) first second

unfoldable pub datagram_pair : PlainKernel → VPid → Flags → Try Served
datagram_pair k p flags = do
  need (has_numbers k p) ENFILE
  fds ← two_free k p
  Gives (numbers_answered (with_datagram_pair k p flags fds.0 fds.1) fds.0 fds.1)

unfoldable pub socketpair_row : PlainKernel → VPid → ℕ → ℕ → ℕ → Try Served
socketpair_row k p domain socket_type protocol = do
  need (not (domain == 2)) EOPNOTSUPP
  need (domain == 1) EAFNOSUPPORT
  need (is_pair_type socket_type && (protocol == 0)) EINVAL
  if socket_type % 16 == STREAMS then stream_pair k p socket_type else datagram_pair k p socket_type
