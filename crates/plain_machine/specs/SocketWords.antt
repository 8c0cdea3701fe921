-- Words of the rows of sockets: what a descriptor's socket is, and what a call makes of it.
-- Source: `man 2 socket`, `man 2 listen`, `man 2 accept`, `man 2 connect`.
--     socket_at k p fd                 the socket of a descriptor
--     is_settled attempt, unready flags     a call that doesn't wait, and one that isn't ready
use Rattle.std.specs.Prelude.{◌==◌, ◌&&◌, ℕ, ◌+◌, ◌%◌, bit_and, Bool, true, false, not, List, [], ◌∷◌, ◌++◌, drop, Option, Some, None, if◌then◌else◌}
use Rattle.std.specs.FinMap as map
use Rattle.plain_tables.specs.OfViews.Numbers.{Flags, Byte}
use Rattle.plain_tables.specs.OfSysAbi.declared.identity.VPid.{VPid}
use Rattle.plain_tables.specs.OfSysAbi.declared.identity.DescId.{DescId}
use Rattle.plain_tables.specs.OfSysAbi.declared.identity.ConnId.{ConnId}
use Rattle.plain_tables.specs.OfSysAbi.declared.identity.VirtAddr.{VirtAddr}
use Rattle.plain_tables.specs.OfSysAbi.declared.errors.TheConstants.{EAGAIN, ENOTSOCK}
use Rattle.plain_tables.specs.OfSysAbi.declared.flags.TheConstants.{O_RDWR, O_NONBLOCK, O_CLOEXEC}
use Rattle.plain_tables.specs.OfSysAbi.Flags.{has_flag}
use Rattle.plain_tables.specs.OfPlainProcess.Attempts.{Try, Fails, NotReady, Gives, need, found, ◌>>=◌, ◌>>◌}
use Rattle.plain_machine.specs.declared.kernel.PlainKernel.{PlainKernel}
use Rattle.plain_tables.specs.declared.channel.Channel.{Channel}
use Rattle.plain_tables.specs.declared.channel.ChannelKind.{ChannelKind}
use Rattle.plain_tables.specs.declared.channel.ChannelKind.TheVariants.{Pipe}
use Rattle.plain_tables.specs.declared.channel.Listening.{Listening}
use Rattle.plain_tables.specs.declared.description.Object.{Object}
use Rattle.plain_tables.specs.declared.description.Object.TheVariants.{Stream, Socket, Listener, Datagram}
use Rattle.plain_tables.specs.Objects.{end_of}
use Rattle.plain_machine.specs.Kernel.{Held, held, made_of}
use Rattle.plain_machine.specs.Addresses.{address_at, automatic_port, address_bytes, pair_bytes}

-- what waits

abbrev pub is_settled : {A : Type 0} → Try A → Bool
is_settled NotReady = false
is_settled _ = true

-- what isn't ready waits, and with O_NONBLOCK it fails
abbrev pub unready : {A : Type 0} → Flags → Try A
unready flags = if has_flag flags O_NONBLOCK then Fails EAGAIN else NotReady

-- what a descriptor's socket is

abbrev pub is_pipe : ChannelKind → Bool
is_pipe Pipe = true
is_pipe _ = false

abbrev pub is_pipe_channel : Option Channel → Bool
is_pipe_channel None = false
is_pipe_channel (Some channel) = is_pipe channel.kind

abbrev pub is_socket : PlainKernel → Object → Bool
is_socket k (Stream conn side) = not (is_pipe_channel (map.get k.channels conn))
is_socket k (Socket address) = true
is_socket k (Listener address) = true
is_socket k (Datagram peer) = true
is_socket k _ = false

unfoldable pub socket_at : PlainKernel → VPid → ℕ → Try Held
socket_at k p fd = do
  h ← held k p fd
  need (is_socket k h.description.object) ENOTSOCK
  Gives h

-- the host of a socket that isn't bound
abbrev pub unbound_host : Object → Option ℕ
unbound_host (Socket address) = if address.port == 0 then Some address.host else None
unbound_host _ = None

abbrev pub listens_at : Object → Option VirtAddr
listens_at (Listener address) = Some address
listens_at _ = None

-- the address of a socket, or an automatic port of its host
unfoldable pub bound_or : PlainKernel → VirtAddr → ℕ → Try VirtAddr
bound_or k address e =
    if address.port == 0 then
    found (automatic_port k address.host) e >>= (λ port. Gives (address_at address.host port))
    else Gives address

-- names

abbrev pub shown_as : List Byte → Option VirtAddr → List Byte
shown_as other None = other
shown_as other (Some address) = address_bytes address

abbrev pub end_name : Option Channel → ℕ → List Byte
end_name None side = pair_bytes
end_name (Some channel) side = shown_as pair_bytes (end_of channel side).address

-- what is made

-- streams, and no other bits than those of a new description (`man 2 socket`)
abbrev pub is_stream_type : ℕ → Bool
is_stream_type socket_type =
    (socket_type % 16 == 1) && (bit_and socket_type (1 + O_NONBLOCK + O_CLOEXEC) == socket_type)

abbrev pub socket_flags : Bool → Flags
socket_flags nonblocking = if nonblocking then O_RDWR + O_NONBLOCK else O_RDWR

-- the next things that a process makes
abbrev pub next_description : PlainKernel → VPid → DescId
next_description k p = record { pid = p; num = made_of k p }

abbrev pub next_channel : PlainKernel → VPid → ConnId
next_channel k p = record { pid = p; num = made_of k p }

-- queues of listeners

abbrev pub without_first : Listening → Listening
without_first listening = record { backlog = listening.backlog; queue = drop 1 listening.queue }

abbrev pub with_last : ConnId → Listening → Listening
with_last conn listening = record { backlog = listening.backlog; queue = listening.queue ++ conn ∷ [] }
