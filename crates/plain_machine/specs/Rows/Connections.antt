-- accept(fd, address, length), connect(fd, address, length) (`man 2 accept`, `man 2 connect`). `given` is
-- the address, or the length of the room for one.
--     accepting_of, connecting_of      the tests of a row, and what they find; the call waits where they do
--     accepted, connected              the kernel part after it
use Rattle.std.specs.Prelude.{◌==◌, ◌&&◌, ℕ, nat_le, nat_lt, Bool, false, List, [], ◌∷◌, length, Some, if◌then◌else◌}
use Rattle.std.specs.FinMap as map
use Rattle.plain_tables.specs.OfViews.Numbers.{Address, Flags, Byte}
use Rattle.plain_tables.specs.OfViews.Limits.{CHANNEL_LIMIT}
use Rattle.plain_tables.specs.OfSysAbi.declared.identity.VPid.{VPid}
use Rattle.plain_tables.specs.OfSysAbi.declared.identity.ConnId.{ConnId}
use Rattle.plain_tables.specs.OfSysAbi.declared.identity.VirtAddr.{VirtAddr}
use Rattle.plain_tables.specs.OfSysAbi.declared.reply.Reply.TheVariants.{Value}
use Rattle.plain_tables.specs.OfSysAbi.declared.errors.TheConstants.{EINVAL, ENFILE, EOPNOTSUPP, EAFNOSUPPORT, EADDRNOTAVAIL, EISCONN, ECONNREFUSED}
use Rattle.plain_tables.specs.OfSysAbi.declared.flags.TheConstants.{O_RDWR}
use Rattle.plain_machine.specs.declared.kernel.PlainKernel.{PlainKernel}
use Rattle.plain_tables.specs.declared.channel.ChannelKind.TheVariants.{Internet}
use Rattle.plain_tables.specs.declared.channel.Listening.{Listening}
use Rattle.plain_tables.specs.declared.description.Object.{Object}
use Rattle.plain_tables.specs.declared.description.Object.TheVariants.{Stream, Socket, Datagram}
use Rattle.plain_tables.specs.Tables.{changed_at}
use Rattle.plain_tables.specs.OfPlainProcess.Attempts.{Try, Fails, Gives, need, found, ◌>>=◌, ◌>>◌}
use Rattle.plain_machine.specs.Attempts.{Served, replied}
use Rattle.plain_machine.specs.Kernel.{Held, has_numbers, free_from, numbered, placed, with_object}
use Rattle.plain_machine.specs.Channels.{open_channel, with_channel}
use Rattle.plain_machine.specs.Addresses.{AF_INET, ADDRESS_SIZE, Endpoint, endpoint_of, named_host, address_at, cut_to}
use Rattle.plain_machine.specs.SocketWords.{is_settled, unready, socket_at, listens_at, bound_or, end_name, next_description, next_channel, without_first, with_last}

-- accept

-- the free descriptor, the listener's address, and the first connection that waits there
pub record Accepting : Type 0 where
  pub fd : ℕ
  pub address : VirtAddr
  pub conn : ConnId

abbrev pub first_waiting : Flags → VirtAddr → ℕ → List ConnId → Try Accepting
first_waiting flags address fd [] = unready flags
first_waiting flags address fd (conn ∷ rest) = Gives (record { fd = fd; address = address; conn = conn })

unfoldable pub accepting_of : PlainKernel → VPid → ℕ → Try Accepting
accepting_of k p fd = do
  h ← socket_at k p fd
  address ← found (listens_at h.description.object) EINVAL
  listening ← found (map.get k.listeners address) EINVAL
  need (has_numbers k p) ENFILE
  new ← free_from k p 0
  first_waiting h.description.flags address new listening.queue

abbrev pub without_waiting : PlainKernel → VirtAddr → PlainKernel
without_waiting k address = record k { listeners = changed_at k.listeners address without_first }

abbrev pub accepted : PlainKernel → VPid → Accepting → PlainKernel
accepted k p a =
    placed (numbered (without_waiting k a.address) p 1) p a.fd (next_description k p) false
    (Stream a.conn 1) O_RDWR

-- the name of the client, where it is asked for
abbrev pub client_name : PlainKernel → Address → List Byte → ConnId → List Byte
client_name k address given conn =
    if address == 0 then [] else cut_to given (end_name (map.get k.channels conn) 0)

abbrev pub accept_served : PlainKernel → VPid → Address → List Byte → Accepting → Served
accept_served k p address given a = record {
  kernel = accepted k p a;
  reply = Value a.fd;
  bytes = client_name k address given a.conn;
  console = [];
}

unfoldable pub accept_row : PlainKernel → VPid → ℕ → Address → List Byte → Try Served
accept_row k p fd address given = do
  a ← accepting_of k p fd
  Gives (accept_served k p address given a)

unfoldable pub is_accept_ready : PlainKernel → VPid → ℕ → Bool
is_accept_ready k p fd = is_settled (accepting_of k p fd)

-- connect

-- the socket's description, its address, and the listener's
pub record Connecting : Type 0 where
  pub held : Held
  pub own : VirtAddr
  pub to : VirtAddr

abbrev pub may_connect : Object → Try VirtAddr
may_connect (Socket address) = Gives address
may_connect (Datagram peer) = Fails EOPNOTSUPP
may_connect _ = Fails EISCONN

abbrev pub if_room : Flags → Listening → Connecting → Try Connecting
if_room flags listening c =
    if nat_lt (length listening.queue) listening.backlog then Gives c else unready flags

unfoldable pub connecting_of : PlainKernel → VPid → ℕ → ℕ → Endpoint → Try Connecting
connecting_of k p fd length endpoint = do
  h ← socket_at k p fd
  socket ← may_connect h.description.object
  need (nat_le ADDRESS_SIZE length) EINVAL
  need (endpoint.family == AF_INET) EAFNOSUPPORT
  host ← found (named_host socket.host endpoint) ECONNREFUSED
  listening ← found (map.get k.listeners (address_at host endpoint.port)) ECONNREFUSED
  need (has_numbers k p && nat_lt (map.len k.channels) CHANNEL_LIMIT) ENFILE
  own ← bound_or k socket EADDRNOTAVAIL
  if_room h.description.flags listening (record { held = h; own = own; to = address_at host endpoint.port })

-- the connection waits behind the others
abbrev pub with_waiting : PlainKernel → VirtAddr → ConnId → PlainKernel
with_waiting k address conn = record k { listeners = changed_at k.listeners address (with_last conn) }

abbrev pub connected : PlainKernel → VPid → Connecting → PlainKernel
connected k p c =
    with_object
    (with_waiting
    (with_channel (numbered k p 1) (next_channel k p) (open_channel Internet (Some c.own) (Some c.to)))
    c.to (next_channel k p))
    c.held (Stream (next_channel k p) 0)

unfoldable pub connect_row : PlainKernel → VPid → ℕ → ℕ → List Byte → Try Served
connect_row k p fd length given = do
  c ← connecting_of k p fd length (endpoint_of given)
  replied (connected k p c) 0

unfoldable pub is_connect_ready : PlainKernel → VPid → ℕ → ℕ → List Byte → Bool
is_connect_ready k p fd length front = is_settled (connecting_of k p fd length (endpoint_of front))
