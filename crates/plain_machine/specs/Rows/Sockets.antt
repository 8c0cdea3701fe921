-- socket, bind, listen, getsockname, getpeername, setsockopt, shutdown (`man 2` of each). `given` is the
-- address, or the length of the room for one.
use Rattle.std.specs.Prelude.{◌==◌, ◌&&◌, ◌||◌, ℕ, ◌-◌, nat_le, min, max, Bool, false, not, List, [], Option, Some, None, if◌then◌else◌}
use Rattle.std.specs.FinMap as map
use Rattle.plain_tables.specs.OfViews.Numbers.{Byte}
use Rattle.plain_tables.specs.OfSysAbi.declared.identity.VPid.{VPid}
use Rattle.plain_tables.specs.OfSysAbi.declared.identity.ConnId.{ConnId}
use Rattle.plain_tables.specs.OfSysAbi.declared.identity.VirtAddr.{VirtAddr}
use Rattle.plain_tables.specs.OfSysAbi.declared.reply.Reply.TheVariants.{Value}
use Rattle.plain_tables.specs.OfSysAbi.declared.errors.TheConstants.{EINVAL, ENFILE, EOPNOTSUPP, EAFNOSUPPORT, EADDRINUSE, EADDRNOTAVAIL, ENOTCONN}
use Rattle.plain_tables.specs.OfSysAbi.declared.flags.TheConstants.{O_NONBLOCK, O_CLOEXEC}
use Rattle.plain_tables.specs.OfSysAbi.Flags.{has_flag}
use Rattle.plain_machine.specs.declared.kernel.PlainKernel.{PlainKernel}
use Rattle.plain_tables.specs.declared.description.Object.{Object}
use Rattle.plain_tables.specs.declared.description.Object.TheVariants.{Stream, Socket, Listener, Datagram}
use Rattle.plain_tables.specs.Tables.{Directions, changed_at}
use Rattle.plain_tables.specs.Objects.{dir, bound_at}
use Rattle.plain_tables.specs.Closing.{with_end, without_reader, silenced}
use Rattle.plain_tables.specs.OfPlainProcess.Attempts.{Try, Fails, Gives, need, found, ◌>>=◌, ◌>>◌}
use Rattle.plain_machine.specs.Attempts.{Served, replied}
use Rattle.plain_machine.specs.Kernel.{Held, has_numbers, host_of, free_from, numbered, placed, with_object}
use Rattle.plain_machine.specs.Addresses.{AF_INET, ADDRESS_SIZE, endpoint_of, named_host, address_at, unbound_bytes, pair_bytes, cut_to, is_port_used, automatic_port}
use Rattle.plain_machine.specs.SocketWords.{socket_at, unbound_host, bound_or, shown_as, end_name, is_stream_type, socket_flags, next_description}

unfoldable pub socket_row : PlainKernel → VPid → ℕ → ℕ → ℕ → Try Served
socket_row k p domain socket_type protocol = do
  need (domain == AF_INET) EAFNOSUPPORT
  need (is_stream_type socket_type && ((protocol == 0) || (protocol == 6))) EINVAL
  need (has_numbers k p) ENFILE
  fd ← free_from k p 0
  replied (placed (numbered k p 1) p fd (next_description k p) (has_flag socket_type O_CLOEXEC)
      (Socket (address_at (host_of k p) 0)) (socket_flags (has_flag socket_type O_NONBLOCK))) fd

-- bind

abbrev pub is_own_host : ℕ → Option ℕ → Bool
is_own_host own None = false
is_own_host own (Some host) = host == own

-- the port that is asked for, which for 0 is an automatic one
unfoldable pub port_for : PlainKernel → ℕ → ℕ → Try ℕ
port_for k host port =
    if port == 0 then found (automatic_port k host) EADDRINUSE else
    need (not (is_port_used k (address_at host port))) EADDRINUSE >> Gives port

unfoldable pub bind_row : PlainKernel → VPid → ℕ → ℕ → List Byte → Try Served
bind_row k p fd length given = do
  h ← socket_at k p fd
  need (nat_le ADDRESS_SIZE length) EINVAL
  own ← found (unbound_host h.description.object) EINVAL
  need ((endpoint_of given).family == AF_INET) EAFNOSUPPORT
  need (is_own_host own (named_host own (endpoint_of given))) EADDRNOTAVAIL
  port ← port_for k own (endpoint_of given).port
  replied (with_object k h (Socket (address_at own port))) 0

-- listen

abbrev pub may_listen : Object → Try VirtAddr
may_listen (Socket address) = Gives address
may_listen (Datagram peer) = Fails EOPNOTSUPP
may_listen _ = Fails EINVAL

abbrev pub listening : PlainKernel → Held → VirtAddr → ℕ → PlainKernel
listening k h address backlog = record (with_object k h (Listener address)) {
  listeners = map.insert k.listeners address (record { backlog = max 1 (min backlog 128); queue = [] });
}

unfoldable pub listen_row : PlainKernel → VPid → ℕ → ℕ → Try Served
listen_row k p fd backlog = do
  h ← socket_at k p fd
  socket ← may_listen h.description.object
  address ← bound_or k socket EADDRINUSE
  replied (listening k h address backlog) 0

-- names

abbrev pub own_name : PlainKernel → Object → List Byte
own_name k (Stream conn side) = end_name (map.get k.channels conn) side
own_name k (Datagram peer) = pair_bytes
own_name k object = shown_as unbound_bytes (bound_at object)

abbrev pub peer_name : PlainKernel → Object → Try (List Byte)
peer_name k (Stream conn side) = Gives (end_name (map.get k.channels conn) (1 - side))
peer_name k (Datagram peer) = Gives pair_bytes
peer_name k _ = Fails ENOTCONN

abbrev pub named : PlainKernel → List Byte → List Byte → Served
named k given name = record { kernel = k; reply = Value 0; bytes = cut_to given name; console = [] }

unfoldable pub getsockname_row : PlainKernel → VPid → ℕ → List Byte → Try Served
getsockname_row k p fd given = do
  h ← socket_at k p fd
  Gives (named k given (own_name k h.description.object))

unfoldable pub getpeername_row : PlainKernel → VPid → ℕ → List Byte → Try Served
getpeername_row k p fd given = do
  h ← socket_at k p fd
  name ← peer_name k h.description.object
  Gives (named k given name)

-- without effect
unfoldable pub setsockopt_row : PlainKernel → VPid → ℕ → Try Served
setsockopt_row k p fd = do
  h ← socket_at k p fd
  replied k 0

-- shutdown: 0 reads no more, 1 sends no more, 2 both

unfoldable pub shut : Directions → ConnId → ℕ → ℕ → Directions
shut directions conn side how =
    if how == 0 then changed_at directions (dir conn (1 - side)) without_reader else
    if how == 1 then changed_at directions (dir conn side) with_end else
    silenced directions conn side

abbrev pub shut_object : PlainKernel → ℕ → Object → Try Served
shut_object k how (Stream conn side) = do
  need (nat_le how 2) EINVAL
  replied (record k { directions = shut k.directions conn side how }) 0
shut_object k how (Datagram peer) = Fails EOPNOTSUPP
shut_object k how _ = do
  need (nat_le how 2) EINVAL
  Fails ENOTCONN

unfoldable pub shutdown_row : PlainKernel → VPid → ℕ → ℕ → Try Served
shutdown_row k p fd how = do
  h ← socket_at k p fd
  shut_object k how h.description.object
