-- The tests of listen, accept and connect over real numbers, in the order of the plain rows: what each call
-- finds before it changes anything, or why it changes nothing.
-- Source: `man 2 listen`, `man 2 accept`, `man 2 connect`.
--     tried, tried_or_waits                      what a function found, as an attempt
--     socket_in b at of_pipe                     the socket of a descriptor
--     listening_in, accepting_in, connecting_in  the tests of a call
use Rattle.std.specs.Prelude.{◌==◌, ℕ, nat_le, Bool, true, false, not, slice_get, Option, Some, None, Result, Ok, Err, option_map, option_and_then}
use Rattle.std.specs.FinMap as map
use Rattle.views.specs.Numbers.{Flags}
use Rattle.sys_abi.specs.declared.identity.DescId.{DescId}
use Rattle.sys_abi.specs.declared.identity.ConnId.{ConnId}
use Rattle.sys_abi.specs.declared.identity.RealPid.{RealPid}
use Rattle.sys_abi.specs.declared.identity.RealAddr.{RealAddr}
use Rattle.sys_abi.specs.declared.reply.Errno.{Errno}
use Rattle.sys_abi.specs.declared.errors.TheConstants.{EBADF, EINVAL, ENFILE, EMFILE, ENOTSOCK, EOPNOTSUPP, EADDRINUSE, EADDRNOTAVAIL, EISCONN, ECONNREFUSED}
use Rattle.plain_process.specs.Attempts.{Try, Fails, NotReady, Gives, need, found, ◌>>=◌, ◌>>◌}
use Rattle.plain_machine.specs.SocketWords.{unready}
use Rattle.fd_tables.specs.declared.real_slot.RealSlot.{RealSlot}
use Rattle.fd_tables.specs.declared.description.Object.{Object}
use Rattle.fd_tables.specs.declared.description.Object.TheVariants.{Stream, Socket, Listener, Datagram}
use Rattle.fd_tables.specs.Numbers.{free_below}
use Rattle.fd_tables.specs.Slots as slots
use Rattle.fd_book.specs.Books.{Books}
use Rattle.wire_channels.specs.declared.limits.TheConstants.{CHANNEL_LIMIT}
use Rattle.wire_channels.specs.declared.net_fault.NetFault.{NetFault}
use Rattle.wire_net.specs.Networks.{Network, connect_refusal}
use Rattle.host_descriptors.specs.declared.held.Held.{Held}
use Rattle.host_descriptors.specs.Held.{held_in}
use Rattle.host_descriptors.specs.OfHostTables.declared.kernel.Kernel.{Kernel}
use Rattle.host_sockets.specs.declared.accepting.Accepting.{Accepting}
use Rattle.host_sockets.specs.declared.connecting.Connecting.{Connecting}

abbrev pub tried : {A : Type 0} → Result A Errno → Try A
tried (Ok a) = Gives a
tried (Err e) = Fails e.0

abbrev pub tried_or_waits : {A : Type 0} → Result (Option A) Errno → Try A
tried_or_waits (Ok (Some a)) = Gives a
tried_or_waits (Ok None) = NotReady
tried_or_waits (Err e) = Fails e.0

-- a pipe is a pair of sockets too: of a stream the caller tells which it is
abbrev pub is_socket : Bool → Object → Bool
is_socket of_pipe (Stream conn side) = not of_pipe
is_socket of_pipe Socket = true
is_socket of_pipe (Listener at) = true
is_socket of_pipe (Datagram queue side) = true
is_socket of_pipe _ = false

unfoldable pub socket_in : Books → RealSlot → Bool → Try Held
socket_in b at of_pipe = do
  h ← found (held_in b at) EBADF
  need (is_socket of_pipe h.description.object) ENOTSOCK
  Gives h

-- listen

abbrev pub may_listen : Object → Try (Unit {0})
may_listen Socket = Gives tt
may_listen (Datagram queue side) = Fails EOPNOTSUPP
may_listen _ = Fails EINVAL

unfoldable pub listening_in : Books → RealSlot → Bool → Bool → Try Held
listening_in b at port_free of_pipe = do
  h ← socket_in b at of_pipe
  may_listen h.description.object
  need port_free EADDRINUSE
  Gives h

-- accept

abbrev pub listens_at : Object → Option RealAddr
listens_at (Listener at) = Some at
listens_at _ = None

-- the connection that waits longest at a port
abbrev pub first_in : Network → RealAddr → Option ConnId
first_in t at = option_and_then (λ listener. slice_get listener.queue 0) (map.get t.listeners at)

abbrev pub if_waiting : Flags → DescId → RealAddr → Option ConnId → Try Accepting
if_waiting flags id at None = unready flags
if_waiting flags id at (Some conn) = Gives (record { id = id; at = at; conn = conn })

unfoldable pub accepting_in : Kernel → RealPid → ℕ → Option DescId → Bool → Try Accepting
accepting_in real who fd id of_pipe = do
  h ← socket_in real.book (slots.slot who fd) of_pipe
  at ← found (listens_at h.description.object) EINVAL
  new ← found id ENFILE
  need (not (free_below real.book.descriptors who 256 == 0)) EMFILE
  if_waiting h.description.flags new at (first_in real.net at)

-- connect

abbrev pub may_connect : Object → Try (Unit {0})
may_connect Socket = Gives tt
may_connect (Datagram queue side) = Fails EOPNOTSUPP
may_connect _ = Fails EISCONN

-- the port that the guest's address names, or why it names none
abbrev pub place_of : Result (Option RealAddr) Errno → Try RealAddr
place_of (Ok to) = found to ECONNREFUSED
place_of (Err e) = Fails e.0

abbrev pub if_room : Option NetFault → Connecting → Try Connecting
if_room None c = Gives c
if_room (Some fault) c = unready c.held.description.flags

unfoldable pub connecting_in : Kernel → RealPid → ℕ → Result (Option RealAddr) Errno → Option ConnId → Bool
    → Bool
    → Try Connecting
connecting_in real who fd to channel port_free of_pipe = do
  h ← socket_in real.book (slots.slot who fd) of_pipe
  may_connect h.description.object
  at ← place_of to
  backlog ← found (option_map (λ listener. listener.backlog) (map.get real.net.listeners at)) ECONNREFUSED
  conn ← found channel ENFILE
  need (not (nat_le CHANNEL_LIMIT (map.len real.net.channels))) ENFILE
  need port_free EADDRNOTAVAIL
  if_room (connect_refusal real.net at) (record { held = h; at = at; conn = conn })
