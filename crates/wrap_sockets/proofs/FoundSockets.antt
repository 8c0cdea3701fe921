-- The tests of a listen, one after the other, by the plain row.
--     no_socket, may_not, no_address      where one fails
--     is_found                            where all pass
use Rattle.std.proofs.Common.{◌≡◌, ℕ, Some, refl, ap, ◌∙◌}
use Rattle.sys_abi.specs.declared.identity.VPid.{VPid}
use Rattle.sys_abi.specs.declared.identity.DescId.{DescId}
use Rattle.sys_abi.specs.declared.identity.RealPid.{RealPid}
use Rattle.sys_abi.specs.declared.identity.VirtAddr.{VirtAddr}
use Rattle.sys_abi.specs.declared.errors.TheConstants.{EADDRINUSE}
use Rattle.sys_abi.specs.declared.reply.Errno.{Errno}
use Rattle.conn_table.specs.Pairs.{Pairs}
use Rattle.fd_tables.specs.declared.description.Object.{Object}
use Rattle.fd_tables.specs.declared.description.Object.TheVariants.{Console, File, Stream, Socket, Listener, Datagram, Counter}
use Rattle.fd_tables.specs.Slots as slots
use Rattle.plain_process.specs.Attempts.{Try, Fails, Gives, and_then}
use Rattle.plain_machine.specs.declared.kernel.PlainKernel.{PlainKernel}
use Rattle.plain_machine.specs.Kernel as plain
use Rattle.plain_machine.specs.Rows.Sockets as rows
use Rattle.plain_machine.specs.SocketWords.{socket_at, bound_or}
use Rattle.host_descriptors.specs.declared.held.Held.{Held}
use Rattle.host_descriptors.specs.Held.{held_in, seen_held}
use Rattle.host_sockets.specs.Tests.{may_listen}
use Rattle.host_tables.specs.declared.system.System.{System}
use Rattle.host_tables.specs.Descriptions.{Names, address_of, seen_object}
use Rattle.host_tables.specs.Serves.{listened_at}
use Rattle.host_tables.specs.Systems.{given_of}
use Rattle.wrap_sockets.specs.Listening.{IsFound}

module _ (names : Names) (pairs : Pairs) (id : DescId) where
  may_fails : (o : Object) (e : ℕ) → may_listen o ≡ Fails e
      → rows.may_listen (seen_object names pairs id o) ≡ Fails e
  may_fails Console e is = cc
  may_fails (File number offset) e is = cc
  may_fails (Stream conn side) e is = cc
  may_fails Socket e is = cc
  may_fails (Listener at) e is = cc
  may_fails (Datagram queue side) e is = cc
  may_fails (Counter value) e is = cc

may_gives : (o : Object) → may_listen o ≡ Gives tt → o ≡ Socket
may_gives Console is = cc
may_gives (File number offset) is = cc
may_gives (Stream conn side) is = cc
may_gives Socket is = refl
may_gives (Listener at) is = cc
may_gives (Datagram queue side) is = cc
may_gives (Counter value) is = cc

module _ (s : System) (k : PlainKernel) (p : VPid) (who : RealPid) (fd : ℕ) where
  abbrev by_bound : plain.Held → Try VirtAddr → Try (plain.Held × VirtAddr)
  by_bound h m = and_then m (λ address. Gives (h, address))

  abbrev by_may : plain.Held → Try VirtAddr → Try (plain.Held × VirtAddr)
  by_may h m = and_then m (λ socket. by_bound h (bound_or k socket EADDRINUSE))

  abbrev by_socket : Try plain.Held → Try (plain.Held × VirtAddr)
  by_socket m = and_then m (λ h. by_may h (rows.may_listen h.description.object))

  pub no_socket : (e : Errno) → socket_at k p fd ≡ Fails e.0 → listened_at k p fd ≡ Fails e.0
  unfolding listened_at and_then
  no_socket e is = ap by_socket is

  module _ (h : Held) (at : socket_at k p fd ≡ Gives (seen_held (given_of s) s.kernel h)) where
    abbrev seen : plain.Held
    seen = seen_held (given_of s) s.kernel h

    to_may : listened_at k p fd ≡ by_may seen (rows.may_listen seen.description.object)
    unfolding listened_at and_then
    to_may = ap by_socket at

    pub may_not : (e : Errno) → may_listen h.description.object ≡ Fails e.0 → listened_at k p fd ≡ Fails e.0
    unfolding and_then
    may_not e is =
        to_may
        ∙ ap (by_may seen) (may_fails s.conns.names s.kernel.datagrams h.desc h.description.object e.0 is)

    module _ (may : may_listen h.description.object ≡ Gives tt) where
      socket : h.description.object ≡ Socket
      socket = may_gives h.description.object may

      to_bound : listened_at k p fd ≡ by_bound seen (bound_or k (address_of s.conns.names h.desc) EADDRINUSE)
      unfolding and_then
      to_bound =
          to_may
          ∙ ap (λ o. by_may seen (rows.may_listen (seen_object s.conns.names s.kernel.datagrams h.desc o)))
          socket

      pub no_address : (e : Errno) → bound_or k (address_of s.conns.names h.desc) EADDRINUSE ≡ Fails e.0
          → listened_at k p fd ≡ Fails e.0
      unfolding and_then
      no_address e is = to_bound ∙ ap (by_bound seen) is

      pub is_found : held_in s.kernel.book (slots.slot who fd) ≡ Some h → (a : VirtAddr)
          → bound_or k (address_of s.conns.names h.desc) EADDRINUSE ≡ Gives a
          → IsFound s k p who fd (record { held = h; address = a })
      unfolding and_then
      is_found there a is = record {
        found = to_bound ∙ ap (by_bound seen) is;
        at = there;
        socket = socket;
        bound = is;
      }
