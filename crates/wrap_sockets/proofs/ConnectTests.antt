-- What the tests of a connect have found where it gives, and the socket of a descriptor through the pairs.
--     ConnectsTo, connects_to        where the plain row gives
--     IsOwn, own_told                the socket that isn't connected
use Rattle.std.proofs.Common.{◌≡◌, ℕ, Bool, true, false, cond, ◌&&◌, Option, Some, None, refl, sym, ap, ◌∙◌}
use Rattle.std.specs.Prelude.{◌==◌, nat_le, nat_lt}
use Rattle.std.specs.FinMap as map
use Rattle.views.proofs.MapLaws.{true_false}
use Rattle.views.specs.Limits.{CHANNEL_LIMIT}
use Rattle.sys_abi.specs.declared.identity.VPid.{VPid}
use Rattle.sys_abi.specs.declared.identity.RealPid.{RealPid}
use Rattle.sys_abi.specs.declared.identity.VirtAddr.{VirtAddr}
use Rattle.sys_abi.specs.declared.errors.TheConstants.{EBADF, EINVAL, ENOTSOCK, ENFILE, EAFNOSUPPORT, EADDRNOTAVAIL, ECONNREFUSED, EOPNOTSUPP, EISCONN}
use Rattle.fd_book.specs.Books.{IsWhole}
use Rattle.fd_tables.specs.declared.description.Object as real_object
use Rattle.fd_tables.specs.declared.description.Object.TheVariants as object
use Rattle.fd_tables.specs.Slots as slots
use Rattle.plain_process.specs.Attempts.{Try, Fails, Gives, need, found}
use Rattle.plain_tables.specs.declared.description.Object.{Object}
use Rattle.plain_tables.specs.declared.description.Object.TheVariants.{Console, File, Stream, Socket, Listener, Datagram, Counter}
use Rattle.plain_machine.specs.declared.kernel.PlainKernel.{PlainKernel}
use Rattle.plain_machine.specs.Addresses.{AF_INET, ADDRESS_SIZE, Endpoint, named_host, address_at}
use Rattle.plain_machine.specs.Kernel.{Held, held, has_numbers}
use Rattle.plain_machine.specs.Rows.Connections.{Connecting, may_connect, connecting_of}
use Rattle.plain_machine.specs.SocketWords.{is_socket, socket_at, bound_or, unready}
use Rattle.plain_machine.proofs.LocalReplies.{needed, was_found}
use Rattle.plain_machine.proofs.SocketTests.{never}
use Rattle.plain_machine.proofs.Trying.{Trying, succeeds, fails, after}
use Rattle.host_descriptors.specs.declared.held.Held as real_held
use Rattle.host_descriptors.specs.Held.{held_in, seen_held}
use Rattle.host_descriptors.proofs.HeldChanges.{there_of, none_held}
use Rattle.host_descriptors.proofs.HeldTold.{held_told}
use Rattle.host_tables.specs.declared.kernel.Kernel.{Kernel}
use Rattle.host_tables.specs.Descriptions.{seen_object}
use Rattle.host_tables.specs.Stands.{Given, Stands}
use Rattle.host_tables.proofs.LookUps.{held_none}
use Rattle.wrap_sockets.specs.declared.targets.OwnSocket.{OwnSocket}
use Rattle.wrap_sockets.specs.Naming.{socket_of, own_socket}

-- the plain tests

and_left : (a b : Bool) → (a && b) ≡ true → a ≡ true
and_left true b is = refl
and_left false b is = is

pub socket_held : (k : PlainKernel) (p : VPid) (fd : ℕ)
    → Trying (socket_at k p fd) (λ h. held k p fd ≡ Gives h)
unfolding socket_at
socket_held k p fd =
    after (held k p fd) (λ h is. after (need (is_socket k h.description.object) ENOTSOCK)
    (λ done allowed. succeeds h is))

connects : (object : Object) → Trying (may_connect object) (λ address. object ≡ Socket address)
connects Console = fails EISCONN
connects (File number offset) = fails EISCONN
connects (Stream conn side) = fails EISCONN
connects (Socket address) = succeeds address refl
connects (Listener address) = fails EISCONN
connects (Datagram peer) = fails EOPNOTSUPP
connects (Counter value) = fails EISCONN

pub record ConnectsTo (k : PlainKernel) (p : VPid) (fd length : ℕ) (endpoint : Endpoint)
    (c : Connecting) : Type 0 where
  pub held_is : held k p fd ≡ Gives c.held
  pub socket : VirtAddr
  pub object : c.held.description.object ≡ Socket socket
  pub long : nat_le ADDRESS_SIZE length ≡ true
  pub inet : (endpoint.family == AF_INET) ≡ true
  pub host : ℕ
  pub names : named_host socket.host endpoint ≡ Some host
  pub to_is : c.to ≡ address_at host endpoint.port
  pub own_is : bound_or k socket EADDRNOTAVAIL ≡ Gives c.own
  pub numbers : has_numbers k p ≡ true

room_by : {P : Connecting → Type 0} (c : Connecting) (flags : ℕ) → P c → (b : Bool)
    → Trying (cond b (Gives c) (unready flags)) P
room_by c flags holds true = succeeds c holds
room_by c flags holds false = never flags

module _ (k : PlainKernel) (p : VPid) (fd length : ℕ) (endpoint : Endpoint) where
  pub connects_to : Trying (connecting_of k p fd length endpoint) (ConnectsTo k p fd length endpoint)
  unfolding connecting_of
  connects_to =
      after (socket_at k p fd) (λ h at. after (may_connect h.description.object) (λ socket may.
      after (need (nat_le ADDRESS_SIZE length) EINVAL) (λ one long.
      after (need (endpoint.family == AF_INET) EAFNOSUPPORT) (λ two inet.
      after (found (named_host socket.host endpoint) ECONNREFUSED) (λ host named.
      after (found (map.get k.listeners (address_at host endpoint.port)) ECONNREFUSED) (λ l there.
      after (need (has_numbers k p && nat_lt (map.len k.channels) CHANNEL_LIMIT) ENFILE) (λ three room.
      after (bound_or k socket EADDRNOTAVAIL) (λ own got.
      room_by (record { held = h; own = own; to = address_at host endpoint.port }) h.description.flags
      (record {
        held_is = (socket_held k p fd).each h at;
        socket = socket;
        object = (connects h.description.object).each socket may;
        long = needed (nat_le ADDRESS_SIZE length) EINVAL one long;
        inet = needed (endpoint.family == AF_INET) EAFNOSUPPORT two inet;
        host = host;
        names = was_found (named_host socket.host endpoint) ECONNREFUSED host named;
        to_is = refl;
        own_is = got;
        numbers = and_left (has_numbers k p) (nat_lt (map.len k.channels) CHANNEL_LIMIT)
            (needed (has_numbers k p && nat_lt (map.len k.channels) CHANNEL_LIMIT) ENFILE three room);
      }) _))))))))

-- the socket of a descriptor

pub record IsHeldSocket (m : Try Held) (o : OwnSocket) : Type 0 where
  pub held : Held
  pub is : m ≡ Gives held
  pub desc : held.desc ≡ o.desc
  pub object : held.description.object ≡ Socket o.address

abbrev pub IsOwn : Try Held → Option OwnSocket → Type 0
IsOwn m None = (h : Held) (address : VirtAddr) → m ≡ Gives h → h.description.object ≡ Socket address → ⊥
IsOwn m (Some o) = IsHeldSocket m o

abbrev is_unconnected : Object → Bool
is_unconnected (Socket address) = true
is_unconnected _ = false

same_held : (x y : Held) → Gives x ≡ Gives y → x ≡ y
same_held x y e = cc

no_socket : (m : Try Held) (h : Held) → m ≡ Gives h → is_unconnected h.description.object ≡ false
    → IsOwn m None
no_socket m h is other x address is_x e =
    true_false (sym (ap is_unconnected e)
    ∙ ap (λ (y : Held). is_unconnected y.description.object) (same_held x h (sym is_x ∙ is)) ∙ other)

module _ (g : Given) (real : Kernel) (k : PlainKernel) (st : Stands g None real k) (p : VPid) (who : RealPid)
    (paired : map.get g.pids p.0 ≡ Some who) (fd : ℕ) (book : IsWhole real.book) where
  by_object : (h : Held) → held k p fd ≡ Gives h → (o : real_object.Object)
      → h.description.object ≡ seen_object g.names real.datagrams h.desc o
      → IsOwn (held k p fd) (socket_of g.names h.desc o)
  by_object h is object.Socket e = record { held = h; is = is; desc = refl; object = e }
  by_object h is object.Console e = no_socket (held k p fd) h is (ap is_unconnected e)
  by_object h is (object.File n offset) e = no_socket (held k p fd) h is (ap is_unconnected e)
  by_object h is (object.Stream conn side) e = no_socket (held k p fd) h is (ap is_unconnected e)
  by_object h is (object.Listener at) e = no_socket (held k p fd) h is (ap is_unconnected e)
  by_object h is (object.Datagram queue side) e = no_socket (held k p fd) h is (ap is_unconnected e)
  by_object h is (object.Counter value) e = no_socket (held k p fd) h is (ap is_unconnected e)

  by_found : (o : Option real_held.Held) → held_in real.book (slots.slot who fd) ≡ o
      → IsOwn (held k p fd) (own_socket g.names o)
  by_found None is =
      λ h address gives e. never_both (held k p fd) h
      (held_none g real k st p who paired fd (none_held real.book (slots.slot who fd) book is)) gives
    where
      never_both : (m : Try Held) (h : Held) → m ≡ Fails EBADF → m ≡ Gives h → ⊥
      never_both m h fails gives = cc
  by_found (Some h) is =
      by_object (seen_held g real h) (held_told g real k st p who paired fd (there_of real who fd h is))
      h.description.object refl

  pub own_told : IsOwn (held k p fd) (own_socket g.names (held_in real.book (slots.slot who fd)))
  own_told = by_found (held_in real.book (slots.slot who fd)) refl
