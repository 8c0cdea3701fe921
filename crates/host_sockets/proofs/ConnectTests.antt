-- The tests of connect through the pairs.
--     IsConnecting g real k .. x y   what they find: the socket with the address that it gets, the listener's
--                                    address and its port, and the name of the new channel
--     same_connecting                they go alike
use Rattle.std.proofs.Common.{◌≡◌, ℕ, Bool, true, false, ◌&&◌, not, List, Option, Some, None, Ok, Err, refl, sym, ap, ◌∙◌, subst, length, arith}
use Rattle.std.specs.Prelude.{◌==◌, nat_le, nat_lt, Result, IsSome, is_some, option_map, option_and_then, if◌then◌else◌}
use Rattle.std.specs.FinMap as map
use Rattle.std.proofs.lemmas.Bool.Decides.{nat_tests}
use Rattle.views.specs.Limits.{CHANNEL_LIMIT}
use Rattle.views.specs.Numbers.{Byte}
use Rattle.views.specs.Seen.{Agree}
use Rattle.views.proofs.Seen.{agree_found}
use Rattle.sys_abi.specs.declared.errors.TheConstants.{EINVAL, ENFILE, EAFNOSUPPORT, EADDRNOTAVAIL, ECONNREFUSED}
use Rattle.sys_abi.specs.declared.identity.DescId.{DescId}
use Rattle.sys_abi.specs.declared.identity.ConnId.{ConnId}
use Rattle.sys_abi.specs.declared.identity.VPid.{VPid}
use Rattle.sys_abi.specs.declared.identity.RealPid.{RealPid}
use Rattle.sys_abi.specs.declared.identity.RealAddr.{RealAddr}
use Rattle.sys_abi.specs.declared.identity.VirtAddr.{VirtAddr}
use Rattle.sys_abi.specs.declared.reply.Errno.{Errno}
use Rattle.fd_book.specs.Books.{IsWhole}
use Rattle.fd_tables.specs.declared.description.Object as real_object
use Rattle.fd_tables.specs.declared.description.Object.TheVariants as object
use Rattle.plain_tables.specs.declared.channel.Listening.{Listening}
use Rattle.plain_process.specs.Attempts.{Try, Fails, Gives, and_then, need, found}
use Rattle.plain_machine.specs.declared.kernel.PlainKernel.{PlainKernel}
use Rattle.plain_machine.specs.Addresses.{AF_INET, ADDRESS_SIZE, endpoint_of, named_host, address_at}
use Rattle.plain_machine.specs.Kernel as plain
use Rattle.plain_machine.specs.Rows.Connections as rows
use Rattle.plain_machine.specs.SocketWords.{next_channel, unready}
use Rattle.wire_channels.specs.declared.limits.TheConstants as limits
use Rattle.wire_channels.specs.declared.net_fault.NetFault.TheVariants as fault
use Rattle.wire_channels.specs.declared.listener.Listener.{Listener}
use Rattle.wire_net.specs.Networks.{connect_refusal, connect_refusal_at}
use Rattle.host_descriptors.specs.OfHostTables.declared.kernel.Kernel.{Kernel}
use Rattle.host_descriptors.specs.OfHostTables.Descriptions.{address_of, seen_object}
use Rattle.host_descriptors.specs.OfHostTables.Network.{SameListener}
use Rattle.host_descriptors.specs.OfHostTables.Requests.{next_conn, IfHeld, ConnectNames, leads_to_pipe}
use Rattle.host_descriptors.specs.OfHostTables.Stands.{Given, Stands}
use Rattle.host_descriptors.proofs.OfHostTables.ChannelChanges.{same_channels}
use Rattle.host_descriptors.specs.declared.held.Held.{Held}
use Rattle.host_sockets.specs.declared.connecting.Connecting.{Connecting}
use Rattle.host_sockets.specs.Tests.{may_connect, place_of, if_room, connecting_in}
use Rattle.host_sockets.proofs.Tries.{SameTry, same_then, same_unready}
use Rattle.host_sockets.proofs.SocketTold.{IsSeenHeld, same_socket}
use Rattle.host_sockets.proofs.BoundPorts.{same_port}
use Rattle.host_sockets.proofs.ListenTests.{told_of_socket}

pub record IsConnecting (g : Given) (real : Kernel) (k : PlainKernel) (p : VPid) (who : RealPid) (fd : ℕ)
    (x : rows.Connecting) (y : Connecting) : Type 0 where
  pub held : IsSeenHeld g real k p who fd x.held y.held
  pub object : y.held.description.object ≡ object.Socket
  pub place : map.get g.addresses x.to ≡ Some y.at
  pub there : IsSome (map.get k.listeners x.to)
  pub named : y.conn ≡ next_channel k p

-- the steps to the listener

abbrev BothThere : {L M : Type 0} → L → M → Type 0
BothThere l r = Unit {0}

module _ {A B L M : Type 0} {Is : A → B → Type 0} (F : ℕ → L → Try A) (N : RealAddr → M → Try B)
    (to_real : ℕ → Option RealAddr) (look : ℕ → Option L) (real_look : RealAddr → Option M)
    (nowhere : (host : ℕ) → to_real host ≡ None → look host ≡ None)
    (alike : (host : ℕ) (at : RealAddr) → to_real host ≡ Some at → Agree BothThere (look host) (real_look at))
    (next : (host : ℕ) (at : RealAddr) (l : L) (m : M) → to_real host ≡ Some at → look host ≡ Some l
    → SameTry Is (F host l) (N at m)) where
  abbrev looked : ℕ → Try A
  looked host = and_then (found (look host) ECONNREFUSED) (F host)

  abbrev real_looked : RealAddr → Try B
  real_looked at = and_then (found (real_look at) ECONNREFUSED) (N at)

  by_listener : (host : ℕ) (at : RealAddr) → to_real host ≡ Some at → (o : Option L) (q : Option M)
      → look host ≡ o → Agree BothThere o q
      → SameTry Is (and_then (found o ECONNREFUSED) (F host)) (and_then (found q ECONNREFUSED) (N at))
  unfolding and_then found
  by_listener host at to None None is h = record { alike = refl }
  by_listener host at to None (Some m) is h = absurd h
  by_listener host at to (Some l) None is h = absurd h
  by_listener host at to (Some l) (Some m) is h = next host at l m to is

  refused_at : (host : ℕ) (o : Option L) → o ≡ None
      → and_then (found o ECONNREFUSED) (F host) ≡ Fails ECONNREFUSED
  unfolding and_then found
  refused_at host o none = ap (λ q. and_then (found q ECONNREFUSED) (F host)) none

  by_place : (host : ℕ) (o : Option RealAddr) → to_real host ≡ o
      → SameTry Is (looked host) (and_then (found o ECONNREFUSED) real_looked)
  unfolding and_then found
  by_place host None is =
      subst (λ m. SameTry Is m (Fails ECONNREFUSED)) (sym (refused_at host (look host) (nowhere host is)))
      (record { alike = refl })
  by_place host (Some at) is = by_listener host at is (look host) (real_look at) refl (alike host at is)

  by_host : (o : Option ℕ) → SameTry Is (and_then (found o ECONNREFUSED) looked)
      (and_then (found (option_and_then to_real o) ECONNREFUSED) real_looked)
  unfolding and_then found
  by_host None = record { alike = refl }
  by_host (Some host) = by_place host (to_real host) refl

  abbrev tests : Bool → Bool → Option ℕ → Try A
  tests long inet o =
      and_then (need long EINVAL) (λ _. and_then (need inet EAFNOSUPPORT)
      (λ _. and_then (found o ECONNREFUSED) looked))

  by_tests : (long inet : Bool) (o : Option ℕ) → SameTry Is (tests long inet o)
      (and_then (place_of (if not long then Err (record { 0 = EINVAL }) else
      if not inet then Err (record { 0 = EAFNOSUPPORT }) else
      Ok (option_and_then to_real o))) real_looked)
  unfolding and_then need
  by_tests false inet o = record { alike = refl }
  by_tests true false o = record { alike = refl }
  by_tests true true o = by_host o

pub same_target : {A B L M : Type 0} {Is : A → B → Type 0} {F : ℕ → L → Try A} {N : RealAddr → M → Try B}
    (to_real : ℕ → Option RealAddr) (look : ℕ → Option L) (real_look : RealAddr → Option M)
    → ((host : ℕ) → to_real host ≡ None → look host ≡ None)
    → ((host : ℕ) (at : RealAddr) → to_real host ≡ Some at → Agree BothThere (look host) (real_look at))
    → (long inet : Bool) (o : Option ℕ) (to : Result (Option RealAddr) Errno)
    → to ≡ (if not long then Err (record { 0 = EINVAL }) else
    if not inet then Err (record { 0 = EAFNOSUPPORT }) else
    Ok (option_and_then to_real o))
    → ((host : ℕ) (at : RealAddr) (l : L) (m : M) → to_real host ≡ Some at → look host ≡ Some l
    → SameTry Is (F host l) (N at m))
    → SameTry Is
    (and_then (need long EINVAL) (λ _. and_then (need inet EAFNOSUPPORT) (λ _. and_then (found o ECONNREFUSED)
    (λ host. and_then (found (look host) ECONNREFUSED) (F host)))))
    (and_then (place_of to) (λ at. and_then (found (real_look at) ECONNREFUSED) (N at)))
same_target {Is = Is} {F = F} {N = N} to_real look real_look nowhere alike long inet o to is next =
    subst (λ t. SameTry Is
    (and_then (need long EINVAL) (λ _. and_then (need inet EAFNOSUPPORT) (λ _. and_then (found o ECONNREFUSED)
    (λ host. and_then (found (look host) ECONNREFUSED) (F host)))))
    (and_then (place_of t) (λ at. and_then (found (real_look at) ECONNREFUSED) (N at)))) (sym is)
    (by_tests F N to_real look real_look nowhere alike next long inet o)

-- room for a channel more, and for its number

by_numbers : {A B : Type 0} (Is : A → B → Type 0) (F : Unit {0} → Try A) (N : ConnId → Unit {0} → Try B)
    (numbers room : Bool) (id : ConnId) → (room ≡ true → SameTry Is (F tt) (N id tt))
    → SameTry Is (and_then (need (numbers && room) ENFILE) F)
    (and_then (found (if numbers then Some id else None) ENFILE)
    (λ conn. and_then (need room ENFILE) (N conn)))
unfolding and_then need found
by_numbers Is F N false room id next = record { alike = refl }
by_numbers Is F N true false id next = record { alike = refl }
by_numbers Is F N true true id next = next refl

pub same_room : {A B : Type 0} {Is : A → B → Type 0} {F : Unit {0} → Try A} {N : ConnId → Unit {0} → Try B}
    (numbers room real_room : Bool) (id : ConnId) (channel : Option ConnId)
    → channel ≡ (if numbers then Some id else None) → room ≡ real_room
    → ((passed also : Unit {0}) (conn : ConnId) → conn ≡ id → real_room ≡ true
    → SameTry Is (F passed) (N conn also))
    → SameTry Is (and_then (need (numbers && room) ENFILE) F)
    (and_then (found channel ENFILE) (λ conn. and_then (need real_room ENFILE) (N conn)))
same_room {Is = Is} {F = F} {N = N} numbers room real_room id channel named same next =
    subst (λ o. SameTry Is (and_then (need (numbers && room) ENFILE) F)
    (and_then (found o ENFILE) (λ conn. and_then (need real_room ENFILE) (N conn)))) (sym named)
    (subst (λ b. SameTry Is (and_then (need (numbers && b) ENFILE) F)
    (and_then (found (if numbers then Some id else None) ENFILE)
    (λ conn. and_then (need real_room ENFILE) (N conn)))) (sym same)
    (by_numbers Is F N numbers real_room id (λ has. next tt tt id refl has)))

-- how many channels stand, on either side
room_is : (n m : ℕ) → n ≡ m → nat_lt m CHANNEL_LIMIT ≡ not (nat_le limits.CHANNEL_LIMIT n)
room_is n m e = grind (arith, nat_tests, e)

-- as many wait as may
full_is : (n b m c : ℕ) → n ≡ m → b ≡ c → nat_lt n b ≡ not (nat_le c m)
full_is n b m c e f = grind (arith, nat_tests, e, f)

not_true : (b : Bool) → not b ≡ true → b ≡ false
not_true true e = sym e
not_true false e = refl

module _ (g : Given) (real : Kernel) (k : PlainKernel) (st : Stands g None real k) (p : VPid) (who : RealPid)
    (fd : ℕ) where
  object_alike : (id : DescId) (o : real_object.Object)
      → SameTry (λ (socket : VirtAddr) (passed : Unit {0}). (o ≡ object.Socket)
      × (socket ≡ address_of g.names id))
      (rows.may_connect (seen_object g.names real.datagrams id o)) (may_connect o)
  object_alike id object.Console = record { alike = refl }
  object_alike id (object.File n offset) = record { alike = refl }
  object_alike id (object.Stream conn side) = record { alike = refl }
  object_alike id object.Socket = record { alike = (refl, refl) }
  object_alike id (object.Listener at) = record { alike = refl }
  object_alike id (object.Datagram queue side) = record { alike = refl }
  object_alike id (object.Counter value) = record { alike = refl }

  connect_alike : (x : plain.Held) (y : Held) → IsSeenHeld g real k p who fd x y
      → SameTry (λ (socket : VirtAddr) (passed : Unit {0}).
      (y.description.object ≡ object.Socket) × (socket ≡ address_of g.names y.desc))
      (rows.may_connect x.description.object) (may_connect y.description.object)
  connect_alike x y is =
      subst (λ (h : plain.Held). SameTry (λ (socket : VirtAddr) (passed : Unit {0}).
      (y.description.object ≡ object.Socket) × (socket ≡ address_of g.names y.desc))
      (rows.may_connect h.description.object) (may_connect y.description.object)) (sym is.seen)
      (object_alike y.desc y.description.object)

  -- the listener, on both sides
  both_there : (a : VirtAddr) (at : RealAddr) (o : Option Listening) (q : Option Listener)
      → Agree (SameListener a at) o q
      → Agree BothThere o (option_map (λ (l : Listener). l.backlog) q)
  both_there a at None None h = tt
  both_there a at None (Some y) h = h
  both_there a at (Some x) None h = h
  both_there a at (Some x) (Some y) h = tt

  abbrev Is : rows.Connecting → Connecting → Type 0
  Is = IsConnecting g real k p who fd

  by_room : (flags flags' : ℕ) → flags ≡ flags' → (x : rows.Connecting) (y : Connecting)
      → y.held.description.flags ≡ flags' → Is x y → (full : Bool)
      → SameTry Is (if not full then Gives x else unready flags)
      (if_room (if full then Some fault.NotReady else None) y)
  by_room flags flags' same x y own is true = same_unready (same ∙ sym own)
  by_room flags flags' same x y own is false = record { alike = is }

  module _ (x : rows.Connecting) (y : Connecting) (is : Is x y) (l : Listening)
      (there : map.get k.listeners x.to ≡ Some l)
      (room : not (nat_le limits.CHANNEL_LIMIT (map.len real.net.channels)) ≡ true) where
    refusal_is : (r : Listener) → map.get real.net.listeners y.at ≡ Some r
        → connect_refusal real.net y.at
        ≡ (if nat_le r.backlog (length r.queue) then Some fault.NotReady else None)
    refusal_is r r_is =
        ap (λ o. connect_refusal_at o (map.len real.net.channels)) r_is
        ∙ ap (λ b. if b then Some fault.TooMany else
        if nat_le r.backlog (length r.queue) then Some fault.NotReady else None) (not_true _ room)

    pub same_if_room : SameTry Is (rows.if_room x.held.description.flags l x)
        (if_room (connect_refusal real.net y.at) y)
    same_if_room =
        let r =
        agree_found (SameListener x.to y.at) (map.get k.listeners x.to) (map.get real.net.listeners y.at) l
        (st.listeners.each.at x.to y.at is.place) there in
        let flags : x.held.description.flags ≡ y.held.description.flags =
        ap (λ (h : plain.Held). h.description.flags) is.held.seen in
        subst (λ b. SameTry Is (if b then Gives x else unready x.held.description.flags)
        (if_room (connect_refusal real.net y.at) y))
        (sym (full_is (length l.queue) l.backlog (length r.0.queue) r.0.backlog
        (ap (λ (q : List ConnId). length q) r.1.1.queue) r.1.1.backlog))
        (subst (λ o. SameTry Is
        (if not (nat_le r.0.backlog (length r.0.queue)) then Gives x else unready x.held.description.flags)
        (if_room o y)) (sym (refusal_is r.0 r.1.0))
        (by_room x.held.description.flags y.held.description.flags flags x y refl is
        (nat_le r.0.backlog (length r.0.queue))))

  module _ (paired : map.get g.pids p.0 ≡ Some who) (whole_book : IsWhole real.book) (of_pipe : Bool)
      (tells : of_pipe ≡ leads_to_pipe k p fd) (length : ℕ) (given : List Byte)
      (to : Result (Option RealAddr) Errno)
      (channel : Option ConnId) (port_free : Bool) (named : channel ≡ next_conn k p)
      (told : IfHeld (plain.held k p fd) (ConnectNames g k length given to port_free)) where
    abbrev port : ℕ
    port = (endpoint_of given).port

    pub same_connecting : SameTry Is (rows.connecting_of k p fd length (endpoint_of given))
        (connecting_in real who fd to channel port_free of_pipe)
    unfolding rows.connecting_of connecting_in
    same_connecting =
        same_then (same_socket g real k st p who paired fd whole_book of_pipe tells) (λ x y is.
        same_then (connect_alike x y is) (λ socket _ may.
        let names : ConnectNames g k length given to port_free socket =
        subst (ConnectNames g k length given to port_free) (sym may.1)
        (told_of_socket g real k p who fd (ConnectNames g k length given to port_free) told x y is may.0) in
        same_target (λ host. map.get g.addresses (address_at host port))
        (λ host. map.get k.listeners (address_at host port))
        (λ at. option_map (λ (l : Listener). l.backlog) (map.get real.net.listeners at))
        (λ host none. st.listeners.each.virt_alone (address_at host port) none)
        (λ host at leads. both_there (address_at host port) at _ _
        (st.listeners.each.at (address_at host port) at leads))
        (nat_le ADDRESS_SIZE length) ((endpoint_of given).family == AF_INET)
        (named_host socket.host (endpoint_of given)) to names.to_is (λ host at l _ leads there.
        same_room (plain.has_numbers k p) (nat_lt (map.len k.channels) CHANNEL_LIMIT)
        (not (nat_le limits.CHANNEL_LIMIT (map.len real.net.channels))) (next_channel k p) channel named
        (room_is (map.len real.net.channels) (map.len k.channels)
        (same_channels g.conns k.channels real.net.channels st.channels)) (λ _ _ conn number room.
        same_then (same_port k socket EADDRNOTAVAIL port_free names.port_is) (λ own _ bound.
        same_if_room (record { held = x; own = own; to = address_at host port })
        (record { held = y; at = at; conn = conn })
        (record { held = is; object = may.0; place = leads; there = ap is_some there; named = number })
        l there room)))))
