-- listen answers as the plain row.
--     unable_listens       where its tests fail
--     no_port_listens      no node lacks a port
--     serves_listening     where the socket listens
use Rattle.std.proofs.Common.{◌≡◌, ℕ, List, Bool, Some, None, refl, sym, ap, subst}
use Rattle.std.specs.Prelude.{min, max}
use Rattle.std.specs.FinMap as map
use Rattle.views.specs.Numbers.{Byte}
use Rattle.sys_abi.specs.declared.identity.VPid.{VPid}
use Rattle.sys_abi.specs.declared.identity.RealPid.{RealPid}
use Rattle.sys_abi.specs.declared.identity.RealAddr.{RealAddr}
use Rattle.sys_abi.specs.declared.identity.VirtAddr.{VirtAddr}
use Rattle.sys_abi.specs.declared.reply.Errno.{Errno}
use Rattle.fd_book.specs.Books.{IsWhole}
use Rattle.fd_tables.specs.Slots as slots
use Rattle.plain_process.specs.Attempts.{Try, Fails, Gives, and_then}
use Rattle.plain_machine.specs.declared.kernel.PlainKernel.{PlainKernel}
use Rattle.plain_machine.specs.Kernel as plain
use Rattle.plain_machine.specs.Kernels.{IsKernel}
use Rattle.plain_machine.specs.Rows.Sockets as rows
use Rattle.wire_channels.specs.Listeners.{IsNextPort}
use Rattle.host_descriptors.specs.OfHostTables.declared.attempt.Attempt.{Attempt}
use Rattle.host_descriptors.specs.OfHostTables.declared.attempt.Attempt.TheVariants as answer
use Rattle.host_descriptors.specs.OfHostTables.declared.kernel.Kernel.{Kernel}
use Rattle.host_descriptors.specs.OfHostTables.Descriptions.{address_of, seen_object, seen_desc}
use Rattle.host_descriptors.specs.OfHostTables.Requests.{has_port, leads_to_pipe, IfHeld, AreListened}
use Rattle.host_descriptors.specs.OfHostTables.Serves.{After, Serves, ByPort, listened_at, with_listening}
use Rattle.host_descriptors.specs.OfHostTables.Stands.{Given, Stands, with_place, with_name}
use Rattle.host_descriptors.specs.declared.held.Held.{Held}
use Rattle.host_descriptors.specs.Held.{seen_held}
use Rattle.host_descriptors.proofs.HeldChanges.{held_by}
use Rattle.host_sockets.specs.Changes.{with_listener}
use Rattle.host_sockets.specs.Tests.{listening_in}
use Rattle.host_sockets.proofs.Tries.{SameTry, as_gives}
use Rattle.host_sockets.proofs.Rows.{row_fails}
use Rattle.host_sockets.proofs.SocketTold.{described, plain_slot}
use Rattle.host_sockets.proofs.ListenTests.{WillListen, same_listening, then_listens, listen_is}
use Rattle.host_sockets.proofs.PlacesListened.{new_place}
use Rattle.host_sockets.proofs.Listens.{listens}

module _ (g : Given) (real : Kernel) (k : PlainKernel) (st : Stands g None real k) (whole : IsKernel k)
    (p : VPid)
    (who : RealPid) (paired : map.get g.pids p.0 ≡ Some who) (fd backlog : ℕ) (bytes : List Byte)
    (whole_book : IsWhole real.book) (of_pipe : Bool) (port_free : Bool)
    (named : (of_pipe ≡ leads_to_pipe k p fd)
    × (IfHeld (plain.held k p fd) (λ own. port_free ≡ has_port k own) × AreListened g k)) where
  abbrev after_listen : After
  after_listen n m g' = with_listening g' (record { node = who.node; port = n }) (listened_at k p fd)

  abbrev Says : Kernel → Attempt → Type 0
  Says new a = Serves ByPort after_listen g real new bytes bytes a (rows.listen_row k p fd backlog)

  abbrev found : Try Held
  found = listening_in real.book (slots.slot who fd) port_free of_pipe

  same : SameTry (WillListen g real k p who fd) (listened_at k p fd) found
  same = same_listening g real k p who fd st paired whole_book of_pipe named.0 port_free named.1.0

  pub unable_listens : (error : Errno) → found ≡ Fails error.0 → Says real (answer.Fails error)
  unable_listens error is =
      subst (λ m. Serves ByPort after_listen g real real bytes bytes (answer.Fails error) m)
      (sym (listen_is k backlog p fd))
      (row_fails ByPort after_listen g real bytes (WillListen g real k p who fd) (listened_at k p fd) found
      (then_listens k backlog) same error is)

  module _ (y : Held) (found_is : found ≡ Gives y) (at : RealAddr) (base : ℕ)
      (next : IsNextPort real.net.listeners who.node base at) (new : Kernel)
      (new_is : new ≡ with_listener real y at (max 1 (min backlog 128))) where
    told : (x : plain.Held × VirtAddr) × ((listened_at k p fd ≡ Gives x) × WillListen g real k p who fd x y)
    told = as_gives (WillListen g real k p who fd) (listened_at k p fd) found y same found_is

    stands_after : (x : plain.Held × VirtAddr) → WillListen g real k p who fd x y
        → Stands (with_place (with_name g x.0.desc x.1) x.1 (record { node = who.node; port = at.port }))
        None new
        (rows.listening k x.0 x.1 backlog)
    stands_after x is =
        let slot_is = plain_slot g real k st p who paired fd y is.held.at in
        let known = described g real k st p who paired fd y is.held.at in
        let place =
        new_place g real k st whole p who paired fd (record { desc = y.desc; cloexec = y.cloexec })
        (seen_desc g.virts g.names real.datagrams None y.desc y.description) slot_is known
        (address_of g.names y.desc)
        (ap (seen_object g.names real.datagrams y.desc) is.object) x.1 is.bound named.1.1 at base next in
        let there = (held_by real.book (slots.slot who fd) y is.held.at).described in
        subst (λ (h : plain.Held).
        Stands (with_place (with_name g h.desc x.1) x.1 (record { node = who.node; port = at.port })) None new
        (rows.listening k h x.1 backlog)) (sym is.held.seen)
        (subst (λ (n : ℕ).
        Stands (with_place (with_name g y.desc x.1) x.1 (record { node = n; port = at.port })) None new
        (rows.listening k (seen_held g real y) x.1 backlog)) next.node_is
        (subst (λ (w : Kernel). Stands (with_place (with_name g y.desc x.1) x.1 at) None w
        (rows.listening k (seen_held g real y) x.1 backlog)) (sym new_is)
        (listens g real k st y there is.object x.1 at place next.free backlog)))

    by_told : (x : plain.Held × VirtAddr) → listened_at k p fd ≡ Gives x → WillListen g real k p who fd x y
        → Says new (answer.Gives at.port)
    unfolding and_then
    by_told x gives is =
        subst (λ m. Serves ByPort after_listen g real new bytes bytes (answer.Gives at.port) m)
        (sym (listen_is k backlog p fd))
        (subst (λ m. Serves ByPort
        (λ n m' g'. with_listening g' (record { node = who.node; port = n }) m) g real new bytes bytes
        (answer.Gives at.port) (and_then m (then_listens k backlog))) (sym gives)
        (record { reply = refl; bytes = refl; stands = stands_after x is }))

    pub serves_listening : Says new (answer.Gives at.port)
    serves_listening = by_told told.0 told.1.0 told.1.1
