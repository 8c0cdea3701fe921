-- The tests of listen through the pairs.
--     WillListen g real k .. x y   what they find: a socket that isn't connected, and the address that it
--                                   gets
--     same_listening                they go alike
--     listen_is                     the row does what the tests find
use Rattle.std.proofs.Common.{◌≡◌, ℕ, Bool, Some, None, refl, sym, ap, ◌∙◌, subst}
use Rattle.std.specs.FinMap as map
use Rattle.sys_abi.specs.declared.errors.TheConstants.{EADDRINUSE}
use Rattle.sys_abi.specs.declared.identity.DescId.{DescId}
use Rattle.sys_abi.specs.declared.identity.VPid.{VPid}
use Rattle.sys_abi.specs.declared.identity.RealPid.{RealPid}
use Rattle.sys_abi.specs.declared.identity.VirtAddr.{VirtAddr}
use Rattle.fd_book.specs.Books.{IsWhole}
use Rattle.fd_tables.specs.declared.description.Object as real_object
use Rattle.fd_tables.specs.declared.description.Object.TheVariants as object
use Rattle.fd_tables.specs.Slots as slots
use Rattle.plain_process.specs.Attempts.{Try, Fails, NotReady, Gives, and_then}
use Rattle.plain_machine.specs.declared.kernel.PlainKernel.{PlainKernel}
use Rattle.plain_machine.specs.Attempts.{Served, replied}
use Rattle.plain_machine.specs.Kernel as plain
use Rattle.plain_machine.specs.Rows.Sockets as rows
use Rattle.plain_machine.specs.SocketWords.{socket_at, bound_or}
use Rattle.host_descriptors.specs.OfHostTables.declared.kernel.Kernel.{Kernel}
use Rattle.host_descriptors.specs.OfHostTables.Descriptions.{seen_object, address_of}
use Rattle.host_descriptors.specs.OfHostTables.Requests.{has_port, IfSocket, IfHeld, leads_to_pipe}
use Rattle.host_descriptors.specs.OfHostTables.Serves.{listened_at}
use Rattle.host_descriptors.specs.OfHostTables.Stands.{Given, Stands}
use Rattle.host_descriptors.specs.declared.held.Held.{Held}
use Rattle.host_sockets.specs.Tests.{may_listen, listening_in}
use Rattle.host_sockets.proofs.Tries.{SameTry, same_then, same_gives}
use Rattle.host_sockets.proofs.SocketTold.{IsSeenHeld, same_socket}
use Rattle.host_sockets.proofs.BoundPorts.{same_port}

pub record WillListen (g : Given) (real : Kernel) (k : PlainKernel) (p : VPid) (who : RealPid) (fd : ℕ)
    (x : plain.Held × VirtAddr) (y : Held) : Type 0 where
  pub held : IsSeenHeld g real k p who fd x.0 y
  pub object : y.description.object ≡ object.Socket
  pub bound : bound_or k (address_of g.names y.desc) EADDRINUSE ≡ Gives x.1

module _ (g : Given) (real : Kernel) (k : PlainKernel) (p : VPid) (who : RealPid) (fd : ℕ) where
  -- what the caller told of the socket's port
  pub told_of_socket : (M : VirtAddr → Type 0) → IfHeld (plain.held k p fd) M → (x : plain.Held) (y : Held)
      → IsSeenHeld g real k p who fd x y → y.description.object ≡ object.Socket
      → M (address_of g.names y.desc)
  told_of_socket M told x y is socket =
      subst (λ o. IfSocket (seen_object g.names real.datagrams y.desc o) M) socket
      (subst (λ m. IfHeld m M) is.told told)

  object_alike : (id : DescId) (o : real_object.Object)
      → SameTry (λ (socket : VirtAddr) (passed : Unit {0}). (o ≡ object.Socket)
      × (socket ≡ address_of g.names id))
      (rows.may_listen (seen_object g.names real.datagrams id o)) (may_listen o)
  object_alike id object.Console = record { alike = refl }
  object_alike id (object.File n offset) = record { alike = refl }
  object_alike id (object.Stream conn side) = record { alike = refl }
  object_alike id object.Socket = record { alike = (refl, refl) }
  object_alike id (object.Listener at) = record { alike = refl }
  object_alike id (object.Datagram queue side) = record { alike = refl }
  object_alike id (object.Counter value) = record { alike = refl }

  listen_alike : (x : plain.Held) (y : Held) → IsSeenHeld g real k p who fd x y
      → SameTry (λ (socket : VirtAddr) (passed : Unit {0}).
      (y.description.object ≡ object.Socket) × (socket ≡ address_of g.names y.desc))
      (rows.may_listen x.description.object) (may_listen y.description.object)
  listen_alike x y is =
      subst (λ (h : plain.Held). SameTry (λ (socket : VirtAddr) (passed : Unit {0}).
      (y.description.object ≡ object.Socket) × (socket ≡ address_of g.names y.desc))
      (rows.may_listen h.description.object) (may_listen y.description.object)) (sym is.seen)
      (object_alike y.desc y.description.object)

  module _ (st : Stands g None real k) (paired : map.get g.pids p.0 ≡ Some who) (whole : IsWhole real.book)
      (of_pipe : Bool) (tells : of_pipe ≡ leads_to_pipe k p fd) (port_free : Bool)
      (told : IfHeld (plain.held k p fd) (λ own. port_free ≡ has_port k own)) where
    pub same_listening : SameTry (WillListen g real k p who fd) (listened_at k p fd)
        (listening_in real.book (slots.slot who fd) port_free of_pipe)
    unfolding listened_at listening_in
    same_listening =
        same_then (same_socket g real k st p who paired fd whole of_pipe tells) (λ x y is.
        same_then (listen_alike x y is) (λ socket _ may.
        same_then (same_port k socket EADDRINUSE port_free
        (told_of_socket (λ own. port_free ≡ has_port k own) told x y is may.0
        ∙ ap (has_port k) (sym may.1))) (λ address _ bound.
        same_gives (x, address) y (record {
          held = is;
          object = may.0;
          bound = ap (λ own. bound_or k own EADDRINUSE) (sym may.1) ∙ bound;
        }))))

-- the row goes on from what the tests find

module _ (k : PlainKernel) (backlog : ℕ) where
  abbrev pub then_listens : plain.Held × VirtAddr → Try Served
  then_listens found = replied (rows.listening k found.0 found.1 backlog) 0

  abbrev with_address : plain.Held → VirtAddr → Try (plain.Held × VirtAddr)
  with_address h socket = and_then (bound_or k socket EADDRINUSE) (λ address. Gives (h, address))

  by_bound : (h : plain.Held) (m : Try VirtAddr)
      → and_then m (λ address. replied (rows.listening k h address backlog) 0)
      ≡ and_then (and_then m (λ address. Gives (h, address))) then_listens
  unfolding and_then
  by_bound h (Fails e) = refl
  by_bound h NotReady = refl
  by_bound h (Gives address) = refl

  by_socket : (h : plain.Held) (m : Try VirtAddr)
      → and_then m (λ socket. and_then (bound_or k socket EADDRINUSE)
      (λ address. replied (rows.listening k h address backlog) 0))
      ≡ and_then (and_then m (with_address h)) then_listens
  unfolding and_then
  by_socket h (Fails e) = refl
  by_socket h NotReady = refl
  by_socket h (Gives socket) = by_bound h (bound_or k socket EADDRINUSE)

  by_held : (m : Try plain.Held)
      → and_then m (λ h. and_then (rows.may_listen h.description.object)
      (λ socket. and_then (bound_or k socket EADDRINUSE)
      (λ address. replied (rows.listening k h address backlog) 0)))
      ≡ and_then (and_then m (λ h. and_then (rows.may_listen h.description.object) (with_address h)))
      then_listens
  unfolding and_then
  by_held (Fails e) = refl
  by_held NotReady = refl
  by_held (Gives h) = by_socket h (rows.may_listen h.description.object)

  pub listen_is : (p : VPid) (fd : ℕ) → rows.listen_row k p fd backlog ≡ and_then (listened_at k p fd)
      then_listens
  unfolding rows.listen_row listened_at
  listen_is p fd = by_held (socket_at k p fd)
