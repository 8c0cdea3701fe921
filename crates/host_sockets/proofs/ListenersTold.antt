-- Listeners through the pairs: each that an object names is there, and both sides change alike.
--     listening_there          a listener's object names one that is there
--     IsListenedAt, same_place     the address and the port at which an object listens
--     at_key_is, changed_is    what is there, changed
use Rattle.std.proofs.Common.{◌≡◌, ℕ, Option, Some, None, refl, sym, ap, ◌∙◌, subst}
use Rattle.std.specs.Prelude.{IsSome}
use Rattle.std.specs.Option.{option_map_or}
use Rattle.std.specs.declared.cmp.Ordering.{Ordering}
use Rattle.std.specs.FinMap as map
use Rattle.std.specs.FinMap.{FinMap}
use Rattle.views.proofs.MapLaws.{key_tied}
use Rattle.views.proofs.MapValues.{some_among-values}
use Rattle.views.specs.Seen.{Agree}
use Rattle.sys_abi.specs.declared.errors.TheConstants.{EINVAL}
use Rattle.sys_abi.specs.declared.identity.DescId.{DescId}
use Rattle.sys_abi.specs.declared.identity.VPid.{VPid}
use Rattle.sys_abi.specs.declared.identity.RealPid.{RealPid}
use Rattle.sys_abi.specs.declared.identity.RealAddr.{RealAddr}
use Rattle.sys_abi.specs.declared.identity.VirtAddr.{VirtAddr}
use Rattle.sys_abi.proofs.OrderLaws.{desc_total, desc_exact, address_total, address_exact}
use Rattle.fd_tables.specs.declared.description.Object as real_object
use Rattle.fd_tables.specs.declared.description.Object.TheVariants as object
use Rattle.fd_tables.specs.Slots as slots
use Rattle.plain_tables.specs.declared.description.Description.{Description}
use Rattle.plain_tables.specs.declared.description.Object.TheVariants.{Listener}
use Rattle.plain_tables.specs.Objects.{is_listener_at}
use Rattle.plain_tables.specs.Tables.{changed_at, changed_by}
use Rattle.plain_process.specs.Attempts.{found}
use Rattle.plain_machine.specs.declared.kernel.PlainKernel.{PlainKernel}
use Rattle.plain_machine.specs.Kernel as plain
use Rattle.plain_machine.specs.Kernels.{IsKernel}
use Rattle.plain_machine.specs.SocketWords as words
use Rattle.virt_ids.specs.Changes.{at_key}
use Rattle.host_descriptors.specs.OfHostTables.declared.kernel.Kernel.{Kernel}
use Rattle.host_descriptors.specs.OfHostTables.Descriptions.{address_of, seen_object, seen_desc, IsTold}
use Rattle.host_descriptors.specs.OfHostTables.Stands.{Given, Stands}
use Rattle.host_descriptors.specs.declared.held.Held.{Held}
use Rattle.host_descriptors.proofs.HeldChanges.{held_by}
use Rattle.host_sockets.specs.Tests.{listens_at}
use Rattle.host_sockets.proofs.Tries.{SameTry, same_found}
use Rattle.host_sockets.proofs.SocketTold.{IsSeenHeld, described}

-- what is there, changed

module _ {K X : Type 0} {R : K → K → Ordering} (m : FinMap R X) (key : K) (f : X → X) (x : X)
    (is : map.get m key ≡ Some x) where
  pub at_key_is : at_key m key f ≡ map.insert m key (f x)
  at_key_is = ap (λ o. option_map_or (λ value. map.insert m key (f value)) o m) is

  pub changed_is : changed_at m key f ≡ map.insert m key (f x)
  changed_is = ap (changed_by m key f) is

-- a listener's object

pub listening_there : (k : PlainKernel) → IsKernel k → (d : DescId) (x : Description) (a : VirtAddr)
    → map.get k.descriptions d ≡ Some x → x.object ≡ Listener a → IsSome (map.get k.listeners a)
listening_there k whole d x a known is =
    whole.listeners.described a
    ∙ some_among-values desc_total desc_exact (λ (z : Description). is_listener_at a z.object) k.descriptions
    d x
    known (ap (is_listener_at a) is ∙ key_tied address_total address_exact a)

pub record IsListenedAt (g : Given) (y : Held) (a : VirtAddr) (at : RealAddr) : Type 0 where
  pub object : y.description.object ≡ object.Listener at
  pub address : a ≡ address_of g.names y.desc
  pub place : map.get g.addresses a ≡ Some at

module _ (g : Given) (real : Kernel) (k : PlainKernel) (st : Stands g None real k) (p : VPid) (who : RealPid)
    (fd : ℕ) where
  abbrev IsAt : DescId → real_object.Object → VirtAddr → RealAddr → Type 0
  IsAt id o a at =
      (o ≡ object.Listener at) × ((a ≡ address_of g.names id) × (map.get g.addresses a ≡ Some at))

  by_object : (id : DescId) (o : real_object.Object) → IsTold g.names g.addresses real.datagrams id o
      → Agree (IsAt id o) (words.listens_at (seen_object g.names real.datagrams id o)) (listens_at o)
  by_object id object.Console told = tt
  by_object id (object.File n offset) told = tt
  by_object id (object.Stream conn side) told = tt
  by_object id object.Socket told = tt
  by_object id (object.Listener at) told = (refl, (refl, told.1))
  by_object id (object.Datagram queue side) told = tt
  by_object id (object.Counter value) told = tt

  by_held : (x : plain.Held) (y : Held) → IsSeenHeld g real k p who fd x y
      → Agree (IsAt y.desc y.description.object) (words.listens_at x.description.object)
      (listens_at y.description.object)
  by_held x y is =
      subst (λ (h : plain.Held). Agree (IsAt y.desc y.description.object)
      (words.listens_at h.description.object)
      (listens_at y.description.object)) (sym is.seen)
      (by_object y.desc y.description.object
      (st.descriptions.objects y.desc y.description
      (held_by real.book (slots.slot who fd) y is.at).described))

  agree_placed : (y : Held) (o : Option VirtAddr) (q : Option RealAddr)
      → Agree (IsAt y.desc y.description.object) o q → Agree (IsListenedAt g y) o q
  agree_placed y None None h = tt
  agree_placed y None (Some at) h = h
  agree_placed y (Some a) None h = h
  agree_placed y (Some a) (Some at) h = record { object = h.0; address = h.1.0; place = h.1.1 }

  pub same_place : (x : plain.Held) (y : Held) → IsSeenHeld g real k p who fd x y
      → SameTry (IsListenedAt g y) (found (words.listens_at x.description.object) EINVAL)
      (found (listens_at y.description.object) EINVAL)
  same_place x y is =
      same_found (words.listens_at x.description.object) (listens_at y.description.object) EINVAL
      (agree_placed y _ _ (by_held x y is))

  module _ (paired : map.get g.pids p.0 ≡ Some who) (whole : IsKernel k) where
    pub placed_there : (x : plain.Held) (y : Held) → IsSeenHeld g real k p who fd x y → (a : VirtAddr)
        (at : RealAddr) → IsListenedAt g y a at → IsSome (map.get k.listeners a)
    placed_there x y is a at placed =
        listening_there k whole y.desc (seen_desc g.virts g.names real.datagrams None y.desc y.description) a
        (described g real k st p who paired fd y is.at)
        (ap (seen_object g.names real.datagrams y.desc) placed.object ∙ ap Listener (sym placed.address))
