-- What must hold where what an object names goes with its description, and what that leaves.
--     MayGo g real id o        the object of that description, which is gone; an end of a datagram pair is none
--     HasLetGo old new o       a kernel after what the object names went, by every pairs
--     closed_of lost object    what is told of a close
--     IsToldClose b at closed  it is the description that loses its last descriptor by the close there
use Rattle.std.specs.Prelude.{◌≡◌, ℕ, ◌<◌, [], Option, Some, None, IfSome, option_map, option_and_then}
use Rattle.std.specs.FinMap as map
use Rattle.sys_abi.specs.declared.identity.DescId.{DescId}
use Rattle.conn_table.specs.Pairs.{after_close}
use Rattle.fd_tables.specs.declared.description.Object.{Object}
use Rattle.fd_tables.specs.declared.description.Object.TheVariants.{File, Stream, Listener, Datagram}
use Rattle.fd_tables.specs.declared.real_slot.RealSlot.{RealSlot}
use Rattle.fd_book.specs.Books.{Books, lost_by_close}
use Rattle.host_tables.specs.OfPlainMachine.declared.kernel.PlainKernel.{PlainKernel}
use Rattle.host_tables.specs.OfPlainMachine.Closing.{let_go}
use Rattle.host_tables.specs.declared.kernel.Kernel.{Kernel}
use Rattle.host_tables.specs.Descriptions.{address_of, seen_object}
use Rattle.host_tables.specs.Stands.{Given, Stands}
use Rattle.host_descriptors.specs.declared.closing.Closed.{Closed}

-- no file has the empty name; a side is 0 or 1; the listener is the one of its address
abbrev pub MayGo : Given → Kernel → DescId → Object → Type 0
MayGo g real id (File number offset) = map.get real.files.names [] ≡ None
MayGo g real id (Stream conn side) = side < 2
MayGo g real id (Listener at) = map.get g.addresses (address_of g.names id) ≡ Some at
MayGo g real id (Datagram queue side) = ⊥
MayGo g real id _ = Unit {0}

-- an end of a datagram pair goes at once with its description, so that its kernel is said itself
pub record HasLetGo (old new : Kernel) (o : Object) : Type 0 where
  pub goes : (g : Given) (k : PlainKernel) (id : DescId) → Stands g None old k → MayGo g old id o
      → Stands g None new (let_go k id (seen_object g.names old.datagrams id o))
  pub end : (queue side : ℕ) → o ≡ Datagram queue side
      → new ≡ record old { datagrams = after_close side old.datagrams queue }

-- the description that lost its last descriptor, with what stood behind that descriptor
abbrev pub closed_of : Option DescId → Option Object → Option Closed
closed_of lost object =
    option_and_then (λ desc. option_map (λ of. record { desc = desc; object = of }) object) lost

pub record IsToldClose (b : Books) (at : RealSlot) (closed : Option Closed) : Type 0 where
  pub desc : option_map (λ c. c.desc) closed ≡ lost_by_close b at
  pub object : IfSome closed (λ c. option_map (λ d. d.object) (map.get b.descriptions c.desc) ≡ Some c.object)
