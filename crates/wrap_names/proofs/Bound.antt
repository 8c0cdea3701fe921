-- A socket gets another address: the system stands for the kernel part with that address.
--     bound_after
use Rattle.std.proofs.Common.{◌≡◌, ◌≢◌, ℕ, true, Some, None, inl, inr, refl, sym, ap, ◌∙◌, subst}
use Rattle.std.specs.Prelude.{is_some, unwrap_or}
use Rattle.std.specs.FinMap as map
use Rattle.views.proofs.MapLaws.{same_or_other, get_insert_same, get_insert_other, insert_same}
use Rattle.sys_abi.specs.declared.identity.DescId.{DescId}
use Rattle.sys_abi.specs.declared.identity.VirtAddr.{VirtAddr}
use Rattle.sys_abi.proofs.OrderLaws.{desc_total, desc_exact}
use Rattle.conn_table.specs.Pairs.{Pairs}
use Rattle.fd_tables.specs.declared.description.Object.{Object}
use Rattle.fd_tables.specs.declared.description.Object.TheVariants as real
use Rattle.plain_tables.specs.declared.description.Description.{Description}
use Rattle.plain_tables.specs.declared.description.Object as plain_object
use Rattle.plain_tables.specs.declared.description.Object.TheVariants.{Socket, Listener}
use Rattle.plain_tables.specs.Tables.{Descriptions}
use Rattle.plain_machine.specs.declared.kernel.PlainKernel.{PlainKernel}
use Rattle.plain_machine.specs.Kernel.{with_object}
use Rattle.plain_machine.specs.Kernels.{IsKernel}
use Rattle.host_streams.specs.HandedOn.{Held}
use Rattle.host_streams.specs.HandedOn.{seen_held}
use Rattle.host_streams.specs.OfHostTables.declared.system.System.{System}
use Rattle.host_streams.specs.OfHostTables.Datagrams.{RealDescriptions}
use Rattle.host_streams.specs.OfHostTables.Descriptions.{Names, Addresses, address_of, nowhere, seen_object, seen_desc, IsTold, SameDescriptions}
use Rattle.host_streams.specs.OfHostTables.Stands.{Given, Stands}
use Rattle.host_streams.specs.OfHostTables.Systems.{given_of, AreExact, is_named_in}
use Rattle.host_streams.proofs.OfHostTables.DescriptionChanges.{IsStillTold, SameDescriptions-put}
use Rattle.wrap_names.specs.Wrapping.{IsWrapped}

-- other descriptions
module _ (names : Names) (addresses : Addresses) (pairs : Pairs) (id : DescId) (a : VirtAddr) where
  abbrev names' : Names
  names' = map.insert names id a

  same_name : (q : DescId) → q ≢ id → map.get names' q ≡ map.get names q
  same_name q differ = get_insert_other desc_total desc_exact names id a q differ

  same_address : (q : DescId) → q ≢ id → address_of names' q ≡ address_of names q
  same_address q differ = ap (λ o. unwrap_or o nowhere) (same_name q differ)

  still_told : (q : DescId) (o : Object) → q ≢ id → IsTold names addresses pairs q o
      → IsStillTold names names' addresses pairs pairs q o
  still_told q real.Console differ told = record { same = refl; told = tt }
  still_told q (real.File number offset) differ told = record { same = refl; told = tt }
  still_told q (real.Stream conn side) differ told = record { same = refl; told = tt }
  still_told q real.Socket differ told = record {
    same = ap Socket (same_address q differ);
    told = ap is_some (same_name q differ) ∙ told;
  }
  still_told q (real.Listener at) differ told = record {
    same = ap Listener (same_address q differ);
    told = (
      ap is_some (same_name q differ) ∙ told.0,
      ap (map.get addresses) (same_address q differ) ∙ told.1,
    );
  }
  still_told q (real.Datagram queue side) differ told = record { same = refl; told = told }
  still_told q (real.Counter value) differ told = record { same = refl; told = tt }

  own_name : map.get names' id ≡ Some a
  own_name = get_insert_same desc_total desc_exact names id a

  own_object : (o : Object) → o ≡ real.Socket → seen_object names' pairs id o ≡ Socket a
  own_object o socket =
      ap (seen_object names' pairs id) socket ∙ ap (λ x. Socket (unwrap_or x nowhere)) own_name

  own_told : (o : Object) → o ≡ real.Socket → IsTold names' addresses pairs id o
  own_told o socket = subst (IsTold names' addresses pairs id) (sym socket) (ap is_some own_name)

module _ (s : System) (next_id : ℕ) (k : PlainKernel) (w : IsWrapped s next_id k) (h : Held)
    (there : map.get s.kernel.book.descriptions h.desc ≡ Some h.description)
    (socket : h.description.object ≡ real.Socket) (a : VirtAddr) where
  abbrev g : Given
  g = given_of s

  abbrev pub bound : System
  bound = record s { conns = record s.conns { names = map.insert s.conns.names h.desc a } }

  abbrev g' : Given
  g' = given_of bound

  abbrev described : Description
  described = record (seen_held g s.kernel h).description { object = Socket a }

  abbrev pub kernel' : PlainKernel
  kernel' = with_object k (seen_held g s.kernel h) (Socket a)

  seen_is : seen_desc g'.virts g'.names s.kernel.datagrams None h.desc h.description ≡ described
  seen_is =
      ap (λ (o : plain_object.Object). record (seen_held g s.kernel h).description { object = o })
      (own_object g.names g.addresses s.kernel.datagrams h.desc a h.description.object socket)

  same_real : map.insert s.kernel.book.descriptions h.desc h.description ≡ s.kernel.book.descriptions
  same_real = insert_same desc_total desc_exact s.kernel.book.descriptions h.desc h.description there

  abbrev Same : Descriptions → RealDescriptions → Type 0
  Same virt real = SameDescriptions g'.virts g'.names g'.addresses s.kernel.datagrams None virt real

  put : Same (map.insert k.descriptions h.desc
      (seen_desc g'.virts g'.names s.kernel.datagrams None h.desc h.description))
      (map.insert s.kernel.book.descriptions h.desc h.description)
  put =
      SameDescriptions-put g.virts g.names g'.names g.addresses g'.addresses s.kernel.datagrams
      s.kernel.datagrams None k.descriptions s.kernel.book.descriptions w.stands.tables.descriptions h.desc
      h.description
      (λ q e differ at.
      still_told g.names g.addresses s.kernel.datagrams h.desc a q e.object differ
      (w.stands.tables.descriptions.objects q e at))
      (w.stands.tables.descriptions.owners h.desc h.description there)
      (own_told g.names g.addresses s.kernel.datagrams h.desc a h.description.object socket)

  same_descriptions : Same kernel'.descriptions s.kernel.book.descriptions
  same_descriptions =
      subst (λ (x : Description × RealDescriptions). Same (map.insert k.descriptions h.desc x.0) x.1)
      (λ i. (seen_is i, same_real i)) put

  stands : Stands g' None s.kernel kernel'
  stands = record {
    paired = w.stands.tables.paired;
    numbered = w.stands.tables.numbered;
    processes = w.stands.tables.processes;
    descriptors = w.stands.tables.descriptors;
    descriptions = same_descriptions;
    inboxes = w.stands.tables.inboxes;
    files = w.stands.tables.files;
    channels = w.stands.tables.channels;
    directions = w.stands.tables.directions;
    listeners = w.stands.tables.listeners;
  }

  still_named : (id : DescId) (b : VirtAddr) → map.get bound.conns.names id ≡ Some b
      → is_named_in (map.get kernel'.descriptions id) ≡ true
  still_named id b is = elim (same_or_other desc_total desc_exact id h.desc) [
    | inl here ↦
        ap is_named_in (ap (map.get kernel'.descriptions) here
        ∙ get_insert_same desc_total desc_exact k.descriptions h.desc described)
    | inr differ ↦
        ap is_named_in (get_insert_other desc_total desc_exact k.descriptions h.desc described id differ)
        ∙ w.stands.exact.names id b
        (sym (get_insert_other desc_total desc_exact s.conns.names h.desc a id differ) ∙ is)
  ]

  exact : AreExact bound kernel'
  exact = record {
    makers = w.stands.exact.makers;
    numbers = w.stands.exact.numbers;
    places = w.stands.exact.places;
    names = still_named;
    open_ends = w.stands.exact.open_ends;
    entries = w.stands.exact.entries;
  }

  pub bound_after : IsKernel kernel' → IsWrapped bound next_id kernel'
  bound_after whole = record {
    stands = record { kernel = whole; tables = stands; exact = exact; room = w.stands.room };
    next = w.next;
  }
