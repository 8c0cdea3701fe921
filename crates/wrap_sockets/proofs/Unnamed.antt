-- The table of channels drops the address of a description that has none of its own: the kernel goes on to
-- stand.
--     Stands-unnamed
use Rattle.std.proofs.Common.{◌≡◌, ◌≢◌, true, false, Option, Some, None, refl, sym, ap, ◌∙◌}
use Rattle.std.specs.Prelude.{is_some, option_map, unwrap_or}
use Rattle.std.specs.FinMap as map
use Rattle.views.proofs.MapLaws.{true_false, get_remove_other}
use Rattle.sys_abi.specs.declared.identity.DescId.{DescId}
use Rattle.sys_abi.proofs.OrderLaws.{desc_total, desc_exact}
use Rattle.fd_tables.specs.declared.description.Desc.{Desc}
use Rattle.fd_tables.specs.declared.description.Object.{Object}
use Rattle.fd_tables.specs.declared.description.Object.TheVariants.{Console, File, Stream, Socket, Listener, Datagram, Counter}
use Rattle.plain_tables.specs.declared.description.Object.TheVariants as plain
use Rattle.plain_machine.specs.declared.kernel.PlainKernel.{PlainKernel}
use Rattle.host_tables.specs.declared.kernel.Kernel.{Kernel}
use Rattle.host_tables.specs.Descriptions.{Names, nowhere, address_of, seen_object, seen_desc, IsTold}
use Rattle.host_tables.specs.Stands.{Given, Stands}
use Rattle.host_tables.specs.Systems.{has_own_name, is_named_in}
use Rattle.host_tables.proofs.DescriptionChanges.{IsStillTold}

module _ (g : Given) (real : Kernel) (k : PlainKernel) (st : Stands g None real k) (id : DescId)
    (none : is_named_in (map.get k.descriptions id) ≡ false) where
  abbrev names' : Names
  names' = map.remove g.names id

  name_is : (q : DescId) → q ≢ id → map.get names' q ≡ map.get g.names q
  name_is q differ = get_remove_other desc_total desc_exact g.names id q differ

  address_is : (q : DescId) → q ≢ id → address_of names' q ≡ address_of g.names q
  address_is q differ = ap (λ o. unwrap_or o nowhere) (name_is q differ)

  -- a description of that number has no address
  no_name : (q : DescId) (d : Desc) → map.get real.book.descriptions q ≡ Some d
      → has_own_name (seen_object g.names real.datagrams q d.object) ≡ true → q ≢ id
  no_name q d is own same =
      true_false (sym own
      ∙ sym (ap is_named_in (st.descriptions.each q
      ∙ ap (option_map (seen_desc g.virts g.names real.datagrams None q)) is))
      ∙ ap (λ r. is_named_in (map.get k.descriptions r)) same ∙ none)

  still_by : (q : DescId) (o : Object)
      → (has_own_name (seen_object g.names real.datagrams q o) ≡ true → q ≢ id)
      → IsTold g.names g.addresses real.datagrams q o
      → IsStillTold g.names names' g.addresses real.datagrams real.datagrams q o
  still_by q Console other told = record { same = refl; told = tt }
  still_by q (File number offset) other told = record { same = refl; told = tt }
  still_by q (Stream conn side) other told = record { same = refl; told = tt }
  still_by q Socket other told = record {
    same = ap plain.Socket (address_is q (other refl));
    told = ap is_some (name_is q (other refl)) ∙ told;
  }
  still_by q (Listener at) other told = record {
    same = ap plain.Listener (address_is q (other refl));
    told = (
      ap is_some (name_is q (other refl)) ∙ told.0,
      ap (map.get g.addresses) (address_is q (other refl)) ∙ told.1,
    );
  }
  still_by q (Datagram queue side) other told = record { same = refl; told = told }
  still_by q (Counter value) other told = record { same = refl; told = tt }

  still : (q : DescId) (d : Desc) → map.get real.book.descriptions q ≡ Some d
      → IsStillTold g.names names' g.addresses real.datagrams real.datagrams q d.object
  still q d is = still_by q d.object (no_name q d is) (st.descriptions.objects q d is)

  seen_by : (q : DescId) (o : Option Desc) → map.get real.book.descriptions q ≡ o
      → option_map (seen_desc g.virts g.names real.datagrams None q) o
      ≡ option_map (seen_desc g.virts names' real.datagrams None q) o
  seen_by q None is = refl
  seen_by q (Some d) is =
      ap (λ x. Some (record (seen_desc g.virts g.names real.datagrams None q d) { object = x }))
      (sym (still q d is).same)

  pub Stands-unnamed : Stands (record g { names = map.remove g.names id }) None real k
  Stands-unnamed = record {
    paired = st.paired;
    numbered = st.numbered;
    processes = st.processes;
    descriptors = st.descriptors;
    descriptions = record {
      each = λ q. st.descriptions.each q ∙ seen_by q (map.get real.book.descriptions q) refl;
      owners = st.descriptions.owners;
      objects = λ q d is. (still q d is).told;
    };
    inboxes = st.inboxes;
    files = st.files;
    channels = st.channels;
    directions = st.directions;
    listeners = st.listeners;
  }
