-- A kernel goes on to stand for its kernel part where names and addresses that nothing has go.
--     ArePlaces ids ids' k      the pairs of addresses are as before where somebody listens
--     fewer_places              the kernel stands by the fewer names and addresses
--     places_self, place_gone   no pair of addresses went, or one at which nobody listens
use Rattle.std.proofs.Common.{◌≡◌, ◌⊎◌, Option, Some, None, inl, inr, refl, sym, ap, ◌∙◌, subst}
use Rattle.std.specs.Prelude.{IsSome, is_some, option_map, unwrap_or}
use Rattle.std.specs.FinMap as map
use Rattle.std.proofs.lemmas.Option.{none-some, same_Some}
use Rattle.views.specs.Seen.{Agree, LeadBack}
use Rattle.views.proofs.MapLaws.{true_false, key_tied, same_or_other, get_remove_same, get_remove_other, remove_absent}
use Rattle.views.proofs.MapValues.{some_among-values}
use Rattle.views.proofs.Seen.{shrunk}
use Rattle.sys_abi.specs.declared.identity.DescId.{DescId}
use Rattle.sys_abi.specs.declared.identity.RealAddr.{RealAddr}
use Rattle.sys_abi.specs.declared.identity.VirtAddr.{VirtAddr}
use Rattle.sys_abi.proofs.OrderLaws.{desc_total, desc_exact, address_total, address_exact, real_address_total, real_address_exact}
use Rattle.fd_tables.specs.declared.description.Desc.{Desc}
use Rattle.fd_tables.specs.declared.description.Object.{Object}
use Rattle.fd_tables.specs.declared.description.Object.TheVariants as object
use Rattle.virt_ids.specs.Pairs.{AreInverse, without_back}
use Rattle.virt_ids.proofs.PairLaws.{AreInverse-remove}
use Rattle.plain_tables.specs.declared.channel.Listening.{Listening}
use Rattle.plain_tables.specs.declared.description.Description.{Description}
use Rattle.plain_tables.specs.declared.description.Object.TheVariants.{Socket}
use Rattle.plain_tables.specs.declared.description.Object.TheVariants as plain_listener
use Rattle.plain_tables.specs.Objects.{is_listener_at}
use Rattle.plain_machine.specs.declared.kernel.PlainKernel.{PlainKernel}
use Rattle.plain_machine.specs.Kernels.{IsKernel}
use Rattle.host_tables.specs.declared.kernel.Kernel.{Kernel}
use Rattle.host_tables.specs.Descriptions.{Names, Addresses, nowhere, address_of, seen_object, seen_desc, IsTold, SameDescriptions}
use Rattle.host_tables.specs.Network.{Ports, SameListener, SameListeners}
use Rattle.host_tables.specs.Stands.{Given, Stands}
use Rattle.host_tables.proofs.DescriptionChanges.{IsStillTold}

pub record ArePlaces (addresses addresses' : Addresses) (ports' : Ports) (k : PlainKernel) : Type 0 where
  pub inverse : AreInverse addresses' ports'
  pub was : (a : VirtAddr) (at : RealAddr) → map.get addresses' a ≡ Some at → map.get addresses a ≡ Some at
  pub kept : (a : VirtAddr) (at : RealAddr) → map.get addresses a ≡ Some at → IsSome (map.get k.listeners a)
      → map.get addresses' a ≡ Some at

none_too : {X Y : Type 0} (Is : X → Y → Type 0) (o : Option X) (q : Option Y)
    → Agree Is o q → o ≡ None → q ≡ None
none_too Is None None is e = refl
none_too Is None (Some y) is e = absurd is
none_too Is (Some x) q is e = absurd (none-some x (sym e))

module _ (g : Given) (real : Kernel) (k : PlainKernel) (whole : IsKernel k) (st : Stands g None real k)
    (addresses' : Addresses) (ports' : Ports) (places : ArePlaces g.addresses addresses' ports' k) where
  -- listeners
  lead : LeadBack (map.get g.addresses) (map.get g.ports)
  lead = record {
    back = λ a at is. st.listeners.inverse.leads_back a at is;
    there = λ a at is. st.listeners.inverse.leads_there a at is;
  }

  none_by : (a : VirtAddr) (at : RealAddr) → map.get g.addresses a ≡ Some at → map.get addresses' a ≡ None
      → (o : Option Listening) → map.get k.listeners a ≡ o → map.get k.listeners a ≡ None
  none_by a at is none None e = e
  none_by a at is none (Some x) e =
      absurd (none-some at (sym none ∙ places.kept a at is (ap is_some e)))

  gone_by : (a : VirtAddr) → map.get addresses' a ≡ None → (o : Option RealAddr) → map.get g.addresses a ≡ o
      → (map.get g.addresses a ≡ None) ⊎ (map.get k.listeners a ≡ None)
  gone_by a none None e = inl e
  gone_by a none (Some at) e = inr (none_by a at e none (map.get k.listeners a) refl)

  port_by : (at : RealAddr) → map.get ports' at ≡ None → (o : Option VirtAddr) → map.get g.ports at ≡ o
      → (map.get g.ports at ≡ None) ⊎ (map.get real.net.listeners at ≡ None)
  port_by at none None e = inl e
  port_by at none (Some a) e = by_place (map.get addresses' a) refl
    where
      led : map.get g.addresses a ≡ Some at
      led = st.listeners.inverse.leads_there a at e

      no_listener : map.get addresses' a ≡ None → map.get real.net.listeners at ≡ None
      no_listener gone =
          none_too (SameListener a at) (map.get k.listeners a) (map.get real.net.listeners at)
          (st.listeners.each.at a at led) (none_by a at led gone (map.get k.listeners a) refl)

      by_place : (o : Option RealAddr) → map.get addresses' a ≡ o
          → (map.get g.ports at ≡ None) ⊎ (map.get real.net.listeners at ≡ None)
      by_place None f = inr (no_listener f)
      by_place (Some there) f =
          let back = places.inverse.leads_back a there f in
          let same = same_Some there at (sym (places.was a there f) ∙ led) in
          absurd (none-some a (sym none ∙ subst (λ (r : RealAddr). map.get ports' r ≡ Some a) same back))

  listeners_fewer : SameListeners real.nodes addresses' ports' k.listeners real.net.listeners
  listeners_fewer = record {
    inverse = places.inverse;
    node = λ a at is. st.listeners.node a at (places.was a at is);
    each = shrunk address_total address_exact real_address_total real_address_exact (map.get g.addresses)
        (map.get g.ports) lead SameListener (map.get addresses') (map.get ports') SameListener k.listeners
        real.net.listeners st.listeners.each places.was (λ a at x y leads e f is. is)
        (λ a none. gone_by a none (map.get g.addresses a) refl)
        (λ at none. port_by at none (map.get g.ports at) refl);
  }

  -- descriptions
  module _ (names' : Names)
      (named : (id : DescId) (d : Desc) → map.get real.book.descriptions id ≡ Some d
      → map.get names' id ≡ map.get g.names id) where
    abbrev pub fewer_given : Given
    fewer_given = record g { addresses = addresses'; ports = ports'; names = names' }

    module _ (id : DescId) (d : Desc) (is : map.get real.book.descriptions id ≡ Some d) where
      abbrev seen_as : Object → Description
      seen_as o = record (seen_desc g.virts g.names real.datagrams None id d) {
        object = seen_object g.names real.datagrams id o;
      }

      seen : map.get k.descriptions id ≡ Some (seen_as d.object)
      seen = st.descriptions.each id
          ∙ ap (option_map (seen_desc g.virts g.names real.datagrams None id)) is

      address_is : address_of names' id ≡ address_of g.names id
      address_is = ap (λ o. unwrap_or o nowhere) (named id d is)

      listens : (at : RealAddr) → d.object ≡ object.Listener at
          → IsSome (map.get k.listeners (address_of g.names id))
      listens at same =
          whole.listeners.described (address_of g.names id)
          ∙ some_among-values desc_total desc_exact
          (λ (x : Description). is_listener_at (address_of g.names id) x.object) k.descriptions id
          (seen_as (object.Listener at)) (seen ∙ ap (λ o. Some (seen_as o)) same)
          (key_tied address_total address_exact (address_of g.names id))

      still_by : (o : Object) → d.object ≡ o → IsTold g.names g.addresses real.datagrams id o
          → IsStillTold g.names names' addresses' real.datagrams real.datagrams id o
      still_by object.Console same told = record { same = refl; told = told }
      still_by (object.File number offset) same told = record { same = refl; told = told }
      still_by (object.Stream conn side) same told = record { same = refl; told = told }
      still_by object.Socket same told = record {
        same = ap Socket address_is;
        told = ap is_some (named id d is) ∙ told;
      }
      still_by (object.Listener at) same told = record {
        same = ap plain_listener.Listener address_is;
        told = (
          ap is_some (named id d is) ∙ told.0,
          ap (map.get addresses') address_is
              ∙ places.kept (address_of g.names id) at told.1 (listens at same),
        );
      }
      still_by (object.Datagram queue side) same told = record { same = refl; told = told }
      still_by (object.Counter value) same told = record { same = refl; told = told }

      still : IsStillTold g.names names' addresses' real.datagrams real.datagrams id d.object
      still = still_by d.object refl (st.descriptions.objects id d is)

    seen_by : (id : DescId) (o : Option Desc) → map.get real.book.descriptions id ≡ o
        → option_map (seen_desc g.virts g.names real.datagrams None id) o
        ≡ option_map (seen_desc g.virts names' real.datagrams None id) o
    seen_by id None e = refl
    seen_by id (Some d) e =
        ap (λ x. Some (record (seen_desc g.virts g.names real.datagrams None id d) { object = x }))
        (sym (still id d e).same)

    descriptions_fewer : SameDescriptions g.virts names' addresses' real.datagrams None k.descriptions
        real.book.descriptions
    descriptions_fewer = record {
      each = λ id. st.descriptions.each id ∙ seen_by id (map.get real.book.descriptions id) refl;
      owners = st.descriptions.owners;
      objects = λ id d is. (still id d is).told;
    }

    pub fewer_places : Stands fewer_given None real k
    fewer_places = record {
      paired = st.paired;
      numbered = st.numbered;
      processes = st.processes;
      descriptors = st.descriptors;
      descriptions = descriptions_fewer;
      inboxes = st.inboxes;
      files = st.files;
      channels = st.channels;
      directions = st.directions;
      listeners = listeners_fewer;
    }

-- nothing went
pub places_self : (addresses : Addresses) (ports : Ports) (k : PlainKernel) → AreInverse addresses ports
    → ArePlaces addresses addresses ports k
places_self addresses ports k inverse = record {
  inverse = inverse;
  was = λ a at is. is;
  kept = λ a at is some. is;
}

-- one went, at which nobody listens
module _ (addresses : Addresses) (ports : Ports) (k : PlainKernel) (inverse : AreInverse addresses ports)
    (gone : VirtAddr) (none : map.get k.listeners gone ≡ None) where
  abbrev ports_without : Option RealAddr → Ports
  ports_without o = without_back ports o

  fewer_inverse : (o : Option RealAddr) → map.get addresses gone ≡ o
      → AreInverse (map.remove addresses gone) (ports_without o)
  fewer_inverse None e =
      subst (λ (m : Addresses). AreInverse m ports)
      (sym (remove_absent address_total address_exact addresses gone e)) inverse
  fewer_inverse (Some at) e =
      AreInverse-remove address_total address_exact real_address_total real_address_exact addresses ports
      gone at
      inverse e

  was : (a : VirtAddr) (at : RealAddr) → map.get (map.remove addresses gone) a ≡ Some at
      → map.get addresses a ≡ Some at
  was a at is = elim (same_or_other address_total address_exact a gone) [
    | inl here ↦ absurd (none-some at (sym (get_remove_same address_total address_exact addresses gone)
        ∙ ap (map.get (map.remove addresses gone)) (sym here) ∙ is))
    | inr differ ↦ sym (get_remove_other address_total address_exact addresses gone a differ) ∙ is
  ]

  kept : (a : VirtAddr) (at : RealAddr) → map.get addresses a ≡ Some at → IsSome (map.get k.listeners a)
      → map.get (map.remove addresses gone) a ≡ Some at
  kept a at is some = elim (same_or_other address_total address_exact a gone) [
    | inl here ↦ true_false (sym some ∙ ap is_some (ap (map.get k.listeners) here ∙ none))
    | inr differ ↦ get_remove_other address_total address_exact addresses gone a differ ∙ is
  ]

  pub place_gone : ArePlaces addresses (map.remove addresses gone) (ports_without (map.get addresses gone)) k
  place_gone = record {
    inverse = fewer_inverse (map.get addresses gone) refl;
    was = was;
    kept = kept;
  }
