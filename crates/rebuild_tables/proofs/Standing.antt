-- A book made again stands for the descriptions and inboxes of its kernel part, where no stage of a
-- checkpoint holds anything and there are no datagram pairs.
--     IsOwned virts o owner      the real owner is known, and is this one
--     IsMadeOf, made_of          of which description one of the book was made
--     rebuilt_descriptions       the descriptions, where each socket and listener has its own address
--     rebuilt_inboxes            the inboxes, of which there are none
use Rattle.std.proofs.Common.{◌≡◌, ◌==◌, ◌||◌, ℕ, Bool, true, false, cond, List, refl, sym, ap, subst, ◌∙◌}
use Rattle.std.specs.Prelude.{Option, Some, None, is_some, IsSome, option_map, option_and_then, unwrap_or}
use Rattle.std.specs.Ordering.{nat_cmp}
use Rattle.std.specs.FinMap as map
use Rattle.std.proofs.lemmas.Bool.{eqb-true}
use Rattle.std.proofs.lemmas.Option.{same_Some, none-some}
use Rattle.views.proofs.MapLaws.{true_false}
use Rattle.sys_abi.specs.declared.identity.DescId.{DescId}
use Rattle.sys_abi.specs.declared.identity.VPid.{VPid}
use Rattle.sys_abi.specs.declared.identity.RealPid.{RealPid}
use Rattle.sys_abi.specs.declared.identity.RealAddr.{RealAddr}
use Rattle.sys_abi.specs.declared.identity.VirtAddr.{VirtAddr}
use Rattle.fd_tables.specs.declared.description.Desc.{Desc}
use Rattle.fd_tables.specs.declared.description.Object as real
use Rattle.fd_tables.specs.declared.description.Object.TheVariants as real_object_of
use Rattle.fd_book.specs.Books.{Books}
use Rattle.conn_table.specs.declared.pairs.DatagramPair.{DatagramPair}
use Rattle.conn_table.specs.Pairs.{end_of}
use Rattle.virt_ids.specs.Pairs.{Pairs, AreInverse}
use Rattle.plain_tables.specs.declared.process.Process.{Process}
use Rattle.plain_tables.specs.declared.description.Description.{Description}
use Rattle.plain_tables.specs.declared.description.Object.{Object}
use Rattle.plain_tables.specs.declared.description.Object.TheVariants.{Console, File, Stream, Socket, Listener, Datagram, Counter}
use Rattle.plain_tables.specs.Objects.{is_datagram}
use Rattle.plain_tables.specs.Valid.Datagrams.{is_datagram_in}
use Rattle.plain_machine.specs.declared.kernel.PlainKernel.{PlainKernel}
use Rattle.plain_machine.specs.Kernels.{IsKernel}
use Rattle.host_tables.specs.Numbers.{Virts, number_of, IsKnown}
use Rattle.host_tables.specs.Descriptions.{Names, address_of, seen_object, seen_desc, IsTold, SameDescriptions}
use Rattle.host_tables.specs.Datagrams.{SameInboxes, inbox_of}
use Rattle.rebuild_tables.specs.Rebuilt.{HasNoDatagrams, HasReal, IsBook, owner_in, place_in, nowhere, real_object, real_desc}
use Rattle.rebuild_tables.proofs.Paired.{owner_known, has_real}

record IsOwned (virts : Virts) (o : Option RealPid) (owner : ℕ) : Type 0 where
  number : number_of virts 0 o ≡ owner
  known : IsKnown virts o

-- what a description in the book was made of
pub record IsMadeOf (k : PlainKernel) (ids : Pairs) (id : DescId) (d : Desc) : Type 0 where
  pub description : Description
  pub there : map.get k.descriptions id ≡ Some description
  pub made : real_desc ids description ≡ d

module _ (k : PlainKernel) (ids : Pairs) (b : Books) (is : IsBook k ids b) where
  pub made_of : (id : DescId) (d : Desc) → map.get b.descriptions id ≡ Some d → IsMadeOf k ids id d
  made_of id d found = by (map.get k.descriptions id) refl
    where
      by : (o : Option Description) → map.get k.descriptions id ≡ o → IsMadeOf k ids id d
      by None there =
          absurd (none-some d (sym (is.descriptions id ∙ ap (option_map (real_desc ids)) there) ∙ found))
      by (Some x) there = record {
        description = x;
        there = there;
        made = same_Some (real_desc ids x) d
            (sym (is.descriptions id ∙ ap (option_map (real_desc ids)) there) ∙ found);
      }

module _ (k : PlainKernel) (whole : IsKernel k) (ids : Pairs) (inverse : AreInverse ids.pids ids.virts)
    (numbered : (p : VPid) (x : Process) → map.get k.processes p ≡ Some x → IsSome (map.get ids.pids p.0))
    (plain : HasNoDatagrams k.descriptions)
    (places : (a : VirtAddr) → IsSome (map.get k.listeners a) → IsSome (map.get ids.addresses a))
    (b : Books) (is : IsBook k ids b) where
  -- owners

  paired_owner : (owner : ℕ) (o : Option RealPid) → map.get ids.pids owner ≡ o → is_some o ≡ true
      → IsOwned ids.virts o owner
  paired_owner owner None found some = true_false (sym some)
  paired_owner owner (Some r) found some =
      let back : map.get ids.virts r ≡ Some owner = inverse.leads_back owner r found in
      record { number = ap (λ o. unwrap_or o 0) back; known = ap is_some back }

  owned_by : (owner : ℕ) (t : Bool) → (owner == 0) ≡ t → (t || is_some (map.get ids.pids owner)) ≡ true
      → IsOwned ids.virts (cond t None (map.get ids.pids owner)) owner
  owned_by owner true nobody known = record { number = sym (eqb-true owner 0 nobody); known = tt }
  owned_by owner false somebody known = paired_owner owner (map.get ids.pids owner) refl known

  owned : (id : DescId) (x : Description) → map.get k.descriptions id ≡ Some x
      → IsOwned ids.virts (owner_in ids x.owner) x.owner
  owned id x there =
      owned_by x.owner (x.owner == 0) refl (owner_known k whole ids numbered id x there)

  -- objects

  module _ (own : Object → Option VirtAddr) (of_socket : (a : VirtAddr) → own (Socket a) ≡ Some a)
      (of_listener : (a : VirtAddr) → own (Listener a) ≡ Some a) (names : Names)
      (named : (id : DescId) → map.get names id
      ≡ option_and_then (λ d. own d.object) (map.get k.descriptions id))
    where
      named_at : (id : DescId) (x : Description) (a : VirtAddr) → map.get k.descriptions id ≡ Some x
          → own x.object ≡ Some a → map.get names id ≡ Some a
      named_at id x a there is_own =
          named id ∙ ap (option_and_then (λ (d : Description). own d.object)) there ∙ is_own

      address_is : (id : DescId) (a : VirtAddr) → map.get names id ≡ Some a → address_of names id ≡ a
      address_is id a at = ap (λ o. unwrap_or o (record { host = 0; port = 0 })) at

      object_back : (id : DescId) (x : Description) → map.get k.descriptions id ≡ Some x → (o : Object)
          → x.object ≡ o → seen_object names map.empty id (real_object ids o) ≡ o
      object_back id x there Console e = refl
      object_back id x there (File number offset) e = refl
      object_back id x there (Stream conn side) e = refl
      object_back id x there (Socket a) e =
          ap Socket (address_is id a (named_at id x a there (ap own e ∙ of_socket a)))
      object_back id x there (Listener a) e =
          ap Listener (address_is id a (named_at id x a there (ap own e ∙ of_listener a)))
      object_back id x there (Datagram peer) e = true_false (ap is_datagram (sym e) ∙ plain id x there)
      object_back id x there (Counter value) e = refl

      desc_back : (id : DescId) (o : Option Description) → map.get k.descriptions id ≡ o
          → o ≡ option_map (seen_desc ids.virts names map.empty None id) (option_map (real_desc ids) o)
      desc_back id None there = refl
      desc_back id (Some x) there =
          let object = object_back id x there x.object refl in
          let owner = (owned id x there).number in
          sym (λ i. Some (record { object = object i; flags = x.flags; owner = owner i }))

      place_is : (a : VirtAddr) (o : Option RealAddr) → map.get ids.addresses a ≡ o → is_some o ≡ true
          → map.get ids.addresses a ≡ Some (place_in ids a)
      place_is a None found some = true_false (sym some)
      place_is a (Some at) found some = found ∙ ap Some (sym (ap (λ o. unwrap_or o nowhere) found))

      told : (id : DescId) (x : Description) → map.get k.descriptions id ≡ Some x → (o : Object)
          → x.object ≡ o → HasReal ids o → IsTold names ids.addresses map.empty id (real_object ids o)
      told id x there Console e has = tt
      told id x there (File number offset) e has = tt
      told id x there (Stream conn side) e has = tt
      told id x there (Socket a) e has = ap is_some (named_at id x a there (ap own e ∙ of_socket a))
      told id x there (Listener a) e has =
          let at = named_at id x a there (ap own e ∙ of_listener a) in (
            ap is_some at,
            ap (map.get ids.addresses) (address_is id a at) ∙ place_is a (map.get ids.addresses a) refl has,
          )
      told id x there (Datagram peer) e has = absurd has
      told id x there (Counter value) e has = tt

      pub rebuilt_descriptions : SameDescriptions ids.virts names ids.addresses map.empty None k.descriptions
          b.descriptions
      rebuilt_descriptions = record {
        each = λ id. desc_back id (map.get k.descriptions id) refl
            ∙ ap (option_map (seen_desc ids.virts names map.empty None id)) (sym (is.descriptions id));
        owners = λ id d found.
            let made = made_of k ids b is id d found in
            subst (λ (e : Desc). IsKnown ids.virts e.owner) made.made
            (owned id made.description made.there).known;
        objects = λ id d found.
            let made = made_of k ids b is id d found in
            subst (λ (e : Desc). IsTold names ids.addresses map.empty id e.object) made.made
            (told id made.description made.there made.description.object refl
            (has_real k whole ids plain places id made.description made.there));
      }

  -- inboxes

  none_waits : (o : real.Object) → inbox_of map.empty o ≡ None
  none_waits (real_object_of.Datagram queue side) =
      ap (option_map (λ (pair : DatagramPair). (end_of side pair).inbox))
      (map.get-empty {X = DatagramPair} nat_cmp queue)
  none_waits real_object_of.Console = refl
  none_waits (real_object_of.File number offset) = refl
  none_waits (real_object_of.Stream conn side) = refl
  none_waits real_object_of.Socket = refl
  none_waits (real_object_of.Listener at) = refl
  none_waits (real_object_of.Counter value) = refl

  none_in : (o : Option Desc) → option_and_then (λ (d : Desc). inbox_of map.empty d.object) o ≡ None
  none_in None = refl
  none_in (Some d) = none_waits d.object

  no_datagram : (id : DescId) (o : Option Description) → map.get k.descriptions id ≡ o
      → is_datagram_in o ≡ false
  no_datagram id None there = refl
  no_datagram id (Some x) there = plain id x there

  no_inbox : (id : DescId) (o : Option (List (List ℕ))) → map.get k.inboxes id ≡ o → o ≡ None
  no_inbox id None found = refl
  no_inbox id (Some messages) found =
      true_false (ap is_some (sym found) ∙ whole.inboxes.same id
      ∙ no_datagram id (map.get k.descriptions id) refl)

  no_pair : {A : Type 0} (queue : ℕ) (pair : DatagramPair)
      → map.get (map.empty {X = DatagramPair} {R = nat_cmp}) queue ≡ Some pair → A
  no_pair queue pair found =
      absurd (none-some pair (sym (map.get-empty {X = DatagramPair} nat_cmp queue) ∙ found))

  pub rebuilt_inboxes : SameInboxes map.empty k.inboxes b.descriptions
  rebuilt_inboxes = record {
    each = λ id. no_inbox id (map.get k.inboxes id) refl ∙ sym (none_in (map.get b.descriptions id));
    described = λ queue side pair found low is_open. no_pair queue pair found;
    opened = λ queue pair found. no_pair queue pair found;
  }
