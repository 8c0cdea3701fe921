-- A new datagram pair through the pairs.
--     still_told_beside       what other descriptions are told by
--     SameInboxes-made        with the inboxes of its ends
--     datagrams_kept          the pair with the descriptions of both its ends
use Rattle.std.proofs.Common.{◌≡◌, ◌≢◌, ◌⊎◌, ℕ, zero, suc, ◌+◌, ◌-◌, ◌<◌, Bool, true, List, [], Option, Some, None, inl, inr, refl, sym, ap, ◌∙◌, subst, arith}
use Rattle.std.specs.Prelude.{option_map, option_and_then}
use Rattle.std.specs.Option.{option_map_or}
use Rattle.std.specs.Cmp.{nat_cmp_total}
use Rattle.std.specs.FinMap as map
use Rattle.std.specs.FinMap.{nat_cmp-IsAntisymmetric}
use Rattle.std.proofs.lemmas.Option.{same_Some, none-some}
use Rattle.views.specs.Numbers.{Byte, Flags}
use Rattle.views.proofs.MapLaws.{same_or_other, get_insert_same, get_insert_other}
use Rattle.sys_abi.specs.declared.descriptor.Descriptor.{Descriptor}
use Rattle.sys_abi.specs.declared.identity.DescId.{DescId}
use Rattle.sys_abi.specs.declared.identity.RealPid.{RealPid}
use Rattle.sys_abi.specs.declared.identity.VPid.{VPid}
use Rattle.sys_abi.proofs.OrderLaws.{desc_total, desc_exact}
use Rattle.conn_table.specs.declared.pairs.DatagramPair.{DatagramPair}
use Rattle.conn_table.specs.Openings.{new_pair}
use Rattle.conn_table.specs.Pairs.{Pairs, end_of, is_open}
use Rattle.fd_tables.specs.declared.description.Desc.{Desc}
use Rattle.fd_tables.specs.declared.description.Object as real_object
use Rattle.fd_tables.specs.declared.description.Object.TheVariants as object
use Rattle.plain_tables.specs.declared.description.Object.TheVariants as plain
use Rattle.plain_tables.specs.Tables.{Inboxes}
use Rattle.plain_machine.specs.declared.kernel.PlainKernel.{PlainKernel}
use Rattle.plain_machine.specs.Kernel.{made_of, numbered, placed}
use Rattle.plain_machine.specs.Making.{desc_id, with_inbox, with_datagrams}
use Rattle.host_tables.specs.declared.kernel.Kernel.{Kernel}
use Rattle.host_tables.specs.declared.request.PairIds.{PairIds}
use Rattle.host_tables.specs.Conditions.{AreNewEnds}
use Rattle.host_tables.specs.Datagrams.{RealDescriptions, peer_of, told_end, IsOpenEnd, inbox_of, SameInboxes}
use Rattle.host_tables.specs.Descriptions.{Names, Addresses, seen_desc, IsTold, SameDescriptions}
use Rattle.host_tables.specs.Stands.{Given, Stands}
use Rattle.host_tables.proofs.DescriptionChanges.{IsStillTold, SameDescriptions-put, still_told}
use Rattle.host_tables.proofs.MakerChanges.{made_kept}
use Rattle.host_tables.proofs.SlotChanges.{slot_put}
use Rattle.host_makers.specs.Ends.{datagram_ends}
use Rattle.host_makers.specs.Places.{new_desc, with_two_placed}

no_third : (n : ℕ) → suc (suc n) < 2 → ⊥
no_third n h = omega (arith, h)

module _ (pairs : Pairs) (queue : ℕ) (free : map.get pairs queue ≡ None) (first second : DescId) where
  abbrev pairs' : Pairs
  pairs' = map.insert pairs queue (new_pair first second)

  there : map.get pairs' queue ≡ Some (new_pair first second)
  there = get_insert_same nat_cmp_total nat_cmp-IsAntisymmetric pairs queue (new_pair first second)

  beside : (n : ℕ) → n ≢ queue → map.get pairs' n ≡ map.get pairs n
  beside n differ = get_insert_other nat_cmp_total nat_cmp-IsAntisymmetric pairs queue
      (new_pair first second) n differ

  -- an end that is told is none of the new pair
  other_queue : (id : DescId) (n side : ℕ) → IsOpenEnd pairs id n side → n ≢ queue
  other_queue id n side is same =
      none-some (id, true) (sym (ap (option_map (told_end side)) (ap (map.get pairs) same ∙ free)) ∙ is.1)

  module _ (names : Names) (addresses : Addresses) where
    end_still : (id : DescId) (n side : ℕ) → IsOpenEnd pairs id n side
        → IsStillTold names names addresses pairs pairs' id (object.Datagram n side)
    end_still id n side is = record {
      same = ap (λ o. plain.Datagram
          (option_map_or (λ (pair : DatagramPair). (end_of (1 - side) pair).desc) o id))
          (beside n (other_queue id n side is));
      told = (is.0, ap (option_map (told_end side)) (beside n (other_queue id n side is)) ∙ is.1);
    }

    pub still_told_beside : (id : DescId) (o : real_object.Object) → IsTold names addresses pairs id o
        → IsStillTold names names addresses pairs pairs' id o
    still_told_beside id object.Console told = record { same = refl; told = told }
    still_told_beside id (object.File number offset) told = record { same = refl; told = told }
    still_told_beside id (object.Stream conn side) told = record { same = refl; told = told }
    still_told_beside id object.Socket told = record { same = refl; told = told }
    still_told_beside id (object.Listener at) told = record { same = refl; told = told }
    still_told_beside id (object.Datagram n side) told = end_still id n side told
    still_told_beside id (object.Counter value) told = record { same = refl; told = told }

    same_inbox : (id : DescId) (o : real_object.Object) → IsTold names addresses pairs id o
        → inbox_of pairs' o ≡ inbox_of pairs o
    same_inbox id object.Console told = refl
    same_inbox id (object.File number offset) told = refl
    same_inbox id (object.Stream conn side) told = refl
    same_inbox id object.Socket told = refl
    same_inbox id (object.Listener at) told = refl
    same_inbox id (object.Datagram n side) told =
        ap (option_map (λ (pair : DatagramPair). (end_of side pair).inbox))
        (beside n (other_queue id n side told))
    same_inbox id (object.Counter value) told = refl

  -- the descriptions of both ends

  module _ (flags : Flags) (real : RealDescriptions) (first_new : map.get real first ≡ None)
      (second_new : map.get real second ≡ None) (apart : first ≢ second) where
    abbrev one : Desc
    one = new_desc (object.Datagram queue 0) flags

    abbrev other : Desc
    other = new_desc (object.Datagram queue 1) flags

    abbrev with_one : RealDescriptions
    with_one = map.insert real first one

    abbrev real' : RealDescriptions
    real' = map.insert with_one second other

    at_first : map.get real' first ≡ Some one
    at_first =
        get_insert_other desc_total desc_exact with_one second other first apart
        ∙ get_insert_same desc_total desc_exact real first one

    at_second : map.get real' second ≡ Some other
    at_second = get_insert_same desc_total desc_exact with_one second other

    others : (id : DescId) → id ≢ first → id ≢ second → map.get real' id ≡ map.get real id
    others id from_first from_second =
        get_insert_other desc_total desc_exact with_one second other id from_second
        ∙ get_insert_other desc_total desc_exact real first one id from_first

    pub second_still_new : map.get with_one second ≡ None
    second_still_new =
        get_insert_other desc_total desc_exact real first one second (λ same. apart (sym same)) ∙ second_new

    module _ (names : Names) (addresses : Addresses) (inboxes : Inboxes)
        (same : SameInboxes pairs inboxes real)
        (told : (id : DescId) (d : Desc) → map.get real id ≡ Some d
        → IsTold names addresses pairs id d.object) where
      abbrev inbox_one : Inboxes
      inbox_one = map.insert inboxes first []

      abbrev inboxes' : Inboxes
      inboxes' = map.insert inbox_one second []

      abbrev inbox_at : Pairs → Option Desc → Option (List (List Byte))
      inbox_at table o = option_and_then (λ (d : Desc). inbox_of table d.object) o

      inbox_first : map.get inboxes' first ≡ Some []
      inbox_first =
          get_insert_other desc_total desc_exact inbox_one second [] first apart
          ∙ get_insert_same desc_total desc_exact inboxes first []

      inbox_second : map.get inboxes' second ≡ Some []
      inbox_second = get_insert_same desc_total desc_exact inbox_one second []

      inbox_others : (id : DescId) → id ≢ first → id ≢ second → map.get inboxes' id ≡ map.get inboxes id
      inbox_others id from_first from_second =
          get_insert_other desc_total desc_exact inbox_one second [] id from_second
          ∙ get_insert_other desc_total desc_exact inboxes first [] id from_first

      still_there : (id : DescId) (o : Option Desc) → map.get real id ≡ o → inbox_at pairs o
          ≡ inbox_at pairs' o
      still_there id None is = refl
      still_there id (Some d) is = sym (same_inbox names addresses id d.object (told id d is))

      -- what an end of the new pair has to read
      nothing_at : (side : ℕ) → (end_of side (new_pair first second)).inbox ≡ [] → (o : Option Desc)
          → o ≡ Some (new_desc (object.Datagram queue side) flags) → inbox_at pairs' o ≡ Some []
      nothing_at side nothing o is =
          ap (inbox_at pairs') is ∙ ap (option_map (λ (pair : DatagramPair). (end_of side pair).inbox)) there
          ∙ ap Some nothing

      inboxes_then : (id : DescId) → map.get inboxes' id ≡ inbox_at pairs' (map.get real' id)
      inboxes_then id = elim (same_or_other desc_total desc_exact id first) [
        | inl here ↦
            ap (map.get inboxes') here ∙ inbox_first
            ∙ sym (nothing_at 0 refl (map.get real' id) (ap (map.get real') here ∙ at_first))
        | inr from_first ↦ elim (same_or_other desc_total desc_exact id second) [
          | inl here ↦
              ap (map.get inboxes') here ∙ inbox_second
              ∙ sym (nothing_at 1 refl (map.get real' id) (ap (map.get real') here ∙ at_second))
          | inr from_second ↦
              inbox_others id from_first from_second ∙ same.each id ∙ still_there id (map.get real id) refl
              ∙ sym (ap (inbox_at pairs') (others id from_first from_second))
        ]
      ]

      abbrev object_at : RealDescriptions → DescId → Option real_object.Object
      object_at m id = option_map (λ (d : Desc). d.object) (map.get m id)

      new_described : (side : ℕ) → side < 2
          → object_at real' (end_of side (new_pair first second)).desc ≡ Some (object.Datagram queue side)
      new_described zero less = ap (option_map (λ (d : Desc). d.object)) at_first
      new_described (suc zero) less = ap (option_map (λ (d : Desc). d.object)) at_second
      new_described (suc (suc n)) less = absurd (no_third n less)

      described_there : (id new : DescId) (o : real_object.Object) → object_at real id ≡ Some o
          → map.get real new ≡ None → id ≢ new
      described_there id new o is none at =
          none-some o (sym (ap (object_at real) at ∙ ap (option_map (λ (d : Desc). d.object)) none) ∙ is)

      was_described : (id : DescId) (o : real_object.Object) → object_at real id ≡ Some o
          → object_at real' id ≡ Some o
      was_described id o is =
          ap (option_map (λ (d : Desc). d.object))
          (others id (described_there id first o is first_new) (described_there id second o is second_new))
          ∙ is

      pair_was : (n : ℕ) (pair : DatagramPair) → map.get pairs' n ≡ Some pair
          → ((n ≡ queue) × (new_pair first second ≡ pair)) ⊎ (map.get pairs n ≡ Some pair)
      pair_was n pair is = elim (same_or_other nat_cmp_total nat_cmp-IsAntisymmetric n queue) [
        | inl at ↦ inl (
          at,
          same_Some (new_pair first second) pair (sym there ∙ ap (map.get pairs') (sym at)
              ∙ is),
        )
        | inr differ ↦ inr (sym (beside n differ) ∙ is)
      ]

      pub SameInboxes-made : SameInboxes pairs' inboxes' real'
      SameInboxes-made = record {
        each = inboxes_then;
        described = λ n side pair at less opened. elim (pair_was n pair at) [
          | inl new ↦
              ap (λ (q : DatagramPair). object_at real' (end_of side q).desc) (sym new.1)
              ∙ new_described side less ∙ ap (λ m. Some (object.Datagram m side)) (sym new.0)
          | inr before ↦
              was_described (end_of side pair).desc (object.Datagram n side)
              (same.described n side pair before less opened)
        ];
        opened = λ n pair at. elim (pair_was n pair at) [
          | inl new ↦ ap is_open (sym new.1)
          | inr before ↦ same.opened n pair before
        ];
      }

-- the whole kernel

module _ (g : Given) (real : Kernel) (k : PlainKernel) (st : Stands g None real k) (p : VPid) (who : RealPid)
    (paired : map.get g.pids p.0 ≡ Some who) (queue : ℕ) (free : map.get real.datagrams queue ≡ None)
    (ids : PairIds) (new : AreNewEnds real.book ids.first ids.second) (cloexec : Bool) (flags : Flags)
    (first second : ℕ) where
  abbrev made : PlainKernel
  made = numbered k p 2

  has_made : Stands g None real made
  has_made = made_kept g None real k st p 2

  abbrev table : Pairs
  table = pairs' real.datagrams queue free ids.first ids.second

  abbrev descs : RealDescriptions
  descs = map.insert (map.insert real.book.descriptions ids.first (new_desc (object.Datagram queue 0) flags))
      ids.second (new_desc (object.Datagram queue 1) flags)

  abbrev descriptor : DescId → Descriptor
  descriptor id = record { desc = id; cloexec = cloexec }

  told_first : IsOpenEnd table ids.first queue 0
  told_first = (
    omega arith,
    ap (option_map (told_end 0))
        (there real.datagrams queue free ids.first ids.second),
  )

  told_second : IsOpenEnd table ids.second queue 1
  told_second = (
    omega arith,
    ap (option_map (told_end 1))
        (there real.datagrams queue free ids.first ids.second),
  )

  same_first : SameDescriptions g.virts g.names g.addresses table None
      (map.insert made.descriptions ids.first
      (seen_desc g.virts g.names table None ids.first (new_desc (object.Datagram queue 0) flags)))
      (map.insert real.book.descriptions ids.first (new_desc (object.Datagram queue 0) flags))
  same_first =
      SameDescriptions-put g.virts g.names g.names g.addresses g.addresses real.datagrams table None
      made.descriptions real.book.descriptions has_made.descriptions ids.first
      (new_desc (object.Datagram queue 0) flags)
      (λ q e differ is. still_told_beside real.datagrams queue free ids.first ids.second g.names g.addresses q
      e.object (has_made.descriptions.objects q e is)) tt told_first

  same_both : SameDescriptions g.virts g.names g.addresses table None
      (map.insert (map.insert made.descriptions ids.first
      (seen_desc g.virts g.names table None ids.first (new_desc (object.Datagram queue 0) flags)))
      ids.second (seen_desc g.virts g.names table None ids.second (new_desc (object.Datagram queue 1) flags)))
      descs
  same_both =
      SameDescriptions-put g.virts g.names g.names g.addresses g.addresses table table None _ _ same_first
      ids.second (new_desc (object.Datagram queue 1) flags)
      (λ q e differ is. still_told g.virts g.names g.addresses table None _ _ same_first q e is) tt
      told_second

  -- with the peers that the real ones tell
  abbrev ends_by : DescId → DescId → PlainKernel
  ends_by peer_first peer_second =
      with_inbox (placed
      (with_inbox (placed made p first ids.first cloexec (plain.Datagram peer_first) flags) ids.first [])
      p second ids.second cloexec (plain.Datagram peer_second) flags) ids.second []

  abbrev after : Kernel
  after = record real {
    book = with_two_placed real.book who (datagram_ends queue ids cloexec flags) first second;
    datagrams = table;
  }

  has_ends : Stands g None after
      (ends_by (peer_of table ids.first queue 0) (peer_of table ids.second queue 1))
  has_ends = record {
    paired = has_made.paired;
    numbered = has_made.numbered;
    processes = has_made.processes;
    descriptors =
        slot_put g.pids g.virts st.paired.inverse _ _
        (slot_put g.pids g.virts st.paired.inverse made.descriptors real.book.descriptors has_made.descriptors
        p who paired first (descriptor ids.first)) p who paired second (descriptor ids.second);
    descriptions = same_both;
    inboxes =
        SameInboxes-made real.datagrams queue free ids.first ids.second flags real.book.descriptions
        new.first_new
        new.second_new new.apart g.names g.addresses made.inboxes has_made.inboxes
        has_made.descriptions.objects;
    files = has_made.files;
    channels = has_made.channels;
    directions = has_made.directions;
    listeners = has_made.listeners;
  }

  peer_told : (id : DescId) (side : ℕ)
      → peer_of table id queue side ≡ (end_of (1 - side) (new_pair ids.first ids.second)).desc
  peer_told id side =
      ap (λ o. option_map_or (λ (pair : DatagramPair). (end_of (1 - side) pair).desc) o id)
      (there real.datagrams queue free ids.first ids.second)

  has_pair : Stands g None after (ends_by ids.second ids.first)
  has_pair =
      subst (λ (x : DescId × DescId). Stands g None after (ends_by x.0 x.1))
      (λ i. (peer_told ids.first 0 i, peer_told ids.second 1 i)) has_ends

  pub datagrams_kept : ids ≡ record { first = desc_id p (made_of k p); second = desc_id p (made_of k p + 1) }
      → Stands g None after (with_datagrams k p cloexec flags first second)
  datagrams_kept are =
      subst (λ (x : PairIds). Stands g None after (with_inbox (placed
      (with_inbox (placed made p first x.first cloexec (plain.Datagram x.second) flags) x.first [])
      p second x.second cloexec (plain.Datagram x.first) flags) x.second [])) are has_pair
