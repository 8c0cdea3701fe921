-- New descriptions through the pairs.
--     placed_kept       one that needs no address and has no messages
--     socket_kept       a socket, whose address is given then
--     channel_kept      both ends of a new channel
use Rattle.std.proofs.Common.{◌≡◌, ◌≢◌, ℕ, ◌+◌, Bool, Some, None, refl, sym, ap, ◌∙◌, subst}
use Rattle.std.specs.Prelude.{option_map, option_and_then, is_some, unwrap_or}
use Rattle.std.specs.FinMap as map
use Rattle.std.proofs.lemmas.Option.{none-some}
use Rattle.views.specs.Numbers.{Flags}
use Rattle.views.proofs.MapLaws.{get_insert_same, get_insert_other}
use Rattle.sys_abi.specs.declared.identity.ConnId.{ConnId}
use Rattle.sys_abi.specs.declared.identity.DescId.{DescId}
use Rattle.sys_abi.specs.declared.identity.RealPid.{RealPid}
use Rattle.sys_abi.specs.declared.identity.VPid.{VPid}
use Rattle.sys_abi.specs.declared.identity.VirtAddr.{VirtAddr}
use Rattle.sys_abi.proofs.OrderLaws.{desc_total, desc_exact}
use Rattle.fd_tables.specs.declared.description.Desc.{Desc}
use Rattle.fd_tables.specs.declared.description.Object as real_object
use Rattle.fd_tables.specs.declared.description.Object.TheVariants as object
use Rattle.fd_tables.specs.Slots as slots
use Rattle.plain_tables.specs.declared.description.Object.TheVariants as plain
use Rattle.plain_machine.specs.declared.kernel.PlainKernel.{PlainKernel}
use Rattle.plain_machine.specs.Channels.{open_channel, with_channel}
use Rattle.plain_machine.specs.Kernel.{made_of, numbered, placed, with_descriptor}
use Rattle.plain_machine.specs.Making.{desc_id, conn_id}
use Rattle.wire_channels.specs.Channels as channels
use Rattle.host_tables.specs.declared.kernel.Kernel.{Kernel}
use Rattle.host_tables.specs.declared.request.ChannelIds.{ChannelIds}
use Rattle.host_tables.specs.Conditions.{AreNewEnds}
use Rattle.host_tables.specs.Datagrams.{inbox_of}
use Rattle.host_tables.specs.Descriptions.{address_of, nowhere, seen_object, IsTold}
use Rattle.host_tables.specs.Network.{kind_of}
use Rattle.host_tables.specs.Stands.{Given, Stands, open_conn, with_conn, with_name}
use Rattle.host_tables.proofs.ChannelChanges.{channel_made}
use Rattle.host_tables.proofs.DescriptionChanges.{IsStillTold, HasNoInbox, SameDescriptions-put, SameInboxes-put, description_new}
use Rattle.host_tables.proofs.MakerChanges.{made_kept}
use Rattle.host_tables.proofs.SlotChanges.{put_kept}
use Rattle.host_makers.specs.declared.channels.StreamEnd.{StreamEnd}
use Rattle.host_makers.specs.Ends.{with_channel_ends, channel_ends}
use Rattle.host_makers.specs.Places.{new_desc, with_placed, with_two_placed}

-- these have no messages

pub counter_empty : (value : ℕ) → HasNoInbox (object.Counter value)
counter_empty value queue side same = cc

pub stream_empty : (conn : ConnId) (side : ℕ) → HasNoInbox (object.Stream conn side)
stream_empty conn side queue at same = cc

pub socket_empty : HasNoInbox object.Socket
socket_empty queue side same = cc

module _ (g : Given) (real : Kernel) (k : PlainKernel) (st : Stands g None real k) (p : VPid) (who : RealPid)
    (paired : map.get g.pids p.0 ≡ Some who) (fd : ℕ) (id : DescId) (cloexec : Bool)
    (new : map.get real.book.descriptions id ≡ None) (flags : Flags) where
  abbrev at_slot : Kernel
  at_slot = record real {
    book = record real.book {
      descriptors = map.insert real.book.descriptors (slots.slot who fd)
          (record { desc = id; cloexec = cloexec });
    };
  }

  abbrev then_slot : PlainKernel
  then_slot = with_descriptor k p fd (record { desc = id; cloexec = cloexec })

  slot_kept : Stands g None at_slot then_slot
  slot_kept = put_kept g None real k st p who paired fd (record { desc = id; cloexec = cloexec })

  pub placed_kept : (o : real_object.Object) → HasNoInbox o → IsTold g.names g.addresses real.datagrams id o
      → Stands g None
      (record real { book = with_placed real.book (slots.slot who fd) id (new_desc o flags) cloexec })
      (placed k p fd id cloexec (seen_object g.names real.datagrams id o) flags)
  placed_kept o empty told =
      description_new g None at_slot then_slot slot_kept id (new_desc o flags) tt told new empty

  -- a socket

  module _ (address : VirtAddr) where
    abbrev named : Given
    named = with_name g id address

    abbrev socket : Desc
    socket = new_desc object.Socket flags

    own_address : map.get named.names id ≡ Some address
    own_address = get_insert_same desc_total desc_exact g.names id address

    other_address : (q : DescId) → q ≢ id → map.get named.names q ≡ map.get g.names q
    other_address q differ = get_insert_other desc_total desc_exact g.names id address q differ

    still_by : (q : DescId) → q ≢ id → (o : real_object.Object)
        → IsTold g.names g.addresses real.datagrams q o
        → IsStillTold g.names named.names g.addresses real.datagrams real.datagrams q o
    still_by q differ object.Console told = record { same = refl; told = told }
    still_by q differ (object.File number offset) told = record { same = refl; told = told }
    still_by q differ (object.Stream conn side) told = record { same = refl; told = told }
    still_by q differ object.Socket told = record {
      same = ap (λ o. plain.Socket (unwrap_or o nowhere)) (other_address q differ);
      told = ap is_some (other_address q differ) ∙ told;
    }
    still_by q differ (object.Listener at) told = record {
      same = ap (λ o. plain.Listener (unwrap_or o nowhere)) (other_address q differ);
      told = (
        ap is_some (other_address q differ) ∙ told.0,
        ap (λ o. map.get g.addresses (unwrap_or o nowhere)) (other_address q differ) ∙ told.1,
      );
    }
    still_by q differ (object.Datagram queue side) told = record { same = refl; told = told }
    still_by q differ (object.Counter value) told = record { same = refl; told = told }

    abbrev after_socket : Kernel
    after_socket = record real { book = with_placed real.book (slots.slot who fd) id socket cloexec }

    abbrev then_socket : PlainKernel
    then_socket = placed k p fd id cloexec (plain.Socket (address_of named.names id)) flags

    described : Stands named None after_socket then_socket
    described = record {
      paired = st.paired;
      numbered = st.numbered;
      processes = st.processes;
      descriptors = slot_kept.descriptors;
      descriptions = SameDescriptions-put g.virts g.names named.names g.addresses g.addresses real.datagrams
          real.datagrams None k.descriptions real.book.descriptions st.descriptions id socket
          (λ q e differ is. still_by q differ e.object (st.descriptions.objects q e is)) tt
          (ap is_some own_address);
      inboxes = SameInboxes-put real.datagrams k.inboxes real.book.descriptions st.inboxes id socket
          (ap (option_and_then (λ (x : Desc). inbox_of real.datagrams x.object)) new)
          (λ queue side was. absurd (none-some _ (sym (ap (option_map (λ (x : Desc). x.object)) new) ∙ was)));
      files = st.files;
      channels = st.channels;
      directions = st.directions;
      listeners = st.listeners;
    }

    pub socket_kept : Stands named None after_socket (placed k p fd id cloexec (plain.Socket address) flags)
    socket_kept =
        subst (λ a. Stands named None after_socket (placed k p fd id cloexec (plain.Socket a) flags))
        (ap (λ o. unwrap_or o nowhere) own_address) described

-- both ends of a new channel

module _ (g : Given) (real : Kernel) (k : PlainKernel) (st : Stands g None real k) (p : VPid) (who : RealPid)
    (paired : map.get g.pids p.0 ≡ Some who) (first second : ℕ) (kind : ℕ) (cloexec : Bool)
    (one other : StreamEnd) (ids : ChannelIds) (new_channel : map.get real.net.channels ids.channel ≡ None)
    (new : AreNewEnds real.book ids.first ids.second) where
  abbrev given : Given
  given = with_conn g (open_conn ids.channel kind None None)

  abbrev joined : Kernel
  joined = record real {
    net = record real.net { channels = map.insert real.net.channels ids.channel channels.new_channel };
  }

  abbrev then_joined : PlainKernel
  then_joined = with_channel (numbered k p 3) ids.channel (open_channel (kind_of kind) None None)

  is_joined : Stands given None joined then_joined
  is_joined =
      channel_made g real (numbered k p 3) (made_kept g None real k st p 3) ids.channel kind None None
      new_channel

  abbrev with_one : PlainKernel
  with_one = placed then_joined p first ids.first cloexec (plain.Stream ids.channel one.side) one.flags

  abbrev with_both : PlainKernel
  with_both = placed with_one p second ids.second cloexec (plain.Stream ids.channel other.side) other.flags

  abbrev one_placed : Kernel
  one_placed = record joined {
    book = with_placed real.book (slots.slot who first) ids.first
        (new_desc (object.Stream ids.channel one.side) one.flags) cloexec;
  }

  has_one : Stands given None one_placed with_one
  has_one =
      placed_kept given joined then_joined is_joined p who paired first ids.first cloexec new.first_new
      one.flags
      (object.Stream ids.channel one.side) (stream_empty ids.channel one.side) tt

  abbrev both_placed : Kernel
  both_placed = record joined {
    book = with_two_placed real.book who (channel_ends ids cloexec one other)
        first second;
  }

  has_both : Stands given None both_placed with_both
  has_both =
      placed_kept given one_placed with_one has_one p who paired second ids.second cloexec
      (get_insert_other desc_total desc_exact real.book.descriptions ids.first
      (new_desc (object.Stream ids.channel one.side) one.flags) ids.second (λ same. new.apart (sym same))
      ∙ new.second_new) other.flags
      (object.Stream ids.channel other.side) (stream_empty ids.channel other.side) tt

  pub channel_kept : ids ≡ record {
    channel = conn_id p (made_of k p);
    first = desc_id p (made_of k p + 1);
    second = desc_id p (made_of k p + 2);
  }
      → Stands given None both_placed (with_channel_ends k p (kind_of kind) cloexec one other first second)
  channel_kept are =
      subst (λ (x : ChannelIds). Stands given None both_placed
      (placed (placed (with_channel (numbered k p 3) x.channel (open_channel (kind_of kind) None None))
      p first x.first cloexec (plain.Stream x.channel one.side) one.flags)
      p second x.second cloexec (plain.Stream x.channel other.side) other.flags)) are has_both
