-- A cut stands for its kernel part, while agents and kept owners hold what they do of it.
--     stands_held, held_stands      so it is of every cut
use Rattle.std.proofs.Common.{◌≡◌, ◌<◌, ◌-◌, ℕ, true, List, Option, Some, None, refl, sym, ap, subst, ◌∙◌}
use Rattle.std.specs.Prelude.{option_map, option_and_then, slice_index_or}
use Rattle.std.specs.FinMap as map
use Rattle.std.proofs.lemmas.Option.{same_Some, none-some}
use Rattle.views.specs.Numbers.{Byte}
use Rattle.views.specs.Seen.{Agree}
use Rattle.sys_abi.specs.declared.identity.DescId.{DescId}
use Rattle.sys_abi.specs.declared.identity.Dir.{Dir}
use Rattle.sys_abi.specs.declared.identity.RealPid.{RealPid}
use Rattle.fd_tables.specs.declared.description.Desc.{Desc}
use Rattle.fd_tables.specs.declared.description.Object.{Object}
use Rattle.fd_tables.specs.Parts.{with_owner}
use Rattle.plain_tables.specs.declared.channel.Direction as plain
use Rattle.plain_machine.specs.declared.kernel.PlainKernel.{PlainKernel}
use Rattle.wire_channels.specs.Channels.{Channels, direction_at}
use Rattle.wire_channels.specs.Directions.{Direction}
use Rattle.wire_channels.specs.Frames.{Flags, Frame, flags_of}
use Rattle.wire_net.specs.Networks.{Network}
use Rattle.wire_net.specs.Whereabouts.{Agents, whereabouts}
use Rattle.wire_net.proofs.Streams.{whereabouts-none}
use Rattle.host_tables.specs.declared.system.System.{System}
use Rattle.host_tables.specs.Datagrams.{inbox_of, SameInboxes}
use Rattle.host_tables.specs.Descriptions.{Stage, IsTold, SameDescriptions, seen_desc, seen_object}
use Rattle.host_tables.specs.Network.{SameDirection, SameDirections}
use Rattle.host_tables.specs.Numbers.{number_of, IsKnown}
use Rattle.host_tables.specs.Processes.{SameDescriptors}
use Rattle.host_tables.specs.Stands.{Given}
use Rattle.host_tables.specs.Systems.{given_of, StandsFor}
use Rattle.host_tables.proofs.DirectionChanges.{SameChannels-open}
use Rattle.leader_vote.specs.Owners.{Owners, kept_owner}
use Rattle.cut_stages.specs.Cuts.{changed_in, IsCut}
use Rattle.cut_stages.specs.Holdings.{IsHeldBy}
use Rattle.cut_stages.proofs.Arriving.{it_was, side_flags, flags_on, ends_on}

abbrev object_in : Option Desc → Option Object
object_in found = option_map (λ (d : Desc). d.object) found

ownerless_object : (found : Option Desc) → object_in (option_map (with_owner None) found) ≡ object_in found
ownerless_object None = refl
ownerless_object (Some d) = refl

by_object : (f : Object → Option (List (List Byte))) (found : Option Desc)
    → option_and_then (λ (d : Desc). f d.object) found ≡ option_and_then f (object_in found)
by_object f None = refl
by_object f (Some d) = refl

module _ (s : System) (next_id : ℕ) (k : PlainKernel) (owners : Owners) (agents : Agents)
    (cut : IsCut s next_id k owners agents) where
  abbrev before : System
  before = cut.before

  abbrev g : Given
  g = given_of before

  abbrev stage : Stage
  stage = record { agents = agents; owners = owners }

  abbrev channels : Channels
  channels = s.kernel.net.channels

  abbrev net : Network
  net = record before.kernel.net { channels = channels }

  same_objects : (id : DescId)
      → object_in (map.get s.kernel.book.descriptions id) ≡ object_in (map.get before.kernel.book.descriptions id)
  same_objects id =
      sym (ownerless_object (map.get s.kernel.book.descriptions id))
      ∙ ap object_in (cut.book.descriptions id)
      ∙ ownerless_object (map.get before.kernel.book.descriptions id)

  -- what was there for a description that is there now
  record Before (id : DescId) (e : Desc) : Type 0 where
    desc : Desc
    found : map.get before.kernel.book.descriptions id ≡ Some desc
    same : with_owner None e ≡ with_owner None desc
    owner : kept_owner owners id ≡ desc.owner

  it_was_there : (id : DescId) (e : Desc) → map.get s.kernel.book.descriptions id ≡ Some e → Before id e
  it_was_there id e at = by (map.get before.kernel.book.descriptions id) refl
    where
      by : (was : Option Desc) → map.get before.kernel.book.descriptions id ≡ was → Before id e
      by None none = absurd (none-some (with_owner None e)
          (sym (sym (ap (option_map (with_owner None)) at) ∙ cut.book.descriptions id
          ∙ ap (option_map (with_owner None)) none)))
      by (Some d) found = record {
        desc = d;
        found = found;
        same = same_Some (with_owner None e) (with_owner None d)
            (sym (ap (option_map (with_owner None)) at) ∙ cut.book.descriptions id
            ∙ ap (option_map (with_owner None)) found);
        owner = ap (option_and_then (λ (o : Option RealPid). o))
            (cut.kept id ∙ ap (option_map (λ (x : Desc). x.owner)) found);
      }

  seen_still : (id : DescId) (now was : Option Desc) → map.get s.kernel.book.descriptions id ≡ now
      → map.get before.kernel.book.descriptions id ≡ was
      → option_map (seen_desc g.virts g.names before.kernel.datagrams None id) was
      ≡ option_map (seen_desc g.virts g.names before.kernel.datagrams (Some stage) id) now
  seen_still id None None at found = refl
  seen_still id None (Some d) at found =
      absurd (none-some (with_owner None d) (sym (ap (option_map (with_owner None)) at)
      ∙ cut.book.descriptions id ∙ ap (option_map (with_owner None)) found))
  seen_still id (Some e) was at found =
      let b = it_was_there id e at in
      ap (option_map (seen_desc g.virts g.names before.kernel.datagrams None id)) (sym found ∙ b.found)
      ∙ (λ i. Some (record {
        object = seen_object g.names before.kernel.datagrams id (sym b.same i).object;
        flags = (sym b.same i).flags;
        owner = number_of g.virts 0 (sym b.owner i);
      }))

  held_descriptions : SameDescriptions g.virts g.names g.addresses before.kernel.datagrams (Some stage)
      k.descriptions s.kernel.book.descriptions
  held_descriptions =
      let st = cut.wrapped.stands.tables in record {
        each = λ id. st.descriptions.each id
            ∙ seen_still id (map.get s.kernel.book.descriptions id) (map.get before.kernel.book.descriptions id) refl refl;
        owners = λ id e at.
            let b = it_was_there id e at in
            subst (IsKnown g.virts) (sym b.owner) (st.descriptions.owners id b.desc b.found);
        objects = λ id e at.
            let b = it_was_there id e at in
            subst (IsTold g.names g.addresses before.kernel.datagrams id)
            (ap (λ (d : Desc). d.object) (sym b.same)) (st.descriptions.objects id b.desc b.found);
      }

  held_inboxes : SameInboxes before.kernel.datagrams k.inboxes s.kernel.book.descriptions
  held_inboxes =
      let st = cut.wrapped.stands.tables in record {
        each = λ id. st.inboxes.each id
            ∙ by_object (inbox_of before.kernel.datagrams) (map.get before.kernel.book.descriptions id)
            ∙ ap (option_and_then (inbox_of before.kernel.datagrams)) (sym (same_objects id))
            ∙ sym (by_object (inbox_of before.kernel.datagrams) (map.get s.kernel.book.descriptions id));
        described = λ queue side pair at below opened.
            same_objects _ ∙ st.inboxes.described queue side pair at below opened;
        opened = st.inboxes.opened;
      }

  held_agree : (d : Dir) → d.side < 2 → (o : Option plain.Direction) (q q' : Option Direction)
      → direction_at before.kernel.net.channels d ≡ q → option_map flags_of q' ≡ option_map flags_of q
      → whereabouts net agents d ≡ whereabouts before.kernel.net map.empty d
      → Agree (SameDirection before.kernel.net None d) o q
      → Agree (SameDirection net (Some stage) d) o q'
  held_agree d below None None None at flags bytes h = tt
  held_agree d below None None (Some y') at flags bytes h = none-some (flags_of y') (sym flags)
  held_agree d below None (Some y) q' at flags bytes h = absurd h
  held_agree d below (Some x) None q' at flags bytes h = absurd h
  held_agree d below (Some x) (Some y) None at flags bytes h = absurd (none-some (flags_of y) flags)
  held_agree d below (Some x) (Some y) (Some y') at flags bytes h =
      let alike = same_Some (flags_of y') (flags_of y) flags in record {
        left = h.left ∙ sym bytes;
        ended = h.ended ∙ sym (ap (λ (f : Flags). f.is_ended) alike);
        unread = h.unread ∙ sym (ap (λ (f : Flags). f.is_unread) alike);
        arrived = tt;
      }

  same_net : s.kernel.net ≡ net
  same_net = ap (λ (x : System). x.kernel.net) cut.rest

  held_bytes : (d : Dir) → d.side < 2 → whereabouts net agents d ≡ whereabouts before.kernel.net map.empty d
  held_bytes d below =
      ap (λ t. whereabouts t agents d) (sym same_net) ∙ cut.bytes d below ∙ sym (whereabouts-none before.kernel.net d)

  held_directions : SameDirections net (Some stage) k.directions
  held_directions =
      let st = cut.wrapped.stands.tables in record {
        at = λ d below.
            held_agree d below (map.get k.directions d) (direction_at before.kernel.net.channels d)
            (direction_at channels d) refl (flags_on before.kernel.net.channels channels cut.frames d)
            (held_bytes d below) (st.directions.at d below);
        no_other = st.directions.no_other;
        closed = λ id channel side at below shut.
            let was = it_was before.kernel.net.channels channels cut.frames id channel at in
            let silent = st.directions.closed id was.channel side was.found below
            (ap (λ (f : Frame). slice_index_or f.open_ends side true) (sym was.frame) ∙ shut) in record {
              ended = ap (λ (f : Flags). f.is_ended)
                  (side_flags before.kernel.net.channels channels cut.frames side channel was.channel was.frame)
                  ∙ silent.ended;
              unread = ap (λ (f : Flags). f.is_unread)
                  (side_flags before.kernel.net.channels channels cut.frames (1 - side) channel was.channel was.frame)
                  ∙ silent.unread;
            };
      }

  stands_changed : StandsFor (changed_in before s.kernel.book channels) (Some stage) k
  stands_changed =
      let st = cut.wrapped.stands.tables in
      let exact = cut.wrapped.stands.exact in record {
        kernel = cut.wrapped.stands.kernel;
        tables = record {
          paired = st.paired;
          numbered = st.numbered;
          processes = st.processes;
          descriptors = subst (SameDescriptors g.pids g.virts k.descriptors) (sym cut.book.descriptors) st.descriptors;
          descriptions = held_descriptions;
          inboxes = held_inboxes;
          files = st.files;
          channels = SameChannels-open before.conns.conns k.channels before.kernel.net.channels channels st.channels
              (ends_on before.kernel.net.channels channels cut.frames);
          directions = held_directions;
          listeners = st.listeners;
        };
        exact = record {
          makers = exact.makers;
          numbers = exact.numbers;
          places = exact.places;
          names = exact.names;
          open_ends = λ id. exact.open_ends id ∙ sym (ends_on before.kernel.net.channels channels cut.frames id);
          entries = exact.entries;
        };
        room = cut.wrapped.stands.room;
      }

  pub stands_held : StandsFor s (Some stage) k
  stands_held = subst (λ x. StandsFor x (Some stage) k) (sym cut.rest) stands_changed

  pub held_stands : IsHeldBy s k agents
  held_stands = record { owners = owners; stands = stands_held }
