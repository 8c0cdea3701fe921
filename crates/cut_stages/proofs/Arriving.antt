-- A system whose channels are filled again stands for the kernel part with all bytes arrived.
--     arrived_whole      that kernel part is whole
--     resumed            with its owners back the system stands for it
use Rattle.std.proofs.Common.{◌≡◌, ◌<◌, ◌-◌, ℕ, Bool, true, false, List, Option, Some, None, refl, sym, ap, subst, ◌∙◌, arith}
use Rattle.std.specs.Prelude.{◌==◌, is_some, length, option_map, slice_index_or, if◌then◌else◌}
use Rattle.std.specs.FinMap as map
use Rattle.std.proofs.lemmas.Option.{same_Some, none-some}
use Rattle.views.specs.Maps.{map_values}
use Rattle.views.specs.Seen.{Agree}
use Rattle.views.proofs.MapValues.{get-map_values}
use Rattle.sys_abi.specs.declared.identity.ConnId.{ConnId}
use Rattle.sys_abi.specs.declared.identity.Dir.{Dir}
use Rattle.plain_tables.specs.declared.channel.Direction as plain
use Rattle.plain_tables.specs.Tables.{Directions}
use Rattle.plain_tables.specs.Valid.Channels.{AreChannels, IsDirection}
use Rattle.plain_machine.specs.declared.kernel.PlainKernel.{PlainKernel}
use Rattle.plain_machine.specs.Kernels.{IsKernel}
use Rattle.plain_machine.specs.Tests.{all_arrived}
use Rattle.wire_channels.specs.declared.channel.Channel.{Channel}
use Rattle.wire_channels.specs.Answers.{received_on}
use Rattle.wire_channels.specs.Channels.{Channels, direction_of, direction_at}
use Rattle.wire_channels.specs.Directions.{Direction}
use Rattle.wire_channels.specs.Frames.{Flags, Frame, flags_of, frame_of, SameFrames}
use Rattle.wire_net.specs.Networks.{Network}
use Rattle.wire_net.specs.Whereabouts.{stream_on, whereabouts}
use Rattle.wire_net.proofs.Streams.{whereabouts-none}
use Rattle.host_tables.specs.declared.system.System.{System}
use Rattle.host_tables.specs.Network.{SameDirection, SameDirections}
use Rattle.host_tables.proofs.DirectionChanges.{SameChannels-open}
use Rattle.wrap_names.specs.Wrapping.{IsWrapped}
use Rattle.wrap_names.proofs.Callers.{mapped_some}
use Rattle.leader_vote.specs.Owners.{Owners, with_owners}
use Rattle.cut_stages.specs.Cuts.{with_book, put_back, changed_in}
use Rattle.seen_kernel.specs.Seen.{all_in}
use Rattle.cut_stages.specs.Resumptions.{IsFilled}
use Rattle.cut_stages.proofs.GivenUp.{given_up_book}

-- the kernel part
some_mapped : (o : Option plain.Direction) → is_some (option_map all_arrived o) ≡ is_some o
some_mapped None = refl
some_mapped (Some x) = refl

module _ (k : PlainKernel) (whole : IsKernel k) where
  was : (d : Dir) (x : plain.Direction) → map.get (all_in k).directions d ≡ Some x
      → (y : plain.Direction) × ((map.get k.directions d ≡ Some y) × (all_arrived y ≡ x))
  was d x at = mapped_some all_arrived (map.get k.directions d) x (sym (get-map_values all_arrived
      k.directions d) ∙ at)

  arrived_direction : (y : plain.Direction) → IsDirection y → IsDirection (all_arrived y)
  arrived_direction y is = record {
    arrived = omega arith;
    size = is.size;
    bytes = is.bytes;
    unread = is.unread;
  }

  arrived_channels : AreChannels k.channels (all_in k).directions
  arrived_channels = record {
    count = whole.channels.count;
    sides = λ at. ap is_some (get-map_values all_arrived k.directions at)
        ∙ some_mapped (map.get k.directions at) ∙ whole.channels.sides at;
    addresses = whole.channels.addresses;
    open_end = whole.channels.open_end;
    each = λ at x found.
        let y = was at x found in
        subst IsDirection y.1.1 (arrived_direction y.0 (whole.channels.each at y.0 y.1.0));
    pipes = λ conn channel x known pipe found.
        let y = was _ x found in
        ap (λ (z : plain.Direction). z.left) (sym y.1.1) ∙ whole.channels.pipes conn channel y.0 known pipe
        y.1.0;
    closed = λ conn side channel known below shut.
        let before = whole.channels.closed conn side channel known below shut in record {
          ended = λ x found.
              let y = was _ x found in
              ap (λ (z : plain.Direction). z.ended) (sym y.1.1) ∙ before.ended y.0 y.1.0;
          unread = λ x found.
              let y = was _ x found in
              ap (λ (z : plain.Direction). z.unread) (sym y.1.1) ∙ before.unread y.0 y.1.0;
        };
  }

  pub arrived_whole : IsKernel (all_in k)
  arrived_whole = record {
    numbers = whole.numbers;
    processes = whole.processes;
    makers = whole.makers;
    parents = whole.parents;
    files = whole.files;
    open_files = whole.open_files;
    descriptors = whole.descriptors;
    descriptions = whole.descriptions;
    holders = whole.holders;
    made = whole.made;
    channels = arrived_channels;
    streams = whole.streams;
    listeners = whole.listeners;
    addresses = whole.addresses;
    hosts = whole.hosts;
    inboxes = whole.inboxes;
    counters = whole.counters;
  }

-- channels with the same frames
module _ (m m' : Channels) (same : SameFrames m m') where
  pub record Was (id : ConnId) (after : Channel) : Type 0 where
    pub channel : Channel
    pub found : map.get m id ≡ Some channel
    pub frame : frame_of after ≡ frame_of channel

  pub it_was : (id : ConnId) (after : Channel) → map.get m' id ≡ Some after → Was id after
  it_was id after at =
      let found = mapped_some frame_of (map.get m id) (frame_of after) (sym (same id) ∙ ap (option_map
      frame_of) at) in
      record { channel = found.0; found = found.1.0; frame = sym found.1.1 }

  pub side_flags : (side : ℕ) (a b : Channel) → frame_of a ≡ frame_of b
      → flags_of (direction_of side a) ≡ flags_of (direction_of side b)
  side_flags side a b alike = choice (side == 0)
    where
      choice : (first : Bool) → flags_of (if first then a.first else a.second)
          ≡ flags_of (if first then b.first else b.second)
      choice true = ap (λ (frame : Frame). frame.first) alike
      choice false = ap (λ (frame : Frame). frame.second) alike

  pub flags_on : (d : Dir) → option_map flags_of (direction_at m' d) ≡ option_map flags_of (direction_at m d)
  flags_on d = by (map.get m d.conn) (map.get m' d.conn) (same d.conn)
    where
      by : (o q : Option Channel) → option_map frame_of q ≡ option_map frame_of o
          → option_map flags_of (option_map (direction_of d.side) q)
          ≡ option_map flags_of (option_map (direction_of d.side) o)
      by None None alike = refl
      by None (Some y) alike = absurd (none-some (frame_of y) (sym alike))
      by (Some x) None alike = absurd (none-some (frame_of x) alike)
      by (Some x) (Some y) alike =
          ap Some (side_flags d.side y x (same_Some (frame_of y) (frame_of x) alike))

  pub ends_on : (id : ConnId) → option_map (λ (c : Channel). c.open_ends) (map.get m' id)
      ≡ option_map (λ (c : Channel). c.open_ends) (map.get m id)
  ends_on id = by (map.get m id) (map.get m' id) (same id)
    where
      by : (o q : Option Channel) → option_map frame_of q ≡ option_map frame_of o
          → option_map (λ (c : Channel). c.open_ends) q ≡ option_map (λ (c : Channel). c.open_ends) o
      by None None alike = refl
      by None (Some y) alike = absurd (none-some (frame_of y) (sym alike))
      by (Some x) None alike = absurd (none-some (frame_of x) alike)
      by (Some x) (Some y) alike =
          ap (λ (f : Frame). Some f.open_ends) (same_Some (frame_of y) (frame_of x) alike)

-- directions
module _ (t t' : Network) (virt : Directions) (same : SameFrames t.channels t'.channels)
    (bytes : (d : Dir) → d.side < 2 → whereabouts t' map.empty d ≡ stream_on (direction_at t.channels d))
    (quiet : (d : Dir) → d.side < 2
    → received_on (direction_at t'.channels d) ≡ stream_on (direction_at t'.channels d))
    (stands : SameDirections t None virt) where
  abbrev IsSameAt : Network → Dir → plain.Direction → Direction → Type 0
  IsSameAt t d = SameDirection t None d

  arrived_agree : (d : Dir) → d.side < 2 → (o : Option plain.Direction) (q q' : Option Direction)
      → direction_at t.channels d ≡ q → direction_at t'.channels d ≡ q'
      → option_map flags_of q' ≡ option_map flags_of q → Agree (IsSameAt t d) o q
      → Agree (IsSameAt t' d) (option_map all_arrived o) q'
  arrived_agree d below None None None at at' flags h = tt
  arrived_agree d below None None (Some y') at at' flags h = none-some (flags_of y') (sym flags)
  arrived_agree d below None (Some y) q' at at' flags h = absurd h
  arrived_agree d below (Some x) None q' at at' flags h = absurd h
  arrived_agree d below (Some x) (Some y) None at at' flags h = absurd (none-some (flags_of y) flags)
  arrived_agree d below (Some x) (Some y) (Some y') at at' flags h =
      let alike = same_Some (flags_of y') (flags_of y) flags in
      let left : x.left ≡ whereabouts t' map.empty d = h.left ∙ whereabouts-none t d ∙ sym (bytes d below) in
      record {
        left = left;
        ended = h.ended ∙ sym (ap (λ (f : Flags). f.is_ended) alike);
        unread = h.unread ∙ sym (ap (λ (f : Flags). f.is_unread) alike);
        arrived = ap (λ (xs : List ℕ). length xs)
            (left ∙ whereabouts-none t' d ∙ sym (quiet d below) ∙ ap received_on at');
      }

  pub arrived_directions : SameDirections t' None (map_values all_arrived virt)
  arrived_directions = record {
    at = λ d below.
        subst (λ o. Agree (IsSameAt t' d) o (direction_at t'.channels d)) (sym (get-map_values all_arrived
        virt d))
        (arrived_agree d below (map.get virt d) (direction_at t.channels d) (direction_at t'.channels d)
        refl refl
        (flags_on t.channels t'.channels same d) (stands.at d below));
    no_other = λ d above. get-map_values all_arrived virt d ∙ ap (option_map all_arrived) (stands.no_other
        d above);
    closed = λ id channel side at below shut.
        let before = it_was t.channels t'.channels same id channel at in
        let silent = stands.closed id before.channel side before.found below
        (ap (λ (f : Frame). slice_index_or f.open_ends side true) (sym before.frame) ∙ shut) in record {
          ended = ap (λ (f : Flags). f.is_ended)
              (side_flags t.channels t'.channels same side channel before.channel before.frame) ∙
              silent.ended;
          unread = ap (λ (f : Flags). f.is_unread)
              (side_flags t.channels t'.channels same (1 - side) channel before.channel before.frame) ∙
              silent.unread;
        };
  }

-- the system
module _ (s : System) (next_id : ℕ) (k : PlainKernel) (owners : Owners) (is : IsFilled s next_id k owners)
  where
    abbrev before : System
    before = is.cut.before

    abbrev channels : Channels
    channels = s.kernel.net.channels

    abbrev after : System
    after = changed_in before before.kernel.book channels

    abbrev net : Network
    net = record before.kernel.net { channels = channels }

    same_net : s.kernel.net ≡ net
    same_net = ap (λ (x : System). x.kernel.net) is.cut.rest

    stands_after : IsWrapped after next_id (all_in k)
    stands_after =
        let st = is.cut.wrapped.stands.tables in
        let exact = is.cut.wrapped.stands.exact in record {
          stands = record {
            kernel = arrived_whole k is.cut.wrapped.stands.kernel;
            tables = record {
              paired = st.paired;
              numbered = st.numbered;
              processes = st.processes;
              descriptors = st.descriptors;
              descriptions = st.descriptions;
              inboxes = st.inboxes;
              files = st.files;
              channels = SameChannels-open before.conns.conns k.channels before.kernel.net.channels channels
                  st.channels
                  (ends_on before.kernel.net.channels channels is.cut.frames);
              directions = arrived_directions before.kernel.net net k.directions is.cut.frames
                  (λ d below. ap (λ t. whereabouts t map.empty d) (sym same_net) ∙ is.cut.bytes d below)
                  is.quiet
                  st.directions;
              listeners = st.listeners;
            };
            exact = record {
              makers = exact.makers;
              numbers = exact.numbers;
              places = exact.places;
              names = exact.names;
              open_ends = λ id. exact.open_ends id
                  ∙ sym (ends_on before.kernel.net.channels channels is.cut.frames id);
              entries = exact.entries;
            };
            room = is.cut.wrapped.stands.room;
          };
          next = is.cut.wrapped.next;
        }

    pub resumed : IsWrapped (put_back owners s) next_id (all_in k)
    resumed =
        subst (λ x. IsWrapped x next_id (all_in k))
        (sym (ap (λ (x : System). with_book x (with_owners owners s.kernel.book)) is.cut.rest
        ∙ ap (λ b. changed_in before b channels) (given_up_book s next_id k owners map.empty is.cut)))
        stands_after
