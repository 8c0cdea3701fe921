-- What the drain asks of the agents and of the room, once all have voted.
--     agents_for       each end of a channel has an agent, or is closed
--     room_naming      the room names each direction of the network once
--     drain_begun      the drain begins with the bytes where they were
use Rattle.std.proofs.Common.{◌≡◌, ◌<◌, ◌≤◌, ◌-◌, ℕ, Bool, true, false, cond, ◌||◌, List, [], ◌∷◌, map as each, Option, Some, None, refl, sym, ap, subst, ◌∙◌, arith}
use Rattle.std.specs.Prelude.{IsSome, IfSome, is_some, option_map, All}
use Rattle.std.specs.Option.{option_and_then}
use Rattle.std.specs.List.{list_any}
use Rattle.std.specs.Ordering.{eq_by_cmp}
use Rattle.std.specs.FinMap as map
use Rattle.std.proofs.lemmas.List.Elements.{All-map, All-nil, All-cons, All-head, All-tail}
use Rattle.std.proofs.lemmas.Option.{same_Some, none-some}
use Rattle.views.proofs.MapLaws.{true_false}
use Rattle.sys_abi.specs.declared.identity.ConnId.{ConnId}
use Rattle.sys_abi.specs.declared.identity.DescId.{DescId}
use Rattle.sys_abi.specs.declared.identity.Dir.{Dir}
use Rattle.sys_abi.specs.declared.identity.RealPid.{RealPid}
use Rattle.sys_abi.specs.declared.identity.VPid.{VPid}
use Rattle.sys_abi.specs.Orders.{dir_cmp}
use Rattle.fd_tables.specs.declared.description.Desc.{Desc}
use Rattle.fd_tables.specs.Parts.{with_owner}
use Rattle.fd_book.specs.Books.{IsWhole}
use Rattle.drain_core.specs.Drains.{Notes, Fits, has_notes}
use Rattle.drain_core.specs.Holding.{agents_of}
use Rattle.drain_core.specs.Openings.{IsNaming}
use Rattle.plain_machine.specs.declared.kernel.PlainKernel.{PlainKernel}
use Rattle.plain_machine.specs.Kernel.{is_live}
use Rattle.wire_channels.specs.declared.channel.Channel.{Channel}
use Rattle.wire_channels.specs.Channels.{Channels, direction_of, direction_at}
use Rattle.wire_net.specs.declared.agents.AgentEnd.{AgentEnd}
use Rattle.wire_net.specs.CutRooms.{Named, RoomView}
use Rattle.wire_net.specs.Ends.{IsFor, end_of, agent_of}
use Rattle.wire_net.specs.Noted.{Apart}
use Rattle.wire_net.specs.Reserves.{Reserve}
use Rattle.wire_net.specs.Whereabouts.{stream_on, whereabouts}
use Rattle.host_tables.specs.declared.system.System.{System}
use Rattle.host_tables.specs.Network.{IsSilent}
use Rattle.host_tables.specs.Systems.{given_of}
use Rattle.leader_vote.specs.Agents.{names_end, IsAgent, IsActedFor, place_of}
use Rattle.leader_vote.specs.Directions.{is_listed, standing_in, standing_of}
use Rattle.leader_vote.specs.Owners.{Owners}
use Rattle.leader_vote.specs.Voters.{Voters, all_voted}
use Rattle.cut_stages.specs.Drains.{IsDraining}
use Rattle.cut_stages.specs.Rounds.{AreLed, IsAlive}
use Rattle.ckpt_stages.specs.Suspensions.{IsSuspended}
use Rattle.ckpt_stages.proofs.ClosedEnds.{closed_silent}
use Rattle.ckpt_stages.proofs.Leading.{all_led, leader_alive}
use Rattle.cut_stages.proofs.NamedEnds.{side_of, end_found, its_agent}

-- lists of directions, each with a number
listed_named : (m : Channels) (d : Dir) (dirs : List Dir)
    → list_any (λ (named : Named). eq_by_cmp dir_cmp named.0 d) (each (standing_of m) dirs) ≡ is_listed d dirs
listed_named m d [] = refl
listed_named m d (e ∷ dirs) = ap (λ b. eq_by_cmp dir_cmp e d || b) (listed_named m d dirs)

firsts_are : (m : Channels) (dirs : List Dir) → each (λ (named : Named). named.0) (each (standing_of m)
    dirs) ≡ dirs
firsts_are m [] = refl
firsts_are m (d ∷ dirs) = ap (λ ds. d ∷ ds) (firsts_are m dirs)

room_each : (m : Channels) (dirs : List Dir)
    → All (λ (named : Named). standing_in m named.0 ≤ named.1) (each (standing_of m) dirs)
room_each m dirs =
    All-map (λ (named : Named). standing_in m named.0 ≤ named.1) (standing_of m) dirs (enough dirs)
  where
    enough : (ds : List Dir) → All (λ d. standing_in m d ≤ standing_in m d) ds
    enough [] = All-nil (λ d. standing_in m d ≤ standing_in m d)
    enough (d ∷ ds) = All-cons (λ d. standing_in m d ≤ standing_in m d) d ds (omega arith) (enough ds)

there_of : (m : Channels) (d : Dir) → IsSome (direction_at m d) → IsSome (map.get m d.conn)
there_of m d there = by_found (map.get m d.conn) there
  where
    by_found : (found : Option Channel) → IsSome (option_map (direction_of d.side) found) → IsSome found
    by_found None is = is
    by_found (Some channel) is = refl

if_owner : (b : Bool) (o : Option RealPid) (r : RealPid) → cond b o None ≡ Some r → o ≡ Some r
if_owner true o r is = is
if_owner false o r is = absurd (none-some r is)

module _ (s : System) (next_id : ℕ) (k : PlainKernel) (owners : Owners) (voters : Voters) (dirs : List Dir)
    (ends : Reserve AgentEnd) (room : RoomView)
    (is : IsSuspended s next_id k owners voters dirs ends room) where
  abbrev m : Channels
  m = s.kernel.net.channels

  abbrev before : System
  before = is.cut.before

  -- the channels of the network are those of the table
  listed : (id : ConnId) → IsSome (map.get m id) → IsSome (map.get s.conns.conns id)
  listed id there =
      ap (λ (x : System). is_some (map.get x.conns.conns id)) is.cut.rest
      ∙ is.cut.wrapped.stands.tables.channels.listed id (ap (λ n. is_some (map.get n id)) (sym is.still) ∙
      there)

  pub room_naming : IsNaming m room.lengths
  room_naming =
      subst (λ (r : RoomView). IsNaming m r.lengths) (sym is.reserved.room_is) (record {
        apart = subst Apart (sym (firsts_are m dirs)) is.listed.apart;
        sides = All-map (λ (named : Named). named.0.side < 2) (standing_of m) dirs is.listed.sides;
        room = room_each m dirs;
        whole = λ d below there.
            listed_named m d dirs ∙ is.listed.whole d below (listed d.conn (there_of m d there));
      })

  module _ (all : all_voted voters ≡ true) (whole : IsWhole s.kernel.book) (list : List AgentEnd)
      (places : each place_of list ≡ dirs)
      (agents : All (IsActedFor s.kernel.book s.kernel.net.listeners) list) where
    same_object : (id : DescId) (found now : Option Desc) → (d : Desc) → found ≡ Some d
        → option_map (with_owner None) now ≡ option_map (with_owner None) found
        → (e : Desc) × ((now ≡ Some e) × (e.object ≡ d.object))
    same_object id found None d at same =
        absurd (none-some (with_owner None d) (same ∙ ap (option_map (with_owner None)) at))
    same_object id found (Some e) d at same = (
      e,
      (
        refl,
        ap (λ (x : Desc). x.object)
            (same_Some (with_owner None e) (with_owner None d) (same ∙ ap (option_map (with_owner None)) at)),
      ),
    )

    same_listeners : s.kernel.net.listeners ≡ before.kernel.net.listeners
    same_listeners = ap (λ (x : System). x.kernel.net.listeners) is.cut.rest

    unnamed : (id : ConnId) (side : ℕ) → IsAgent s.kernel.book s.kernel.net.listeners id side None
        → (q : DescId) (d : Desc) → map.get before.kernel.book.descriptions q ≡ Some d
        → names_end before.kernel.net.listeners id side d.object ≡ false
    unnamed id side none q d at =
        let e = same_object q (map.get before.kernel.book.descriptions q) (map.get
        s.kernel.book.descriptions q) d at
        (is.cut.book.descriptions q) in
        ap (λ l. names_end l id side d.object) (sym same_listeners)
        ∙ ap (names_end s.kernel.net.listeners id side) (sym e.1.1)
        ∙ by e.0.owner (names_end s.kernel.net.listeners id side e.0.object)
        (names_end s.kernel.net.listeners id side e.0.object) refl (none q e.0 e.1.0) (all_led s next_id k
        owners voters dirs ends room is all whole q e.0 e.1.0)
      where
        by : (o : Option RealPid) (named b : Bool) → b ≡ named → cond b o None ≡ None → is_some o ≡ true →
            b ≡ false
        by o false b same none owned = same
        by o true b same none owned =
            true_false (sym owned ∙ ap is_some (sym (ap (λ x. cond x o None) same) ∙ none))

    silent_end : (id : ConnId) (channel : Channel) (side : ℕ) → side < 2 → map.get m id ≡ Some channel
        → agent_of list id side ≡ None → IsSilent side channel
    silent_end id channel side below at none = by_found (end_of list id side) refl
      where
        by_found : (found : Option AgentEnd) → end_of list id side ≡ found → IsSilent side channel
        by_found None is_none =
            true_false (sym (end_found id side list (ap (is_listed (side_of id side)) places
            ∙ is.listed.whole (side_of id side) below (listed id (ap is_some at)))) ∙ ap is_some is_none)
        by_found (Some e) found =
            let told = its_agent (IsActedFor s.kernel.book s.kernel.net.listeners) id side list e agents
            found in
            let nobody : e.agent ≡ None =
            sym (ap (option_and_then (λ (x : AgentEnd). x.agent)) found) ∙ none in
            let acted : IsAgent s.kernel.book s.kernel.net.listeners id side None =
            subst (λ (d : Dir). IsAgent s.kernel.book s.kernel.net.listeners d.conn d.side None) told.1
            (subst (IsAgent s.kernel.book s.kernel.net.listeners e.conn e.side) nobody told.0) in
            closed_silent (given_of before) before.kernel k is.cut.wrapped.stands.tables
            is.cut.wrapped.stands.kernel id side (unnamed id side acted) channel
            (ap (λ n. map.get n id) (sym is.still) ∙ at) below

    pub agents_for : IsFor m list
    agents_for = record {
      named = λ id side below there.
          end_found id side list (ap (is_listed (side_of id side)) places
          ∙ is.listed.whole (side_of id side) below (listed id there));
      silent = λ id channel side below at none. (silent_end id channel side below at none).ended;
      deaf = λ id channel side below at none. (silent_end id channel side below at none).unread;
    }

    one_alive : (conn : ConnId) (side : ℕ) (o : Option RealPid)
        → IsAgent s.kernel.book s.kernel.net.listeners conn side o
        → IfSome o (λ (r : RealPid). (p : VPid)
        × ((is_live k p ≡ true) × (map.get s.ids.pids p.0 ≡ Some r)))
    one_alive conn side None acted = tt
    one_alive conn side (Some r) acted =
        leader_alive s next_id k owners voters dirs ends room is all acted.0 acted.1.0 r acted.1.1.0
        (if_owner (names_end s.kernel.net.listeners conn side acted.1.0.object) acted.1.0.owner r
        acted.1.1.1)

    alive_ends : (some : List AgentEnd) → All (IsActedFor s.kernel.book s.kernel.net.listeners) some
        → All (IsAlive k s.ids.pids) some
    alive_ends [] acted = All-nil (IsAlive k s.ids.pids)
    alive_ends (e ∷ some) acted =
        All-cons (IsAlive k s.ids.pids) e some
        (one_alive e.conn e.side e.agent
        (All-head (IsActedFor s.kernel.book s.kernel.net.listeners) e some acted))
        (alive_ends some (All-tail (IsActedFor s.kernel.book s.kernel.net.listeners) e some acted))

    pub drain_begun : (notes : Notes) → Fits m notes
        → ((d : Dir) → d.side < 2 → IsSome (direction_at m d) → has_notes d notes ≡ true)
        → ((d : Dir) → whereabouts s.kernel.net (agents_of notes) d ≡ stream_on (direction_at m d))
        → AreLed list notes → IsDraining s next_id k owners list notes
    drain_begun notes fits there kept led = record {
      cut = record {
        before = before;
        wrapped = is.cut.wrapped;
        plain = is.cut.plain;
        kept = is.cut.kept;
        book = is.cut.book;
        frames = is.cut.frames;
        bytes = λ d below. kept d ∙ ap (λ n. stream_on (direction_at n d)) is.still;
        rest = is.cut.rest;
      };
      fits = fits;
      agents = agents_for;
      noted = there;
      led = led;
      alive = alive_ends list agents;
    }
