-- How a drain begins.
--     IsFresh, all_fresh          the notes on a direction before anything was read or sent
--     dirs_begun                  they are on the directions of the room
--     fits_begun                  they fit the network
--     kept_begun                  the bytes of each direction are those in its queues
--     noted_begun                 each direction of the network is noted
--     new_sides, new_dirs         the room's notes, before they are opened
use Rattle.std.proofs.Common.{◌≡◌, ℕ, ◌+◌, ◌-◌, ◌<◌, ◌≤◌, Bool, true, false, List, [], ◌∷◌, map as each, length, refl, sym, ap, ap₂, subst, ◌∙◌, arith, inl, inr}
use Rattle.std.specs.Prelude.{Option, Some, None, All, is_some, ◌||◌, if◌then◌else◌}
use Rattle.std.specs.Option.{option_map_or}
use Rattle.std.specs.Ordering.{eq_by_cmp}
use Rattle.std.specs.List.{list_any}
use Rattle.std.proofs.Math.Seq.{drop-nil}
use Rattle.std.proofs.lemmas.List.{take_all, drop_all}
use Rattle.std.proofs.lemmas.List.Elements.{All-nil, All-cons, All-head, All-tail, All-map}
use Rattle.sys_abi.specs.declared.identity.Dir.{Dir}
use Rattle.sys_abi.specs.Orders.{dir_cmp}
use Rattle.wire_net.specs.declared.agents.AgentEnd.{AgentEnd}
use Rattle.wire_net.specs.declared.cut_room.DirNotes.{DirNotes}
use Rattle.wire_channels.specs.declared.limits.TheConstants.{QUEUE_LIMIT}
use Rattle.wire_net.specs.CutRooms.{Named, new_notes, all_notes}
use Rattle.wire_channels.specs.Directions.{Direction, standing}
use Rattle.wire_channels.specs.Channels.{Channels, direction_at, is_live_at}
use Rattle.wire_net.specs.Ends.{agent_of, IsFor}
use Rattle.wire_net.specs.Networks.{Network}
use Rattle.wire_net.specs.Whereabouts.{stream, stream_on, whereabouts}
use Rattle.wire_net.proofs.LiveAgents.{live_there, direction_there, agent_there, some_is}
use Rattle.drain_core.specs.Drains.{Notes, IsNoted, IsInStep, dirs_of, Apart, Fits, has_notes}
use Rattle.drain_core.specs.Holding.{agents_of}
use Rattle.drain_core.specs.Openings.{IsNaming, opened, begun}
use Rattle.drain_core.proofs.OneDrain.{own}
use Rattle.drain_core.proofs.AllDirections.{for_each, one_of}
use Rattle.drain_core.proofs.Bytes.{find_live, of_found, whereabouts_is, found_live}
use Rattle.wire_net.proofs.Gains.{stream_length}

record IsFresh (m : Channels) (ends : List AgentEnd) (x : DirNotes) : Type 0 where
  named : Named
  is : x ≡ opened m ends (new_notes named)
  side : named.0.side < 2
  room : option_map_or standing (direction_at m named.0) 0 ≤ named.1

all_fresh : (m : Channels) (ends : List AgentEnd) (lengths : List Named) → All (λ named. named.0.side < 2) lengths → All (λ named. option_map_or standing (direction_at m named.0) 0 ≤ named.1) lengths
    → All (IsFresh m ends) (begun m ends lengths)
all_fresh m ends [] sides rooms = All-nil (IsFresh m ends)
all_fresh m ends (named ∷ lengths) sides rooms =
    All-cons (IsFresh m ends) (opened m ends (new_notes named)) (begun m ends lengths) (record {
      named = named;
      is = refl;
      side = All-head (λ (n : Named). n.0.side < 2) named lengths sides;
      room = All-head (λ (n : Named). option_map_or standing (direction_at m n.0) 0 ≤ n.1) named lengths rooms;
    })
    (all_fresh m ends lengths (All-tail (λ (n : Named). n.0.side < 2) named lengths sides) (All-tail (λ (n : Named). option_map_or standing (direction_at m n.0) 0 ≤ n.1) named lengths rooms))

-- ---- the notes on one direction

standing_is : (found : Option Direction) → length (stream_on found) ≡ option_map_or standing found 0
standing_is None = refl
standing_is (Some direction) = stream_length direction ∙ (let e : length direction.received + length direction.wire + length direction.sent ≡ standing direction = omega arith in e)

fresh_noted : (m : Channels) (ends : List AgentEnd) (named : Named) → named.0.side < 2 → option_map_or standing (direction_at m named.0) 0 ≤ named.1
    → option_map_or standing (direction_at m named.0) 0 ≤ QUEUE_LIMIT → IsNoted (opened m ends (new_notes named))
fresh_noted m ends named side room few = record {
  side = side;
  few = few;
  fits = room;
  sent = omega arith;
  read = omega arith;
  drained = omega arith;
  back = room;
  empty = refl;
}

fresh_live : (m : Channels) (ends : List AgentEnd) (named : Named) → IsFor m ends → named.0.side < 2 → is_some (opened m ends (new_notes named)).sender ≡ is_live_at m named.0.conn
fresh_live m ends named for side = choice (is_live_at m named.0.conn) refl
  where
    choice : (b : Bool) → is_live_at m named.0.conn ≡ b → is_some (if b then agent_of ends named.0.conn named.0.side else None) ≡ b
    choice true at = agent_there m ends named.0.conn named.0.side for side (live_there m named.0.conn at)
    choice false at = refl

abbrev Opened : Channels → List AgentEnd → Named → Bool → DirNotes
Opened m ends named live = record (new_notes named) {
  count = option_map_or standing (direction_at m named.0) 0;
  sender = if live then agent_of ends named.0.conn named.0.side else None;
  reader = if live then agent_of ends named.0.conn (1 - named.0.side) else None;
}

fresh_in_step : (m : Channels) (ends : List AgentEnd) (named : Named) → IsFor m ends → named.0.side < 2 → IsInStep m (opened m ends (new_notes named))
fresh_in_step m ends named for side = choice (is_live_at m named.0.conn) refl
  where
    count : ℕ
    count = option_map_or standing (direction_at m named.0) 0

    choice : (b : Bool) → is_live_at m named.0.conn ≡ b → IsInStep m (Opened m ends named b)
    choice false at = inl (record { sender = refl; reader = refl; read = refl; stands = standing_is (direction_at m named.0) })
    choice true at =
        let there = live_there m named.0.conn at in
        let one = direction_there m named.0 there in
        let stands : length (stream one.direction) ≡ count = ap (λ (o : Option Direction). length (stream_on o)) (sym one.found) ∙ standing_is (direction_at m named.0) in
        inr (record {
          sender = some_is (agent_of ends named.0.conn named.0.side) (agent_there m ends named.0.conn named.0.side for side there);
          reader = some_is (agent_of ends named.0.conn (1 - named.0.side)) (agent_there m ends named.0.conn (1 - named.0.side) for (omega (arith, side)) there);
          direction = one.direction;
          found = one.found;
          drains = record {
            flows = one.flows;
            total = omega (arith, stands);
            behind = drop_all (count - 0) (stream one.direction) (omega (arith, stands)) ∙ sym (drop-nil (0 - count));
          };
        })

-- ---- all of them

pub dirs_begun : (m : Channels) (ends : List AgentEnd) (lengths : List Named) → dirs_of (begun m ends lengths) ≡ each (λ named. named.0) lengths
dirs_begun m ends [] = refl
dirs_begun m ends (named ∷ lengths) = ap (λ (ds : List Dir). named.0 ∷ ds) (dirs_begun m ends lengths)

pub fits_begun : (m : Channels) (ends : List AgentEnd) (lengths : List Named) → IsFor m ends → IsNaming m lengths → All (λ x. x.count ≤ QUEUE_LIMIT) (begun m ends lengths) → Fits m (begun m ends lengths)
fits_begun m ends lengths for naming few =
    let notes = begun m ends lengths in
    let fresh = all_fresh m ends lengths naming.sides naming.room in record {
      apart = subst Apart (sym (dirs_begun m ends lengths)) naming.apart;
      noted =
          for_each IsNoted notes (λ front back x among.
          let one = one_of (IsFresh m ends) front back x (subst (All (IsFresh m ends)) among fresh) in
          let most = one_of (λ y. y.count ≤ QUEUE_LIMIT) front back x (subst (All (λ y. y.count ≤ QUEUE_LIMIT)) among few) in
          subst IsNoted (sym one.is) (fresh_noted m ends one.named one.side one.room (subst (λ (y : DirNotes). y.count ≤ QUEUE_LIMIT) one.is most)));
      in_step =
          for_each (IsInStep m) notes (λ front back x among.
          let one = one_of (IsFresh m ends) front back x (subst (All (IsFresh m ends)) among fresh) in
          subst (IsInStep m) (sym one.is) (fresh_in_step m ends one.named for one.side));
      live =
          for_each (λ x. is_some x.sender ≡ is_live_at m x.dir.conn) notes (λ front back x among.
          let one = one_of (IsFresh m ends) front back x (subst (All (IsFresh m ends)) among fresh) in
          subst (λ (y : DirNotes). is_some y.sender ≡ is_live_at m y.dir.conn) (sym one.is) (fresh_live m ends one.named for one.side));
    }

fresh_own : (m : Channels) (ends : List AgentEnd) (named : Named) → own (opened m ends (new_notes named)) (stream_on (direction_at m named.0)) ≡ stream_on (direction_at m named.0)
fresh_own m ends named =
    take_all (option_map_or standing (direction_at m named.0) 0 - 0) (stream_on (direction_at m named.0)) (let e = standing_is (direction_at m named.0) in omega (arith, e))

pub kept_begun : (t : Network) (ends : List AgentEnd) (lengths : List Named) (d : Dir) → IsNaming t.channels lengths
    → whereabouts t (agents_of (begun t.channels ends lengths)) d ≡ stream_on (direction_at t.channels d)
kept_begun t ends lengths d naming = whereabouts_is t notes d ∙ found (find_live d notes) refl
  where
    notes : Notes
    notes = begun t.channels ends lengths

    found : (o : Option DirNotes) → find_live d notes ≡ o → of_found o (stream_on (direction_at t.channels d)) ≡ stream_on (direction_at t.channels d)
    found None at = refl
    found (Some x) at =
        let live = found_live d notes x at in
        let one = one_of (IsFresh t.channels ends) live.front live.back x (subst (All (IsFresh t.channels ends)) live.among (all_fresh t.channels ends lengths naming.sides naming.room)) in
        let same : one.named.0 ≡ d = sym (ap (λ (y : DirNotes). y.dir) one.is) ∙ live.dir in
        ap₂ (λ (y : DirNotes) (e : Dir). own y (stream_on (direction_at t.channels e))) one.is (sym same) ∙ fresh_own t.channels ends one.named
        ∙ ap (λ (e : Dir). stream_on (direction_at t.channels e)) same

pub noted_begun : (m : Channels) (ends : List AgentEnd) (lengths : List Named) (d : Dir) → has_notes d (begun m ends lengths) ≡ list_any (λ named. eq_by_cmp dir_cmp named.0 d) lengths
noted_begun m ends [] d = refl
noted_begun m ends (named ∷ lengths) d = ap (λ (b : Bool). eq_by_cmp dir_cmp named.0 d || b) (noted_begun m ends lengths d)

-- the room's notes, before they are opened
pub new_sides : (lengths : List Named) → All (λ named. named.0.side < 2) lengths → All (λ x. x.dir.side < 2) (all_notes lengths)
new_sides lengths sides = All-map (λ (x : DirNotes). x.dir.side < 2) new_notes lengths sides

pub new_dirs : (lengths : List Named) → dirs_of (all_notes lengths) ≡ each (λ named. named.0) lengths
new_dirs [] = refl
new_dirs (named ∷ lengths) = ap (λ (ds : List Dir). named.0 ∷ ds) (new_dirs lengths)
