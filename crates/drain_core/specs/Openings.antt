-- How a drain begins, and what it gives.
-- Source: the DMTCP paper (IPDPS 2009), "drain kernel buffers".
--     IsNaming m lengths         a room names each direction of the network once, with at least the bytes that stand in it
--     opened m ends x            the notes on a direction when the drain begins
--     begun m ends lengths       the notes on all of them
--     list_of m x                what the drain gives of a direction: the bytes that were read, or, where no agent drained it, those that can be read
--     lists_of m notes           of all directions
--     IsGiven t notes            what is true when the drain is done: the queues of live channels are empty, elsewhere all bytes can be read, and each list is
--                                all that stands in its direction, wherever it was
use Rattle.std.specs.Prelude.{◌≡◌, ◌<◌, ◌≤◌, ◌-◌, ℕ, Bool, true, false, List, [], length, map as each, Option, Some, IsSome, IfSome, All, is_some, option_map, filter_map, if◌then◌else◌}
use Rattle.std.specs.Option.{option_map_or}
use Rattle.std.specs.Ordering.{eq_by_cmp}
use Rattle.std.specs.List.{list_any}
use Rattle.sys_abi.specs.declared.identity.Dir.{Dir}
use Rattle.sys_abi.specs.Orders.{dir_cmp}
use Rattle.wire_net.specs.declared.agents.AgentEnd.{AgentEnd}
use Rattle.wire_net.specs.declared.cut_room.DirBytes.{DirBytes}
use Rattle.wire_net.specs.declared.cut_room.DirNotes.{DirNotes}
use Rattle.wire_channels.specs.declared.limits.TheConstants.{QUEUE_LIMIT}
use Rattle.wire_net.specs.CutRooms.{Named, all_notes}
use Rattle.wire_channels.specs.Directions.{Direction, standing}
use Rattle.wire_channels.specs.Channels.{Channels, direction_at, is_live_at}
use Rattle.wire_net.specs.Ends.{agent_of}
use Rattle.wire_net.specs.Networks.{Network}
use Rattle.wire_channels.specs.Answers.{received_on}
use Rattle.wire_net.specs.Reserves.{reserve}
use Rattle.wire_net.specs.Whereabouts.{stream_on, whereabouts}
use Rattle.drain_core.specs.Drains.{Notes, Apart}
use Rattle.drain_core.specs.Holding.{agents_of}

pub record IsNaming (m : Channels) (lengths : List Named) : Type 0 where
  pub apart : Apart (each (λ named. named.0) lengths)
  pub sides : All (λ named. named.0.side < 2) lengths
  pub room : All (λ named. option_map_or standing (direction_at m named.0) 0 ≤ named.1) lengths
  pub whole : (d : Dir) → d.side < 2 → IsSome (direction_at m d) → list_any (λ named. eq_by_cmp dir_cmp named.0 d) lengths ≡ true

abbrev pub opened : Channels → List AgentEnd → DirNotes → DirNotes
opened m ends x = record x {
  count = option_map_or standing (direction_at m x.dir) 0;
  sender = if is_live_at m x.dir.conn then agent_of ends x.dir.conn x.dir.side else x.sender;
  reader = if is_live_at m x.dir.conn then agent_of ends x.dir.conn (1 - x.dir.side) else x.reader;
}

abbrev pub begun : Channels → List AgentEnd → List Named → Notes
begun m ends lengths = each (opened m ends) (all_notes lengths)

abbrev pub read_list : DirNotes → DirBytes
read_list x = record { dir = x.dir; bytes = x.drained.items; in_place = false }

abbrev pub readable_list : DirNotes → Direction → DirBytes
readable_list x direction = record { dir = x.dir; bytes = direction.received; in_place = true }

abbrev pub list_of : Channels → DirNotes → Option DirBytes
list_of m x = if is_some x.sender then Some (read_list x) else option_map (readable_list x) (direction_at m x.dir)

abbrev pub lists_of : Channels → Notes → List DirBytes
lists_of m notes = filter_map (list_of m) notes

-- the list was handed out
abbrev pub emptied : DirNotes → DirNotes
emptied x = record x { drained = reserve [] 0 }

abbrev pub IsQuietIf : Bool → List ℕ → List ℕ → Type 0
IsQuietIf true bytes readable = bytes ≡ []
IsQuietIf false bytes readable = bytes ≡ readable

abbrev pub IsQuiet : Channels → DirNotes → Type 0
IsQuiet m x = IsQuietIf (is_live_at m x.dir.conn) (stream_on (direction_at m x.dir)) (received_on (direction_at m x.dir))

pub record IsGiven (t : Network) (notes : Notes) : Type 0 where
  pub quiet : All (IsQuiet t.channels) notes
  -- no list is longer than a queue, or than what its direction has room for to come back
  pub few : All (λ x. IfSome (list_of t.channels x) (λ list. (length list.bytes ≤ QUEUE_LIMIT) × (length list.bytes ≤ x.returned.room))) notes
  pub lists : All (λ list. list.bytes ≡ whereabouts t (agents_of notes) list.dir) (lists_of t.channels notes)
