-- A refill of which no byte has moved yet.
-- Source: the DMTCP paper (IPDPS 2009), "refill kernel buffers".
--     IsNew x               nothing was sent or read for the direction, and its drained bytes are there
--     IsReady m notes x     its channel is live, with agents and notes for both directions, and no byte of it is in the network
--     IsBeginning m notes   so all directions are, or nothing is refilled on them
--     begun_on              the notes on a direction, by the list of what was drained of it
--     begun                 the notes on all directions that a room names
--     IsGivenBack m list    all bytes of the list, and no others, can be read from its direction
use Rattle.std.specs.Prelude.{◌≡◌, ◌<◌, ◌≤◌, ◌⊎◌, ℕ, true, List, [], length, map as each, Option, Some, None, IsSome, is_some, All, if◌then◌else◌}
use Rattle.wire_net.specs.declared.agents.AgentEnd.{AgentEnd}
use Rattle.wire_net.specs.declared.cut_room.DirBytes.{DirBytes}
use Rattle.wire_net.specs.declared.cut_room.DirNotes.{DirNotes}
use Rattle.wire_channels.specs.declared.limits.TheConstants.{QUEUE_LIMIT}
use Rattle.wire_channels.specs.Directions.{Direction}
use Rattle.wire_channels.specs.Channels.{Channels, direction_at, is_live_at}
use Rattle.wire_net.specs.CutRooms.{Named, new_notes}
use Rattle.wire_net.specs.DrainedNets.{StandsIf, list_on}
use Rattle.wire_net.specs.Ends.{agent_of}
use Rattle.wire_channels.specs.Answers.{received_on}
use Rattle.wire_net.specs.Reserves.{reserve}
use Rattle.wire_net.specs.Whereabouts.{stream, stream_on, reverse}
use Rattle.refill_core.specs.Refills.{Notes, dirs_of, Apart, notes_at, IsFlowing, IsAside}

pub record IsNew (x : DirNotes) : Type 0 where
  pub side : x.dir.side < 2
  pub few : x.count ≤ QUEUE_LIMIT
  pub whole : length x.drained.items ≡ x.count
  pub room : x.count ≤ x.returned.room
  pub unread : x.read ≡ 0
  pub unsent : x.sent ≡ 0
  pub none_back : x.returned.items ≡ []

pub record IsReady (m : Channels) (notes : Notes) (x : DirNotes) : Type 0 where
  pub sender : IsSome x.sender
  pub other : DirNotes
  pub paired : notes_at (reverse x.dir) notes ≡ Some other
  pub other_unread : other.read ≡ 0
  pub direction : Direction
  pub found : direction_at m x.dir ≡ Some direction
  pub flows : IsFlowing direction
  pub empty : stream direction ≡ []

pub record IsBeginning (m : Channels) (notes : Notes) : Type 0 where
  pub apart : Apart (dirs_of notes)
  pub new : All IsNew notes
  pub ready : All (λ x. IsAside m x ⊎ IsReady m notes x) notes
  pub live : All (λ x. is_some x.sender ≡ is_live_at m x.dir.conn) notes

-- nothing is noted of the direction
abbrev pub cleared : Named → DirNotes
cleared named = record (new_notes named) { drained = reserve [] 0 }

-- its agents send these bytes back
abbrev pub with_list : List AgentEnd → List ℕ → DirNotes → DirNotes
with_list ends bytes x = record x {
  drained = reserve bytes (length bytes);
  sender = agent_of ends x.dir.conn x.dir.side;
  count = length bytes;
}

-- where the bytes are in place, none are sent back
abbrev pub begun_on : List AgentEnd → Named → Option DirBytes → DirNotes
begun_on ends named None = cleared named
begun_on ends named (Some list) = if list.in_place then cleared named else with_list ends list.bytes (cleared named)

abbrev pub begun : List DirBytes → List AgentEnd → List Named → Notes
begun lists ends lengths = each (λ named. begun_on ends named (list_on named.0 lists)) lengths

abbrev pub IsGivenBack : Channels → DirBytes → Type 0
IsGivenBack m list = StandsIf true list.bytes (stream_on (direction_at m list.dir)) (received_on (direction_at m list.dir))
