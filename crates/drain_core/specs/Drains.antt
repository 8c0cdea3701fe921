-- A drain under way: what the agents have noted of each direction, and how that fits the network.
-- Source: the DMTCP paper (IPDPS 2009), "drain kernel buffers".
--     IsNoted x                  what the notes on a direction keep by themselves
--     IsDraining x direction     how the notes on a direction of a live channel fit it: behind its own bytes stands the part of the cookie that was
--                                sent and not yet read
--     IsAside m x                no agent drains the direction: its channel is not live, or not there
--     IsUnderWay m x             the agents of both ends drain it
--     Fits m notes               all notes fit the network, each direction noted once
--     notes_after, channels_after      the notes, and the network, after a step of an agent
--     is_left, has_work          an agent has work left on a direction;  on any
--     moves_any                  it can move bytes
--     step_answer                what a step answers
--     IsHeldUp p m notes         the agent has work left and can move nothing
--     is_finished, is_done       the agents of a direction have finished, or its bytes have all reached the receiver's queue;  of all directions
use Rattle.std.specs.Prelude.{◌≡◌, ◌==◌, ◌<◌, ◌≤◌, ◌⊎◌, ◌+◌, ◌-◌, min, nat_lt, Bool, true, false, not, ◌&&◌, ◌||◌, [], length, take, drop, map as each, Some, None, IsSome, IfSome, is_some, All, fold}
use Rattle.std.specs.Option.{option_map_or}
use Rattle.std.specs.List.{list_any, list_all}
use Rattle.sys_abi.specs.declared.identity.RealPid.{RealPid}
use Rattle.wire_net.specs.declared.agents.Stepped.{Stepped}
use Rattle.wire_net.specs.declared.cut_room.DirNotes.{DirNotes}
use Rattle.wire_channels.specs.declared.limits.TheConstants.{QUEUE_LIMIT}
use Rattle.wire_channels.specs.Directions.{Direction, standing}
use Rattle.wire_channels.specs.Channels.{Channels, direction_at, at_direction, is_live_at}
use Rattle.wire_net.specs.Whereabouts.{stream, stream_on}
pub use Rattle.wire_net.specs.Noted.{Notes, IsFlowing, dirs_of, Apart, has_notes, named_agents, answer_of}
use Rattle.drain_core.specs.declared.limits.TheConstants.{COOKIE_LENGTH}
use Rattle.drain_core.specs.Tasks.{cookie, is_agent, has_sent, moves, direction_after, note_after}

pub record IsNoted (x : DirNotes) : Type 0 where
  pub side : x.dir.side < 2
  pub few : x.count ≤ QUEUE_LIMIT
  pub fits : x.count ≤ x.drained.room
  pub sent : x.sent ≤ COOKIE_LENGTH
  pub read : x.read ≤ x.count + COOKIE_LENGTH
  pub drained : length x.drained.items ≡ min x.count x.read
  -- what comes back has its room
  pub back : x.count ≤ x.returned.room
  pub empty : x.returned.items ≡ []

pub record IsDraining (x : DirNotes) (direction : Direction) : Type 0 where
  pub flows : IsFlowing direction
  pub total : length (stream direction) + x.read ≡ x.count + x.sent
  pub behind : drop (x.count - x.read) (stream direction) ≡ drop (x.read - x.count) (take x.sent (cookie x.dir.conn))

pub record IsAside (m : Channels) (x : DirNotes) : Type 0 where
  pub sender : x.sender ≡ None
  pub reader : x.reader ≡ None
  pub read : x.read ≡ 0
  pub stands : length (stream_on (direction_at m x.dir)) ≡ x.count

pub record IsUnderWay (m : Channels) (x : DirNotes) : Type 0 where
  pub sender : IsSome x.sender
  pub reader : IsSome x.reader
  pub direction : Direction
  pub found : direction_at m x.dir ≡ Some direction
  pub drains : IsDraining x direction

abbrev pub IsInStep : Channels → DirNotes → Type 0
IsInStep m x = IsAside m x ⊎ IsUnderWay m x

pub record Fits (m : Channels) (notes : Notes) : Type 0 where
  pub apart : Apart (dirs_of notes)
  pub noted : All IsNoted notes
  pub in_step : All (IsInStep m) notes
  -- agents drain the directions of live channels, and no others
  pub live : All (λ x. is_some x.sender ≡ is_live_at m x.dir.conn) notes

abbrev pub notes_after : RealPid → Channels → Notes → Notes
notes_after p m notes = each (λ x. note_after p (direction_at m x.dir) x) notes

abbrev pub channels_after : RealPid → Notes → Channels → Channels
channels_after p notes m = fold (λ (n : Channels) (x : DirNotes). at_direction n x.dir (direction_after p x)) m notes

-- the reading agent reads on
abbrev pub reads_on : DirNotes → Bool
reads_on x = nat_lt x.read (x.count + COOKIE_LENGTH)

abbrev pub is_left : RealPid → DirNotes → Bool
is_left p x = (is_agent p x.reader && reads_on x) || (is_agent p x.sender && not (has_sent x))

abbrev pub has_work : RealPid → Notes → Bool
has_work p notes = list_any (is_left p) notes

abbrev pub moves_on : RealPid → Channels → DirNotes → Bool
moves_on p m x = option_map_or (moves p x) (direction_at m x.dir) false

abbrev pub moves_any : RealPid → Channels → Notes → Bool
moves_any p m notes = list_any (moves_on p m) notes

abbrev pub step_answer : RealPid → Channels → Notes → Stepped
step_answer p m notes = answer_of (has_work p notes) (moves_any p m notes)

-- an agent can move nothing of a direction: what it must read is empty, and what it must write is full
pub record IsBlocked (p : RealPid) (x : DirNotes) (direction : Direction) : Type 0 where
  pub empty : is_agent p x.reader ≡ true → reads_on x ≡ true → direction.received ≡ []
  pub full : is_agent p x.sender ≡ true → has_sent x ≡ false → QUEUE_LIMIT ≤ standing direction

pub record IsHeldUp (p : RealPid) (m : Channels) (notes : Notes) : Type 0 where
  pub work : has_work p notes ≡ true
  pub blocked : All (λ x. IfSome (direction_at m x.dir) (IsBlocked p x)) notes

-- nothing is on its way to the receiver's queue
abbrev pub has_arrived : Direction → Bool
has_arrived direction = (length direction.sent == 0) && (length direction.wire == 0)

abbrev pub is_finished : Channels → DirNotes → Bool
is_finished m x = option_map_or (λ agent. has_sent x && not (reads_on x)) x.sender (option_map_or has_arrived (direction_at m x.dir) true)

abbrev pub is_done : Channels → Notes → Bool
is_done m notes = list_all (is_finished m) notes
