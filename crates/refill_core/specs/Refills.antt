-- A refill under way.
-- Source: the DMTCP paper (IPDPS 2009), "refill kernel buffers".
--     IsNoted x               what the notes on a direction keep by themselves
--     IsRefilling x y d       how the notes on a direction of a live channel fit it: what was sent on it, and what was read off it
--     notes_at d notes        the notes on a direction, if there are any
--     put_notes d x notes     x in their place
--     IsAside m x             no agent refills the direction, and all its bytes can be read
--     IsUnderWay m notes x    an agent does, there are notes on the other direction too, and both fit the direction
--     IsInStep m notes x      one or the other
--     Fits m notes            so it is with the notes on all directions, each another one; those with an agent are the directions of live channels
--     Refilling               the notes on all directions, and the channels
--     turn_after p d s        what p's turn on a direction leaves: where p sends it, p reads off the other one, then sends on it
--     turns_after p ds s      what its turns on all of them leave, one after the other: a step
--     IsBack bytes m x        all bytes of the direction can be read, and they are all that it had
use Rattle.std.specs.Prelude.{◌≡◌, ◌<◌, ◌≤◌, ◌⊎◌, ℕ, ◌-◌, List, length, take, drop, map as each, find, fold, Option, Some, None, IsSome, is_some, All, if◌then◌else◌}
use Rattle.std.specs.Ordering.{eq_by_cmp}
use Rattle.sys_abi.specs.declared.identity.Dir.{Dir}
use Rattle.sys_abi.specs.declared.identity.RealPid.{RealPid}
use Rattle.sys_abi.specs.Orders.{dir_cmp}
use Rattle.wire_net.specs.declared.cut_room.DirNotes.{DirNotes}
use Rattle.wire_channels.specs.declared.limits.TheConstants.{QUEUE_LIMIT}
use Rattle.wire_channels.specs.Directions.{Direction}
use Rattle.wire_channels.specs.Channels.{Channels, direction_at, is_live_at}
use Rattle.wire_channels.specs.Answers.{received_on}
use Rattle.wire_net.specs.Whereabouts.{stream, stream_on, reverse}
pub use Rattle.wire_net.specs.Noted.{Notes, IsFlowing, dirs_of, Apart, has_notes, named_agents}
use Rattle.refill_core.specs.declared.limits.TheConstants.{HEADER_LENGTH}
use Rattle.refill_core.specs.Tasks.{frame_length, sent_in_all, is_agent, turn_note, turn_channels}

pub record IsNoted (x : DirNotes) : Type 0 where
  pub side : x.dir.side < 2
  pub few : x.count ≤ QUEUE_LIMIT
  pub whole : length x.drained.items ≡ x.count
  pub room : x.count ≤ x.returned.room
  pub read : x.read ≤ frame_length x
  pub back : x.returned.items ≡ take (x.read - HEADER_LENGTH) x.drained.items

pub record IsRefilling (x y : DirNotes) (d : Direction) : Type 0 where
  pub flows : IsFlowing d
  pub queues : stream d ≡ drop y.read (take x.sent (sent_in_all x y))
  pub sent : x.sent ≤ length (sent_in_all x y)
  pub read : y.read ≤ x.sent
  -- its own bytes are sent again once they are back
  pub turn : frame_length y < x.sent → x.read ≡ frame_length x

abbrev pub notes_at : Dir → Notes → Option DirNotes
notes_at d notes = find (λ x. eq_by_cmp dir_cmp x.dir d) notes

abbrev pub put_notes : Dir → DirNotes → Notes → Notes
put_notes d x notes = each (λ z. if eq_by_cmp dir_cmp z.dir d then x else z) notes

-- no agent refills the direction, and all its bytes have reached the receiver's queue
pub record IsAside (m : Channels) (x : DirNotes) : Type 0 where
  pub sender : x.sender ≡ None
  pub quiet : stream_on (direction_at m x.dir) ≡ received_on (direction_at m x.dir)

pub record IsUnderWay (m : Channels) (notes : Notes) (x : DirNotes) : Type 0 where
  pub sender : IsSome x.sender
  pub other : DirNotes
  pub paired : notes_at (reverse x.dir) notes ≡ Some other
  pub direction : Direction
  pub found : direction_at m x.dir ≡ Some direction
  pub refills : IsRefilling x other direction

abbrev pub IsInStep : Channels → Notes → DirNotes → Type 0
IsInStep m notes x = IsAside m x ⊎ IsUnderWay m notes x

pub record Fits (m : Channels) (notes : Notes) : Type 0 where
  pub apart : Apart (dirs_of notes)
  pub noted : All IsNoted notes
  pub in_step : All (IsInStep m notes) notes
  pub live : All (λ x. is_some x.sender ≡ is_live_at m x.dir.conn) notes

pub record Refilling : Type 0 where
  pub notes : Notes
  pub channels : Channels

abbrev pub turn_found : RealPid → Refilling → DirNotes → Option DirNotes → Refilling
turn_found p s x None = s
turn_found p s x (Some y) = if is_agent p x.sender then record { notes = put_notes x.dir (turn_note p x y s.channels) s.notes; channels = turn_channels p x y s.channels } else s

abbrev pub turn_of : RealPid → Refilling → Option DirNotes → Refilling
turn_of p s None = s
turn_of p s (Some x) = turn_found p s x (notes_at (reverse x.dir) s.notes)

-- where p sends the direction; else nothing happens
abbrev pub turn_after : RealPid → Dir → Refilling → Refilling
turn_after p d s = turn_of p s (notes_at d s.notes)

abbrev pub turns_after : RealPid → List Dir → Refilling → Refilling
turns_after p ds s = fold (λ (t : Refilling) (d : Dir). turn_after p d t) s ds

-- all bytes of the direction can be read, and they are all that it had, wherever they were
pub record IsBack (bytes : Dir → List ℕ) (m : Channels) (x : DirNotes) : Type 0 where
  pub quiet : stream_on (direction_at m x.dir) ≡ received_on (direction_at m x.dir)
  pub whole : received_on (direction_at m x.dir) ≡ bytes x.dir
