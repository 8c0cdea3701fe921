-- Whole runs of a drain: steps of agents and moves of bytes, in any order.
--     step p s                what a step of an agent leaves of the network and the notes
--     moves p s               it moves bytes
--     IsWhatStands m lists    each list has the bytes that stand in its direction, and each direction has a list
--     GivesWhatStood          whatever happens on the way, the lists of a drain that is done are what stood in the network when it began
--     EndsInTime              no run has more events that move bytes than there was work
use Rattle.std.specs.Prelude.{◌≡◌, ◌≤◌, Bool, true, List, All}
use Rattle.sys_abi.specs.declared.identity.RealPid.{RealPid}
use Rattle.wire_net.specs.declared.agents.AgentEnd.{AgentEnd}
use Rattle.wire_net.specs.declared.cut_room.DirBytes.{DirBytes}
use Rattle.wire_net.specs.CutRooms.{Named}
use Rattle.wire_channels.specs.Channels.{Channels, direction_at}
use Rattle.wire_net.specs.DrainedNets.{HasLists}
use Rattle.wire_net.specs.Networks.{Network}
use Rattle.wire_net.specs.Runs.{Event, IsAllowed, UnderWay, Steps, run, moves_made}
use Rattle.wire_net.specs.Whereabouts.{stream_on}
use Rattle.drain_core.specs.Drains.{Fits, moves_any, notes_after, channels_after, is_done}
use Rattle.drain_core.specs.Openings.{IsNaming, begun, lists_of}
use Rattle.drain_core.specs.Work.{work_left}

abbrev pub step : Steps
step p s = record { net = record s.net { channels = channels_after p s.notes s.net.channels }; notes = notes_after p s.net.channels s.notes }

abbrev pub moves : RealPid → UnderWay → Bool
moves p s = moves_any p s.net.channels s.notes

-- the lists are what stands in a network
pub record IsWhatStands (m : Channels) (lists : List DirBytes) : Type 0 where
  pub bytes : All (λ list. list.bytes ≡ stream_on (direction_at m list.dir)) lists
  pub whole : HasLists m lists

-- that the notes with which it begins fit the network is what `Drain::begin` gives
abbrev pub GivesWhatStood : Type 0
GivesWhatStood = (t : Network) (ends : List AgentEnd) (lengths : List Named) (events : List Event) → IsNaming t.channels lengths → Fits t.channels (begun t.channels ends lengths) → All IsAllowed events
    → let s = run step events (record { net = t; notes = begun t.channels ends lengths }) in
    is_done s.net.channels s.notes ≡ true → IsWhatStands t.channels (lists_of s.net.channels s.notes)

abbrev pub EndsInTime : Type 0
EndsInTime = (events : List Event) (s : UnderWay) → Fits s.net.channels s.notes → All IsAllowed events → moves_made step moves events s ≤ work_left s.net.channels s.notes
