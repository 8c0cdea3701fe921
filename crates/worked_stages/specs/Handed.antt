-- What a drain under way keeps, and what it hands to a refill, over one network.
--     AreNoted m notes                   each direction of the network is noted
--     IsDraining m ends notes            the notes fit the network, and so does the list of its ends, and each direction is noted
--     IsHanded m ends drained room       what the refill asks of the network, the ends, the lists and the room
use Rattle.std.specs.Prelude.{◌≡◌, ◌<◌, true, List, IsSome}
use Rattle.sys_abi.specs.declared.identity.Dir.{Dir}
use Rattle.wire_net.specs.declared.agents.AgentEnd.{AgentEnd}
use Rattle.wire_net.specs.declared.cut_room.DrainedNet.{DrainedNet}
use Rattle.wire_channels.specs.Channels.{Channels, direction_at}
use Rattle.wire_net.specs.CutRooms.{RoomView}
use Rattle.wire_net.specs.DrainedNets.{IsDrained, HasLists, IsNamingLists}
use Rattle.wire_net.specs.Ends.{IsFor}
use Rattle.wire_net.specs.Noted.{Notes, has_notes}
use Rattle.drain_core.specs.Drains.{Fits}

abbrev pub AreNoted : Channels → Notes → Type 0
AreNoted m notes = (d : Dir) → d.side < 2 → IsSome (direction_at m d) → has_notes d notes ≡ true

pub record IsDraining (m : Channels) (ends : List AgentEnd) (notes : Notes) : Type 0 where
  pub fits : Fits m notes
  pub for : IsFor m ends
  pub noted : AreNoted m notes

pub record IsHanded (m : Channels) (ends : List AgentEnd) (drained : DrainedNet) (room : RoomView) : Type 0 where
  pub for : IsFor m ends
  pub drained_so : IsDrained m drained.lists
  pub has : HasLists m drained.lists
  pub naming : IsNamingLists room.lengths drained.lists
