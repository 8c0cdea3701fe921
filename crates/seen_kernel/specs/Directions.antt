-- The directions of channels with all their bytes, as a kernel part has them once these have arrived.
-- Source: the DMTCP paper (IPDPS 2009), "drain kernel buffers": a checkpoint's images have the bytes that
-- were on the way.
--     listed_in m list           the direction of a list, if its channel is there
--     with_list m seen list      and that of this list
--     with_lists m seen lists    and those of all these
--     HaveBytes t held lists     each direction has a list, and each list the bytes of its direction,
--                                wherever they stand while a stage of a checkpoint holds the system, or
--                                none does
use Rattle.std.specs.Prelude.{◌≡◌, nat_lt, List, [], ◌∷◌, length, Option, None, option_map, All, if◌then◌else◌}
use Rattle.std.specs.Option.{option_map_or}
use Rattle.std.specs.FinMap as map
use Rattle.sys_abi.specs.declared.identity.Dir.{Dir}
use Rattle.plain_tables.specs.declared.channel.Direction as plain
use Rattle.plain_tables.specs.Tables.{Directions}
use Rattle.wire_channels.specs.Directions.{Direction}
use Rattle.wire_channels.specs.Channels.{Channels, direction_at}
use Rattle.wire_net.specs.declared.cut_room.DirBytes.{DirBytes}
use Rattle.wire_net.specs.DrainedNets.{HasLists}
use Rattle.wire_net.specs.Networks.{Network}
use Rattle.wire_net.specs.Whereabouts.{whereabouts}
use Rattle.host_tables.specs.Descriptions.{Stage, agents_of}

abbrev pub direction_of : DirBytes → Direction → plain.Direction
direction_of list direction = record {
  left = list.bytes;
  arrived = length list.bytes;
  ended = direction.is_ended;
  unread = direction.is_unread;
}

-- a channel has two sides
abbrev pub direction_in : Channels → Dir → Option Direction
direction_in m d = if nat_lt d.side 2 then direction_at m d else None

abbrev pub listed_in : Channels → DirBytes → Option plain.Direction
listed_in m list = option_map (direction_of list) (direction_in m list.dir)

abbrev pub with_list : Channels → Directions → DirBytes → Directions
with_list m seen list =
    option_map_or (λ (x : plain.Direction). map.insert seen list.dir x) (listed_in m list) seen

unfoldable pub with_lists : Channels → Directions → List DirBytes → Directions
with_lists m seen [] = seen
with_lists m seen (list ∷ lists) = with_lists m (with_list m seen list) lists

pub record HaveBytes (t : Network) (held : Option Stage) (lists : List DirBytes) : Type 0 where
  pub whole : HasLists t.channels lists
  pub bytes : All (λ list. list.bytes ≡ whereabouts t (agents_of held) list.dir) lists
