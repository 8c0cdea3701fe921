-- A channel: a direction from each of its two sides, and which ends are open.
-- Source: `man 2 socketpair`, `man 2 close`, `man 2 shutdown`.
--     direction_of side channel      the direction in which that side sends
--     at_side side f channel         f of that direction
--     without_end side channel       the end of the side is closed: its outgoing direction is ended, its incoming one unread
--     is_open channel                an end is open
--     is_live channel                bytes may still pass both ways
--     after_close side m id          that end of the channel is closed, if it is there; it is gone where no end of it is open then
--     after_closes side m ids        likewise for each channel of a list, one after the other
use Rattle.std.specs.Prelude.{◌==◌, ℕ, ◌-◌, Bool, true, false, ◌&&◌, List, [], ◌∷◌, slice_set, Option, Some, None, if◌then◌else◌}
use Rattle.std.specs.Option.{option_map, option_map_or}
use Rattle.std.specs.List.{list_any}
use Rattle.std.specs.FinMap as map
use Rattle.virt_ids.specs.OfSysAbi.declared.identity.ConnId.{ConnId}
use Rattle.virt_ids.specs.OfSysAbi.declared.identity.Dir.{Dir}
use Rattle.virt_ids.specs.OfSysAbi.Orders.{conn_cmp}
use Rattle.wire_channels.specs.declared.channel.Channel.{Channel}
use Rattle.virt_ids.specs.Changes.{at_key}
use Rattle.wire_channels.specs.Directions.{Direction, unused, is_flowing, after_end, after_stop_reading}

abbrev pub Channels : Type 0
Channels = map.FinMap conn_cmp Channel

abbrev pub new_channel : Channel
new_channel = record { first = unused; second = unused; open_ends = true ∷ true ∷ [] }

abbrev pub direction_of : ℕ → Channel → Direction
direction_of side channel = if side == 0 then channel.first else channel.second

abbrev pub at_side : ℕ → (Direction → Direction) → Channel → Channel
at_side side f channel = if side == 0 then record channel { first = f channel.first } else record channel { second = f channel.second }

abbrev pub with_closed_end : ℕ → Channel → Channel
with_closed_end side channel = record channel { open_ends = slice_set channel.open_ends side false }

abbrev pub without_end : ℕ → Channel → Channel
without_end side channel = with_closed_end side (at_side (1 - side) after_stop_reading (at_side side after_end channel))

abbrev pub is_open : Channel → Bool
is_open channel = list_any (λ open_end. open_end) channel.open_ends

abbrev pub is_live : Channel → Bool
is_live channel = is_flowing channel.first && is_flowing channel.second

abbrev pub is_live_at : Channels → ConnId → Bool
is_live_at m id = option_map_or is_live (map.get m id) false

-- the direction of a channel that is there
abbrev pub direction_at : Channels → Dir → Option Direction
direction_at m d = option_map (direction_of d.side) (map.get m d.conn)

-- f of the direction, if its channel is there
abbrev pub at_direction : Channels → Dir → (Direction → Direction) → Channels
at_direction m d f = at_key m d.conn (at_side d.side f)

abbrev pub put_back : Channels → ConnId → Option Channel → Channels
put_back m id None = m
put_back m id (Some channel) = if is_open channel then map.insert m id channel else map.remove m id

abbrev pub after_close : ℕ → Channels → ConnId → Channels
after_close side m id = put_back m id (option_map (without_end side) (map.get m id))

abbrev pub after_closes : ℕ → Channels → List ConnId → Channels
after_closes side m [] = m
after_closes side m (id ∷ ids) = after_closes side (after_close side m id) ids

-- the end closed, and whether the channel is not there or has an open end then
abbrev pub with_closed : ℕ → Channels → ConnId → Channels
with_closed side m id = at_key m id (without_end side)

abbrev pub stays_open : ℕ → Option Channel → Bool
stays_open side found = option_map_or (λ channel. is_open (without_end side channel)) found true
