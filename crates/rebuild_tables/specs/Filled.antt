-- A channel of the network that has what a channel of a kernel part has.
-- Source: DMTCP refills kernel buffers at a restart; `man 2 send`, `man 2 shutdown`, `man 2 close`.
--     IsStanding x y                       all bytes of the direction can be read, and its flags are the same
--     IsFilled directions id channel c     so it is with both directions, and the same ends are open
use Rattle.std.specs.Prelude.{◌≡◌, ℕ, ◌<◌, [], ◌∷◌, Some}
use Rattle.std.specs.FinMap as map
use Rattle.sys_abi.specs.declared.identity.ConnId.{ConnId}
use Rattle.plain_tables.specs.declared.channel.Channel as plain
use Rattle.plain_tables.specs.declared.channel.Direction as plain_direction
use Rattle.plain_tables.specs.Objects.{dir}
use Rattle.plain_tables.specs.Tables.{Directions}
use Rattle.wire_channels.specs.declared.channel.Channel.{Channel}
use Rattle.wire_channels.specs.Channels.{direction_of}
use Rattle.wire_channels.specs.Directions.{Direction}

pub record IsStanding (x : plain_direction.Direction) (y : Direction) : Type 0 where
  pub received : y.received ≡ x.left
  pub wire : y.wire ≡ []
  pub sent : y.sent ≡ []
  pub ended : x.ended ≡ y.is_ended
  pub unread : x.unread ≡ y.is_unread

-- the flags of a pipe's unused direction among them
pub record IsFilled (directions : Directions) (id : ConnId) (channel : plain.Channel)
    (c : Channel) : Type 0 where
  pub open_ends : c.open_ends ≡ channel.first.is_open ∷ channel.second.is_open ∷ []
  pub each : (side : ℕ) → side < 2 → (x : plain_direction.Direction)
      → map.get directions (dir id side) ≡ Some x → IsStanding x (direction_of side c)
