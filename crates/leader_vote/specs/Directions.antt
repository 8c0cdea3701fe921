-- The directions of all channels, and the bytes that stand in them.
-- Source: `man 7 pipe`, `man 2 socketpair`: a channel has a direction from each of its two sides.
--     with_both dirs conn          and both directions of this one
--     AreDirs conns dirs           both directions of each channel, each once
--     standing_of, missing_of      a direction with how many bytes stand in it;  with how many of them its
--                                  receiver can't read yet
use Rattle.std.specs.Prelude.{◌≡◌, ◌<◌, ℕ, ◌+◌, Bool, true, List, [], ◌∷◌, ◌++◌, length, IsSome, All}
use Rattle.std.specs.Option.{option_map_or}
use Rattle.std.specs.List.{list_any}
use Rattle.std.specs.Ordering.{eq_by_cmp}
use Rattle.std.specs.FinMap as map
use Rattle.std.specs.FinMap.{FinMap}
use Rattle.sys_abi.specs.declared.identity.ConnId.{ConnId}
use Rattle.sys_abi.specs.declared.identity.Dir.{Dir}
use Rattle.sys_abi.specs.Orders.{conn_cmp, dir_cmp}
use Rattle.conn_table.specs.declared.conn.Conn.{Conn}
use Rattle.wire_channels.specs.Directions.{Direction, standing}
use Rattle.wire_channels.specs.Channels.{Channels, direction_at}
use Rattle.wire_net.specs.CutRooms.{Named}
use Rattle.wire_net.specs.Noted.{Apart}

abbrev pub Conns : Type 0
Conns = FinMap conn_cmp Conn

abbrev pub is_listed : Dir → List Dir → Bool
is_listed d dirs = list_any (λ e. eq_by_cmp dir_cmp e d) dirs

abbrev pub dir_of : ConnId → ℕ → Dir
dir_of conn side = record { conn = conn; side = side }

abbrev pub with_both : List Dir → ConnId → List Dir
with_both dirs conn = (dirs ++ dir_of conn 0 ∷ []) ++ dir_of conn 1 ∷ []

pub record AreDirs (conns : Conns) (dirs : List Dir) : Type 0 where
  pub apart : Apart dirs
  pub sides : All (λ d. d.side < 2) dirs
  pub whole : (d : Dir) → d.side < 2 → IsSome (map.get conns d.conn) → is_listed d dirs ≡ true

abbrev pub standing_in : Channels → Dir → ℕ
standing_in m d = option_map_or standing (direction_at m d) 0

abbrev pub missing : Direction → ℕ
missing direction = length direction.sent + length direction.wire

abbrev pub missing_in : Channels → Dir → ℕ
missing_in m d = option_map_or missing (direction_at m d) 0

abbrev pub standing_of : Channels → Dir → Named
standing_of m d = (d, standing_in m d)

abbrev pub missing_of : Channels → Dir → Named
missing_of m d = (d, missing_in m d)
