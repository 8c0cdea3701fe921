-- The directions of channels, by the table of channels and the network.
--     is_above above d            the direction comes after this one; each comes after none
--     is_first_side conns d       that of side 0 of a channel of the table
--     on_the_way direction        how many bytes stand in the sender's queue and on the wire
use Rattle.std.specs.Prelude.{ℕ, ◌+◌, ◌==◌, ◌&&◌, Bool, true, length, Option, Some, None, is_some}
use Rattle.std.specs.Ordering.{is_lt}
use Rattle.std.specs.FinMap as map
use Rattle.sys_abi.specs.declared.identity.Dir.{Dir}
use Rattle.sys_abi.specs.Orders.{dir_cmp}
use Rattle.wire_channels.specs.Directions.{Direction}
use Rattle.host_tables.specs.Network.{Conns}

abbrev pub is_above : Option Dir → Dir → Bool
is_above None d = true
is_above (Some above) d = is_lt (dir_cmp above d)

abbrev pub is_first_side : Conns → Dir → Bool
is_first_side conns d = (d.side == 0) && is_some (map.get conns d.conn)

abbrev pub on_the_way : Option Direction → ℕ
on_the_way None = 0
on_the_way (Some direction) = length direction.sent + length direction.wire
