-- The addresses of the ends of channels, by the table of channels.
-- Source: `man 2 getsockname`, `man 2 getpeername`.
--     end_of side conn, end_in conns conn side      the address of an end, where it has one
use Rattle.std.specs.Prelude.{◌==◌, ℕ, slice_index_or, Option, None, option_and_then, if◌then◌else◌}
use Rattle.std.specs.FinMap as map
use Rattle.sys_abi.specs.declared.identity.ConnId.{ConnId}
use Rattle.sys_abi.specs.declared.identity.VirtAddr.{VirtAddr}
use Rattle.conn_table.specs.declared.conn.Conn.{Conn}
use Rattle.host_streams.specs.OfHostTables.Network.{Conns}

abbrev pub end_of : ℕ → Conn → Option VirtAddr
end_of side conn = if side == 0 then slice_index_or conn.addr 0 None else slice_index_or conn.addr 1 None

abbrev pub end_in : Conns → ConnId → ℕ → Option VirtAddr
end_in conns conn side = option_and_then (end_of side) (map.get conns conn)
