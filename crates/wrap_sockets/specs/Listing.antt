-- The table of channels around a connect: what is listed before the kernel's call goes again where the call
-- fails or waits, and else a number more is counted and the socket has no address of its own.
--     with_listed conns l        with the new channel
--     IsUnlisted conns l         it isn't there yet
--     settled conns p l          after the call
use Rattle.std.specs.Prelude.{◌≡◌, true, [], ◌∷◌, Option, Some, None}
use Rattle.std.specs.FinMap as map
use Rattle.sys_abi.specs.declared.identity.VPid.{VPid}
use Rattle.conn_table.specs.declared.table.ConnTable.{ConnTable}
use Rattle.plain_tables.specs.Tables.{changed_at, made_more}
use Rattle.wrap_sockets.specs.declared.targets.Listed.{Listed}

abbrev pub with_listed : ConnTable → Option Listed → ConnTable
with_listed conns None = conns
with_listed conns (Some l) = record conns { conns = map.insert conns.conns l.conn.id l.conn }

abbrev pub IsUnlisted : ConnTable → Option Listed → Type 0
IsUnlisted conns None = Unit {0}
IsUnlisted conns (Some l) =
    (map.get conns.conns l.conn.id ≡ None) × (l.conn.open_ends ≡ true ∷ true ∷ [])

abbrev pub with_one_more : ConnTable → VPid → ConnTable
with_one_more conns p = record conns { makers = changed_at conns.makers p (made_more 1) }

abbrev pub settled : ConnTable → VPid → Option Listed → ConnTable
settled conns p None = with_one_more conns p
settled conns p (Some l) = record (with_one_more conns p) { names = map.remove conns.names l.desc }
