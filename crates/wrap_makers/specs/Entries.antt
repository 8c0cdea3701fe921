-- What stands in the table of channels for what a call makes.
-- Source: `man 2 close` (a channel goes when its last open end is closed).
--     with_entry c entry            the table with the entry
--     without_entry c entry         the table once the entry has gone
--     settled c p entry n reply     what a call leaves that p made: n things more, or else the entry has gone
--     given_with g entry            the same of what is given
use Rattle.std.specs.Prelude.{ℕ, None, if◌then◌else◌}
use Rattle.std.specs.FinMap as map
use Rattle.sys_abi.specs.declared.identity.VPid.{VPid}
use Rattle.sys_abi.specs.declared.identity.ConnId.{ConnId}
use Rattle.conn_table.specs.declared.table.ConnTable.{ConnTable}
use Rattle.conn_table.specs.Conns.{after_end}
use Rattle.plain_tables.specs.Tables.{changed_at, made_more}
use Rattle.host_tables.specs.declared.reply.KernelReply.{KernelReply}
use Rattle.host_tables.specs.Descriptions.{Names}
use Rattle.host_tables.specs.Network.{Conns}
use Rattle.host_tables.specs.Stands.{Given, open_conn}
use Rattle.wrap_names.specs.Wrapping.{is_done}
use Rattle.wrap_makers.specs.declared.entries.Entry.{Entry}
use Rattle.wrap_makers.specs.declared.entries.Entry.TheVariants.{Nothing, Name, Channel}

abbrev pub names_with : Names → Entry → Names
names_with names (Name id address) = map.insert names id address
names_with names _ = names

abbrev pub conns_with : Conns → Entry → Conns
conns_with conns (Channel id kind) = map.insert conns id (open_conn id kind None None)
conns_with conns _ = conns

abbrev pub with_entry : ConnTable → Entry → ConnTable
with_entry c entry = record c { conns = conns_with c.conns entry; names = names_with c.names entry }

abbrev pub with_channel : ConnTable → ConnId → ℕ → ConnTable
with_channel c id kind = with_entry c (Channel id kind)

-- both ends close
abbrev pub without_conn : Conns → ConnId → Conns
without_conn conns id = after_end 1 (after_end 0 conns id) id

abbrev pub without_channel : ConnTable → ConnId → ConnTable
without_channel c id = record c { conns = without_conn c.conns id }

abbrev pub without_entry : ConnTable → Entry → ConnTable
without_entry c Nothing = c
without_entry c (Name id address) = record c { names = map.remove c.names id }
without_entry c (Channel id kind) = without_channel c id

abbrev pub counted : ConnTable → VPid → ℕ → ConnTable
counted c p n = record c { makers = changed_at c.makers p (made_more n) }

abbrev pub settled : ConnTable → VPid → Entry → ℕ → KernelReply → ConnTable
settled c p entry n reply = if is_done reply then counted c p n else without_entry c entry

abbrev pub given_with : Given → Entry → Given
given_with g entry = record g { conns = conns_with g.conns entry; names = names_with g.names entry }
