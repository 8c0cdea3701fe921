-- The table of channels and sockets as a kernel part has them.
-- Source: `man 2 socketpair`, `man 7 pipe`, `man 7 ip`.
--     kind_number kind        0 a pair of stream ends, 1 an internet connection, 2 a pipe
--     conn_of id channel      a channel as the table has it, under its name
--     own_address object      the address of a socket, bound or not, or of a listener
--     AreConns, AreNames      the channels, and the addresses, are those of the kernel part
--     IsTableOf k t           the table has what the kernel part has, and nothing else
use Rattle.std.specs.Prelude.{◌≡◌, ℕ, [], ◌∷◌, Option, Some, None, option_map, option_and_then}
use Rattle.std.specs.FinMap as map
use Rattle.std.specs.FinMap.{FinMap}
use Rattle.sys_abi.specs.declared.identity.ConnId.{ConnId}
use Rattle.sys_abi.specs.declared.identity.DescId.{DescId}
use Rattle.sys_abi.specs.declared.identity.VirtAddr.{VirtAddr}
use Rattle.sys_abi.specs.Orders.{conn_cmp, desc_cmp}
use Rattle.conn_table.specs.declared.conn.Conn.{Conn}
use Rattle.conn_table.specs.declared.table.ConnTable.{ConnTable}
use Rattle.plain_tables.specs.declared.channel.Channel.{Channel}
use Rattle.plain_tables.specs.declared.channel.ChannelKind.{ChannelKind}
use Rattle.plain_tables.specs.declared.channel.ChannelKind.TheVariants.{Pair, Internet, Pipe}
use Rattle.plain_tables.specs.declared.description.Description.{Description}
use Rattle.plain_tables.specs.declared.description.Object.{Object}
use Rattle.plain_tables.specs.declared.description.Object.TheVariants.{Socket, Listener}
use Rattle.plain_tables.specs.Tables.{Channels, Descriptions}
use Rattle.plain_machine.specs.declared.kernel.PlainKernel.{PlainKernel}

abbrev pub kind_number : ChannelKind → ℕ
kind_number Pair = 0
kind_number Internet = 1
kind_number Pipe = 2

abbrev pub conn_of : ConnId → Channel → Conn
conn_of id channel = record {
  id = id;
  kind = kind_number channel.kind;
  addr = channel.first.address ∷ channel.second.address ∷ [];
  open_ends = channel.first.is_open ∷ channel.second.is_open ∷ [];
}

abbrev pub own_address : Object → Option VirtAddr
own_address (Socket address) = Some address
own_address (Listener address) = Some address
own_address _ = None

abbrev pub address_in : Description → Option VirtAddr
address_in description = own_address description.object

abbrev pub AreConns : Channels → FinMap conn_cmp Conn → Type 0
AreConns channels conns = (id : ConnId) → map.get conns id ≡ option_map (conn_of id) (map.get channels id)

abbrev pub AreNames : Descriptions → FinMap desc_cmp VirtAddr → Type 0
AreNames descriptions names =
    (id : DescId) → map.get names id ≡ option_and_then address_in (map.get descriptions id)

pub record IsTableOf (k : PlainKernel) (t : ConnTable) : Type 0 where
  pub conns : AreConns k.channels t.conns
  pub names : AreNames k.descriptions t.names
  pub makers : t.makers ≡ k.makers
