-- The table of channels and sockets of a kernel part has what the network has, and nothing else.
--     only_named         each address is that of a socket or listener
--     is_conn_of         the entry of each channel has its kind, its addresses and its open ends
--     are_entries        each channel stands under its own name, with two sides
use Rattle.std.proofs.Common.{◌≡◌, true, refl, sym, subst, ◌∙◌}
use Rattle.std.specs.Prelude.{Option, Some, None, option_map, option_and_then}
use Rattle.std.specs.FinMap as map
use Rattle.std.proofs.lemmas.Option.{same_Some, none-some}
use Rattle.sys_abi.specs.declared.identity.ConnId.{ConnId}
use Rattle.sys_abi.specs.declared.identity.DescId.{DescId}
use Rattle.sys_abi.specs.declared.identity.VirtAddr.{VirtAddr}
use Rattle.conn_table.specs.declared.conn.Conn.{Conn}
use Rattle.conn_table.specs.declared.table.ConnTable.{ConnTable}
use Rattle.plain_tables.specs.declared.channel.Channel.{Channel}
use Rattle.plain_tables.specs.declared.channel.ChannelKind.{ChannelKind}
use Rattle.plain_tables.specs.declared.channel.ChannelKind.TheVariants.{Pair, Internet, Pipe}
use Rattle.plain_tables.specs.declared.description.Description.{Description}
use Rattle.plain_tables.specs.declared.description.Object.{Object}
use Rattle.plain_tables.specs.declared.description.Object.TheVariants.{Console, File, Stream, Socket, Listener, Datagram, Counter}
use Rattle.plain_machine.specs.declared.kernel.PlainKernel.{PlainKernel}
use Rattle.host_tables.specs.Network.{kind_of}
use Rattle.host_tables.specs.Systems.{has_own_name, is_named_in, IsEntry}
use Rattle.rebuild_tables.specs.ConnTables.{IsTableOf, kind_number, conn_of, own_address, address_in}
use Rattle.rebuild_tables.proofs.SeenChannels.{IsConnOf}

kind_back : (kind : ChannelKind) → kind_of (kind_number kind) ≡ kind
kind_back Pair = refl
kind_back Internet = refl
kind_back Pipe = refl

pub is_conn_of : (id : ConnId) (channel : Channel) → IsConnOf channel (conn_of id channel)
is_conn_of id channel = record { kind = kind_back channel.kind; addresses = refl; open_ends = refl }

module _ (k : PlainKernel) (t : ConnTable) (is : IsTableOf k t) where
  own_named : (object : Object) (a : VirtAddr) → own_address object ≡ Some a → has_own_name object ≡ true
  own_named Console a own = absurd (none-some a own)
  own_named (File number offset) a own = absurd (none-some a own)
  own_named (Stream conn side) a own = absurd (none-some a own)
  own_named (Socket address) a own = refl
  own_named (Listener address) a own = refl
  own_named (Datagram peer) a own = absurd (none-some a own)
  own_named (Counter value) a own = absurd (none-some a own)

  named_in : (found : Option Description) (a : VirtAddr) → option_and_then address_in found ≡ Some a
      → is_named_in found ≡ true
  named_in None a own = absurd (none-some a own)
  named_in (Some description) a own = own_named description.object a own

  pub only_named : (id : DescId) (a : VirtAddr) → map.get t.names id ≡ Some a
      → is_named_in (map.get k.descriptions id) ≡ true
  only_named id a found = named_in (map.get k.descriptions id) a (sym (is.names id) ∙ found)

  pub are_entries : (id : ConnId) (conn : Conn) → map.get t.conns id ≡ Some conn → IsEntry id conn
  are_entries id conn found = by_channel (map.get k.channels id) (sym (is.conns id) ∙ found)
    where
      by_channel : (channel : Option Channel) → option_map (conn_of id) channel ≡ Some conn → IsEntry id conn
      by_channel None listed = absurd (none-some conn listed)
      by_channel (Some channel) listed =
          subst (IsEntry id) (same_Some (conn_of id channel) conn listed)
          (record { own = refl; addresses = refl; sides = refl })
