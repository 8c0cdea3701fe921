-- A network whose channels are all filled has the channels of the kernel part, by a table that has their
-- kinds and addresses.
--     IsConnOf channel conn      the table's entry of the channel
--     SameChannels-filled        all channels
--     open_ends-filled           the same ends are open in the table
use Rattle.std.proofs.Common.{◌≡◌, Bool, false, List, [], ◌∷◌, length, Option, Some, None, refl, sym, ap, ◌∙◌}
use Rattle.std.specs.Prelude.{is_some, IsSome, option_map, option_and_then, slice_index_or}
use Rattle.std.specs.FinMap as map
use Rattle.views.specs.Seen.{Agree}
use Rattle.views.proofs.Seen.{agree_real}
use Rattle.sys_abi.specs.declared.identity.ConnId.{ConnId}
use Rattle.sys_abi.specs.declared.identity.VirtAddr.{VirtAddr}
use Rattle.conn_table.specs.declared.conn.Conn.{Conn}
use Rattle.plain_tables.specs.declared.channel.Channel as plain
use Rattle.plain_tables.specs.declared.channel.ChannelKind.{ChannelKind}
use Rattle.plain_tables.specs.Tables as tables
use Rattle.wire_channels.specs.declared.channel.Channel.{Channel}
use Rattle.wire_channels.specs.Channels.{Channels}
use Rattle.host_tables.specs.Network.{Conns, kind_of, seen_channel, SameChannels}
use Rattle.rebuild_tables.specs.Filled.{IsFilled}

abbrev pub ends_of : plain.Channel → List Bool
ends_of channel = channel.first.is_open ∷ channel.second.is_open ∷ []

pub record IsConnOf (channel : plain.Channel) (conn : Conn) : Type 0 where
  pub kind : kind_of conn.kind ≡ channel.kind
  pub addresses : conn.addr ≡ channel.first.address ∷ channel.second.address ∷ []
  pub open_ends : conn.open_ends ≡ ends_of channel

abbrev seen : ChannelKind → List (Option VirtAddr) → List Bool → plain.Channel
seen kind addr ends = record {
  kind = kind;
  first = record { address = slice_index_or addr 0 None; is_open = slice_index_or ends 0 false };
  second = record { address = slice_index_or addr 1 None; is_open = slice_index_or ends 1 false };
}

seen_is : (channel : plain.Channel) (c : Channel) (conn : Conn) → c.open_ends ≡ ends_of channel
    → IsConnOf channel conn → seen_channel c conn ≡ channel
seen_is channel c conn ends is =
    ap (λ kind. seen kind conn.addr c.open_ends) is.kind
    ∙ ap (λ addr. seen channel.kind addr c.open_ends) is.addresses
    ∙ ap (seen channel.kind (channel.first.address ∷ channel.second.address ∷ [])) ends

module _ (channels : tables.Channels) (directions : tables.Directions) (real : Channels)
    (filled : (id : ConnId) → Agree (IsFilled directions id) (map.get channels id) (map.get real id))
    (conn_of : ConnId → plain.Channel → Conn)
    (is : (id : ConnId) (channel : plain.Channel) → IsConnOf channel (conn_of id channel)) (conns : Conns)
    (told : (id : ConnId) → map.get conns id ≡ option_map (conn_of id) (map.get channels id)) where
  each_by : (id : ConnId) (o : Option plain.Channel) (q : Option Channel) → Agree (IsFilled directions id) o q
      → o ≡ option_and_then (λ c. option_map (seen_channel c) (option_map (conn_of id) o)) q
  each_by id None None h = refl
  each_by id None (Some c) h = absurd h
  each_by id (Some channel) None h = absurd h
  each_by id (Some channel) (Some c) h =
      ap Some (sym (seen_is channel c (conn_of id channel) h.open_ends (is id channel)))

  listed_by : (id : ConnId) (o : Option plain.Channel) (q : Option Channel)
      → Agree (IsFilled directions id) o q → IsSome q → IsSome (option_map (conn_of id) o)
  listed_by id None None h there = there
  listed_by id None (Some c) h there = absurd h
  listed_by id (Some channel) q h there = refl

  pub SameChannels-filled : SameChannels conns channels real
  SameChannels-filled = record {
    each = λ id. each_by id (map.get channels id) (map.get real id) (filled id)
        ∙ ap (λ found. option_and_then (λ c. option_map (seen_channel c) found) (map.get real id))
        (sym (told id));
    listed = λ id there. ap is_some (told id)
        ∙ listed_by id (map.get channels id) (map.get real id) (filled id) there;
    sides = λ id c at.
        let own =
        agree_real (IsFilled directions id) (map.get channels id) (map.get real id) c (filled id) at in
        ap length own.1.1.open_ends;
  }

  ends_by : (id : ConnId) (o : Option plain.Channel) (q : Option Channel) → Agree (IsFilled directions id) o q
      → option_map (λ (conn : Conn). conn.open_ends) (option_map (conn_of id) o)
      ≡ option_map (λ (c : Channel). c.open_ends) q
  ends_by id None None h = refl
  ends_by id None (Some c) h = absurd h
  ends_by id (Some channel) None h = absurd h
  ends_by id (Some channel) (Some c) h = ap Some ((is id channel).open_ends ∙ sym h.open_ends)

  pub open_ends-filled : (id : ConnId) → option_map (λ (conn : Conn). conn.open_ends) (map.get conns id)
      ≡ option_map (λ (c : Channel). c.open_ends) (map.get real id)
  open_ends-filled id =
      ap (option_map (λ (conn : Conn). conn.open_ends)) (told id)
      ∙ ends_by id (map.get channels id) (map.get real id) (filled id)
