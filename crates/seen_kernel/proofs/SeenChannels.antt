-- The channels of a table, taken in their order.
--     ChannelsFront conns seen above      those that do not come after the last one are there
--     channels_begun, channels_on, channels_fewer, channels_done
use Rattle.std.proofs.Common.{◌≡◌, ◌<◌, refl, sym, ap, subst, ◌∙◌}
use Rattle.std.specs.Prelude.{Option, Some, None, is_some, find, option_map, option_and_then}
use Rattle.std.specs.Option.{option_map_or}
use Rattle.std.specs.FinMap as map
use Rattle.std.proofs.lemmas.Option.{same_Some, none-some}
use Rattle.views.specs.Maps.{map_values}
use Rattle.views.proofs.MapLaws.{true_false}
use Rattle.views.proofs.MapValues.{get-map_values}
use Rattle.sys_abi.specs.declared.identity.ConnId.{ConnId}
use Rattle.sys_abi.proofs.OrderLaws.{conn_total, conn_exact}
use Rattle.conn_table.specs.declared.conn.Conn.{Conn}
use Rattle.conn_table.specs.Conns.{is_above}
use Rattle.plain_tables.specs.Tables.{Channels}
use Rattle.wire_channels.specs.declared.channel.Channel.{Channel}
use Rattle.host_tables.specs.Network.{Conns, seen_channel}
use Rattle.seen_kernel.specs.Channels.{channel_of, channel_with, ends_of, with_channel, AreChannels}
use Rattle.leader_vote.proofs.KeptOwners.{value_of}
use Rattle.leader_vote.proofs.Walks.{count_of, next_is}
use Rattle.seen_kernel.proofs.Parts.{nothing_yet}
use Rattle.seen_kernel.proofs.Fronts.{IsFront, front_on, front_fewer, front_done}

abbrev all_of : Conns → Channels
all_of conns = map_values channel_of conns

abbrev pub ChannelsFront : Conns → Channels → Option ConnId → Type 0
ChannelsFront conns seen above = IsFront conns (all_of conns) seen (is_above above)

pub channels_begun : (conns : Conns) → ChannelsFront conns map.empty None
channels_begun conns = record {
  part = nothing_yet (all_of conns);
  passed = λ id has behind. true_false behind;
}

module _ (conns : Conns) (above : Option ConnId) (id : ConnId)
    (next : find (is_above above) (map.keys conns) ≡ Some id) where
  pub channels_on : (seen : Channels) → ChannelsFront conns seen above
      → ChannelsFront conns (with_channel conns seen id) (Some id)
  channels_on seen front =
      let there = (next_is conn_total conn_exact conns is_above (λ k. refl) (λ a k. refl) above id next).0 in
      let x = value_of (map.get conns id) there in
      subst (λ found. ChannelsFront conns
      (option_map_or (λ (conn : Conn). map.insert seen id (channel_of conn)) found seen) (Some id))
      (sym x.1)
      (front_on conn_total conn_exact conns is_above (λ k. refl) (λ a k. refl) (all_of conns) seen above id
      (channel_of x.0) next (get-map_values channel_of conns id ∙ ap (option_map channel_of) x.1) front)

  pub channels_fewer : count_of (is_above (Some id)) (map.keys conns)
      < count_of (is_above above) (map.keys conns)
  channels_fewer =
      front_fewer conn_total conn_exact conns is_above (λ k. refl) (λ a k. refl) above id next

-- kinds and addresses are the table's, and the ends that are open are the same on both sides
seen_alike : (found : Option Conn) (there : Option Channel)
    → option_map (λ (conn : Conn). conn.open_ends) found ≡ ends_of there
    → option_map channel_of found
    ≡ option_and_then (λ channel. option_map (seen_channel channel) found) there
seen_alike None None same = refl
seen_alike None (Some channel) same = absurd (none-some channel.open_ends same)
seen_alike (Some conn) None same = absurd (none-some conn.open_ends (sym same))
seen_alike (Some conn) (Some channel) same =
    ap (λ open_ends. Some (channel_with conn open_ends)) (same_Some conn.open_ends channel.open_ends same)

all_alike : (conns : Conns) → AreChannels conns (all_of conns)
all_alike conns real virt same ends =
    map.same_map conn_total conn_exact (all_of conns) virt (λ id.
    get-map_values channel_of conns id ∙ seen_alike (map.get conns id) (map.get real id) (ends id)
    ∙ sym (same.each id))

kept_some : {X Y : Type 0} (f : X → Y) (o : Option X) → is_some (option_map f o) ≡ is_some o
kept_some f None = refl
kept_some f (Some x) = refl

pub channels_done : (conns : Conns) (seen : Channels) (above : Option ConnId)
    → find (is_above above) (map.keys conns) ≡ None → ChannelsFront conns seen above → AreChannels conns seen
channels_done conns seen above none front =
    subst (AreChannels conns)
    (sym (front_done conn_total conn_exact conns is_above (λ k. refl) (λ a k. refl) (all_of conns) seen above
    (λ id. ap is_some (get-map_values channel_of conns id) ∙ kept_some channel_of (map.get conns id))
    none front))
    (all_alike conns)
