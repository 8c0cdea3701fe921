-- The ends of channels of a system that stands for a kernel part.
--     channel_some, channel_none     the channel is there where the table has it
--     end_name_is                    the address of an end, as bytes
use Rattle.std.proofs.Common.{◌≡◌, ℕ, Bool, true, false, cond, Option, Some, None, refl, sym, ap, ◌∙◌}
use Rattle.std.specs.Prelude.{◌==◌, slice_index_or, option_map, option_and_then}
use Rattle.std.specs.FinMap as map
use Rattle.sys_abi.specs.declared.identity.ConnId.{ConnId}
use Rattle.conn_table.specs.declared.conn.Conn.{Conn}
use Rattle.plain_tables.specs.declared.channel.Channel as plain
use Rattle.plain_machine.specs.declared.kernel.PlainKernel.{PlainKernel}
use Rattle.plain_machine.specs.Addresses.{pair_bytes}
use Rattle.plain_machine.specs.SocketWords.{shown_as, end_name}
use Rattle.wire_channels.specs.declared.channel.Channel.{Channel}
use Rattle.host_streams.specs.OfHostTables.declared.system.System.{System}
use Rattle.host_streams.specs.OfHostTables.Network.{seen_end, seen_channel}
use Rattle.wrap_names.specs.Wrapping.{IsWrapped}
use Rattle.wrap_names.proofs.Callers.{mapped_some}
use Rattle.wrap_names.specs.Ends.{end_of, end_in}

module _ (s : System) (next_id : ℕ) (k : PlainKernel) (w : IsWrapped s next_id k) (id : ConnId) where
  abbrev seen : Option Conn → Option Channel → Option plain.Channel
  seen conn channel = option_and_then (λ (c : Channel). option_map (seen_channel c) conn) channel

  -- a channel of the table is one of the network
  in_network : (conn : Conn) → map.get s.conns.conns id ≡ Some conn
      → (c : Channel) × (map.get s.kernel.net.channels id ≡ Some c)
  in_network conn is =
      let there =
      mapped_some (λ (c : Channel). c.open_ends) (map.get s.kernel.net.channels id) conn.open_ends
      (sym (w.stands.exact.open_ends id) ∙ ap (option_map (λ (c : Conn). c.open_ends)) is) in
      (there.0, there.1.0)

  pub channel_some : (conn : Conn) → map.get s.conns.conns id ≡ Some conn
      → (c : Channel) × (map.get k.channels id ≡ Some (seen_channel c conn))
  channel_some conn is =
      let there = in_network conn is in (
        there.0,
        w.stands.tables.channels.each id ∙ ap (seen (map.get s.conns.conns id)) there.1
            ∙ ap (option_map (seen_channel there.0)) is,
      )

  nothing : (channel : Option Channel) → seen None channel ≡ None
  nothing None = refl
  nothing (Some c) = refl

  pub channel_none : map.get s.conns.conns id ≡ None → map.get k.channels id ≡ None
  channel_none is =
      w.stands.tables.channels.each id
      ∙ ap (λ o. seen o (map.get s.kernel.net.channels id)) is
      ∙ nothing (map.get s.kernel.net.channels id)

  module _ (side : ℕ) where
    shown_by : (c : Channel) (conn : Conn) (b : Bool)
        → shown_as pair_bytes (cond b (seen_end c conn 0) (seen_end c conn 1)).address
        ≡ shown_as pair_bytes (cond b (slice_index_or conn.addr 0 None) (slice_index_or conn.addr 1 None))
    shown_by c conn true = refl
    shown_by c conn false = refl

    end_by : (o : Option Conn) → map.get s.conns.conns id ≡ o
        → end_name (map.get k.channels id) side ≡ shown_as pair_bytes (option_and_then (end_of side) o)
    end_by None is = ap (λ channel. end_name channel side) (channel_none is)
    end_by (Some conn) is =
        let there = channel_some conn is in
        ap (λ channel. end_name channel side) there.1 ∙ shown_by there.0 conn (side == 0)

    pub end_name_is : end_name (map.get k.channels id) side
        ≡ shown_as pair_bytes (end_in s.conns.conns id side)
    end_name_is = end_by (map.get s.conns.conns id) refl
