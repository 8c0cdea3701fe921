-- A channel that is there is a pipe where the table says so.
--     pipe_is, pipe_told      by its kind, and by the table of channels
use Rattle.std.proofs.Common.{◌≡◌, ℕ, ◌-◌, ◌%◌, Bool, true, false, cond, ◌&&◌, ◌||◌, Option, Some, None, refl, sym, ap, ◌∙◌, subst, arith}
use Rattle.std.specs.Prelude.{◌==◌, option_map, option_and_then, if◌then◌else◌}
use Rattle.std.specs.FinMap as map
use Rattle.std.proofs.lemmas.Option.{same_Some, none-some}
use Rattle.std.proofs.lemmas.Bool.{eqb-true}
use Rattle.views.proofs.MapLaws.{true_false}
use Rattle.sys_abi.specs.declared.identity.ConnId.{ConnId}
use Rattle.sys_abi.specs.declared.identity.DescId.{DescId}
use Rattle.conn_table.specs.declared.conn.Conn.{Conn}
use Rattle.fd_tables.specs.declared.description.Desc.{Desc}
use Rattle.fd_tables.specs.declared.description.Object as real_object
use Rattle.fd_tables.specs.declared.description.Object.TheVariants as object
use Rattle.plain_tables.specs.declared.channel.Channel as plain
use Rattle.plain_tables.specs.declared.channel.ChannelKind.{ChannelKind}
use Rattle.plain_tables.specs.declared.channel.ChannelKind.TheVariants.{Pair, Internet, Pipe}
use Rattle.plain_tables.specs.Objects.{dir}
use Rattle.plain_tables.specs.Tables.{may_write}
use Rattle.plain_tables.specs.Valid.Channels.{IsStream}
use Rattle.plain_machine.specs.declared.kernel.PlainKernel.{PlainKernel}
use Rattle.plain_machine.specs.Kernels.{IsKernel}
use Rattle.plain_machine.specs.SocketWords.{is_pipe, is_pipe_channel}
use Rattle.plain_machine.specs.Transfers.Answers.{may_read}
use Rattle.wire_channels.specs.declared.channel.Channel.{Channel}
use Rattle.host_processes.specs.OfHostTables.declared.kernel.Kernel.{Kernel}
use Rattle.host_processes.specs.OfHostTables.Descriptions.{seen_desc, seen_object}
use Rattle.host_processes.specs.OfHostTables.Network.{seen_channel, is_pipe_conn}
use Rattle.host_processes.specs.OfHostTables.Stands.{Given, Stands}

-- a channel that is there is a pipe where the table says so
pipe_by : (o : Option Channel) (q : Option Conn) (channel : plain.Channel)
    → option_and_then (λ real. option_map (seen_channel real) q) o ≡ Some channel
    → is_pipe_conn q ≡ is_pipe channel.kind
pipe_by None q channel e = absurd (none-some channel e)
pipe_by (Some real) None channel e = absurd (none-some channel e)
pipe_by (Some real) (Some conn) channel e =
    ap (λ (x : plain.Channel). is_pipe x.kind) (same_Some (seen_channel real conn) channel e)

module _ (g : Given) (real : Kernel) (k : PlainKernel) (st : Stands g None real k) (conn : ConnId) where
  pub pipe_is : (channel : plain.Channel) → map.get k.channels conn ≡ Some channel
      → is_pipe_conn (map.get g.conns conn) ≡ is_pipe channel.kind
  pipe_is channel is =
      pipe_by (map.get real.net.channels conn) (map.get g.conns conn) channel (sym
      (st.channels.each conn) ∙ is)

  -- of a channel that is there
  pub pipe_told : (channel : plain.Channel) → map.get k.channels conn ≡ Some channel
      → is_pipe_channel (map.get k.channels conn) ≡ is_pipe_conn (map.get g.conns conn)
  pipe_told channel is = ap is_pipe_channel is ∙ sym (pipe_is channel is)
