use Rattle.std.proofs.Common.{sym, ap, ◌∙◌}
use Rattle.std.specs.FinMap as map
use Rattle.views.proofs.MapLaws.{get_insert_same, insert_insert}
use Rattle.sys_abi.proofs.OrderLaws.{conn_total, conn_exact}
use Rattle.wire_channels.specs.Channels.{new_channel}
use Rattle.wire_net.specs.Networks.{Network}
use Rattle.rebuild_system.proofs.listeners.add_waiting.Goals as goal

pub fill-requires-clause-new : goal.fill-requires-clause-new
fill-requires-clause-new c =
    ap (λ (n : Network). map.get n.channels c.args.id) c.in_ok-connect.ensures.net
    ∙ get_insert_same conn_total conn_exact c.args.net.now.channels c.args.id new_channel

pub returns-clause-channels : goal.returns-clause-channels
returns-clause-channels c = record {
  plain_one = c.in-Some.channel.now;
  real_one = c.fill.ensures.0;
  there = sym c.in-Some.ensures;
  filled = c.fill.ensures.1.0;
  channels =
      ap (λ (n : Network). n.channels) c.fill.ensures.1.1
      ∙ ap (λ (n : Network). map.insert n.channels c.args.id c.fill.ensures.0) c.in_ok-connect.ensures.net
      ∙ insert_insert conn_total conn_exact c.args.net.now.channels c.args.id new_channel c.fill.ensures.0;
}
