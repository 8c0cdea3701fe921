use Rattle.std.proofs.Common.{◌≡◌, ap, ◌∙◌}
use Rattle.std.specs.Prelude.{None, is_some}
use Rattle.std.specs.FinMap as map
use Rattle.views.proofs.MapLaws.{remove_insert_new}
use Rattle.sys_abi.proofs.OrderLaws.{conn_total, conn_exact}
use Rattle.wire_channels.specs.Channels.{Channels}
use Rattle.wire_net.specs.Networks.{Network}
use Rattle.wire_net.proofs.NetworkParts.{same_network}
use Rattle.wire_net.proofs.PortsInUse.{none_there}
use Rattle.wire_net.proofs.net.Net.connect.Goals as goal

pub returns-in_default-wait_at-clause-err : goal.returns-in_default-wait_at-clause-err
returns-in_default-wait_at-clause-err c =
    let absent : map.get c.self.inside.channels c.args.id ≡ None =
    none_there _ (ap (λ (t : Network). is_some (map.get t.channels c.args.id)) c.self.view_is ∙ c.requires) in
    let undone : c.remove.new.self ≡ c.self.inside.channels =
    c.remove.ensures.removed ∙ ap (λ (m : Channels). map.remove m c.args.id) c.in_ok-insert.ensures.ok
    ∙ remove_insert_new conn_total conn_exact c.self.inside.channels c.args.id c.in_ok-channel.channel absent in
    same_network c.self.inside.nodes c.self.inside.port_base _ _ _ _ c.in_default-wait_at.ensures.err undone ∙ c.self.view_is
