use Rattle.std.proofs.Common.{◌≤◌, ap, subst, sym, ◌∙◌}
use Rattle.std.specs.FinMap as map
use Rattle.views.proofs.MapLaws.{get_insert_same, get_insert_other}
use Rattle.sys_abi.proofs.OrderLaws.{conn_total, conn_exact}
use Rattle.discovery.specs.Directories.{Publications}
use Rattle.rebuild_system.specs.Nets.{IsAtAccepting}
use Rattle.rebuild_system.specs.Steps.{reached_at}
use Rattle.rebuild_system.proofs.Reached.{reached_here}
use Rattle.rebuild_system.proofs.streams.make_channel.Goals as goal

pub returns-then-channel-2-clause-reached : goal.returns-then-channel-2-clause-reached
returns-then-channel-2-clause-reached c first second =
    let h = c.args.hosts.now in
    let k = c.args.kernel.now in
    let id = c.args.id in
    let met = c.in_ok-join.ensures.found in
    reached_here h k id c.args.channel.now c.join.new.directory met.0
    (ap (λ (m : Publications). map.get m id) met.1.1.1
    ∙ get_insert_same conn_total conn_exact c.args.directory.now id (reached_at met.0))
    (subst (λ n. n ≤ met.0.port) c.requires.base met.1.1.0)
    (subst (λ n. IsAtAccepting h k id c.args.channel.now.kind n) (sym met.1.0) c.accepting_node-node.ensures)

pub returns-then-channel-2-clause-others : goal.returns-then-channel-2-clause-others
returns-then-channel-2-clause-others c q differ =
    let met = c.in_ok-join.ensures.found in
    ap (λ (m : Publications). map.get m q) met.1.1.1
    ∙ get_insert_other conn_total conn_exact c.args.directory.now c.args.id (reached_at met.0) q differ
