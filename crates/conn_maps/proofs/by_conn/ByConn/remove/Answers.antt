use Rattle.std.proofs.Common.{ap, ◌∙◌}
use Rattle.sys_abi.proofs.OrderLaws.{conn_total, conn_exact}
use Rattle.std.specs.FinMap as map
use Rattle.sys_abi.proofs.OfViews.TreeMaps.{get-seen, view-remove}
use Rattle.conn_maps.proofs.by_conn.ByConn.remove.Goals as goal

pub returns-clause-before : goal.returns-clause-before
returns-clause-before g c = get-seen conn_total c.self.inside.entries c.args.self.now c.args.key _ c.remove.ensures.value c.self.view_is

pub returns-clause-removed : goal.returns-clause-removed
returns-clause-removed g c =
    view-remove conn_total conn_exact c.self.inside.entries c.remove.new.self c.args.key c.remove.ensures.updates.0
    ∙ ap (λ m. map.remove m c.args.key) c.self.view_is
