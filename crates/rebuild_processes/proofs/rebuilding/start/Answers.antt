use Rattle.std.proofs.Common.{ap, ◌∙◌}
use Rattle.std.proofs.lemmas.Result.{IfOk-weaker}
use Rattle.rebuild_tables.specs.Hosts.{node_at}
use Rattle.rebuild_processes.proofs.Starts.{IsAt-begun}
use Rattle.rebuild_processes.proofs.rebuilding.start.Goals as goal

pub returns-clause-begun : goal.returns-clause-begun
returns-clause-begun c =
    IfOk-weaker c.begin.result _ _
    (λ r begun. IsAt-begun c.args.hosts.now c.args.kernel.now c.requires.whole c.args.p c.args.process.now
    c.requires.process c.args.m.now c.begin.new.m c.requires.before c.node_at-node.result
    (c.node_at-node.ensures.node ∙ ap (node_at c.args.hosts.now) c.host_of.ensures)
    c.node_at-node.ensures.there r begun)
    c.begin.ensures
