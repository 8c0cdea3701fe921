use Rattle.std.proofs.Common.{sym, ap, subst}
use Rattle.host_tables.specs.HandedOn.{Network}
use Rattle.host_descriptors.specs.LetGo.{HasLetGo}
use Rattle.host_descriptors.proofs.LetGoes.{listener_let_go}
use Rattle.host_descriptors.proofs.releasing.let_go.Goals as goal

pub returns-in-Listener : goal.returns-in-Listener
returns-in-Listener c =
    subst (HasLetGo c.args.kernel.now (record c.args.kernel.now { net = c.close_listener.new.self }))
    (sym c.in-Listener.is)
    (listener_let_go c.args.kernel.now (record c.args.kernel.now { net = c.close_listener.new.self })
    c.in-Listener.at (ap (λ (t : Network). record c.args.kernel.now { net = t }) c.close_listener.ensures))
