use Rattle.std.proofs.Common.{Err, ap}
use Rattle.host_descriptors.proofs.OfHostTables.PortsLeft.{ports_left}
use Rattle.host_sockets.proofs.ListenRows.{unable_listens, serves_listening}
use Rattle.host_sockets.proofs.listening.listen.Goals as goal

pub returns-in-Err-clause-ok : goal.returns-in-Err-clause-ok
returns-in-Err-clause-ok c g k p whole st paired x named =
    unable_listens g c.args.kernel.now k st whole p c.args.who paired c.args.fd c.args.backlog x
    c.whole.ensures
    c.args.of_pipe c.args.port_free named c.in-Err.error c.in-Err.ensures

pub returns-in-Ok-listen_at-clause-ok : goal.returns-in-Ok-listen_at-clause-ok
returns-in-Ok-listen_at-clause-ok c g k p whole st paired x named =
    serves_listening g c.args.kernel.now k st whole p c.args.who paired c.args.fd c.args.backlog x
    c.whole.ensures
    c.args.of_pipe c.args.port_free named c.in-Ok.held c.in-Ok.ensures c.in-Ok-listen_at.at
    c.args.kernel.now.net.port_base c.in-Ok-listen_at.ensures.port c.listen_at.new.kernel
    c.in-Ok-listen_at.ensures.ok

-- each node has a port left
pub returns-in-Err-PortUsed-clause-ok : goal.returns-in-Err-PortUsed-clause-ok
returns-in-Err-PortUsed-clause-ok c g k p whole st paired x named =
    absurd (ports_left k c.args.kernel.now.nodes g.addresses g.ports c.args.kernel.now.net.listeners whole
    st.listeners c.args.who.node c.args.kernel.now.net.port_base
    (c.in-Err-PortUsed.ensures.used.0 (ap Err c.in-Err-PortUsed.field-0-is)))
