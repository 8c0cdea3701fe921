use Rattle.std.proofs.Common.{sym, subst}
use Rattle.plain_machine.specs.Rows.Sockets.{shutdown_row}
use Rattle.host_processes.specs.HandedOn.{seen_held}
use Rattle.host_processes.specs.OfHostTables.Serves.{Serves, ByNumber, same}
use Rattle.host_processes.proofs.OfHostTables.Replies.{refused}
use Rattle.host_streams.proofs.SocketLookUps.{socket_none, socket_some}
use Rattle.host_streams.proofs.SocketRows.{shutdown_fails, shutdown_is}
use Rattle.host_streams.proofs.shutting.shutdown.Goals as goal

pub returns-in-Err-clause-row : goal.returns-in-Err-clause-row
returns-in-Err-clause-row c g k p whole st paired x named =
    let real = c.args.kernel.now in
    let e = c.in-Err.error in
    refused g real x ByNumber e.0 (shutdown_row k p c.args.fd c.args.how)
    (shutdown_fails k p c.args.fd c.args.how e.0
    (socket_none g real k st p c.args.who paired c.whole.ensures c.args.fd c.args.of_pipe named
    c.socket_at.result c.socket_at.ensures e c.in-Err.is))

pub returns-in-Ok-clause-row : goal.returns-in-Ok-clause-row
returns-in-Ok-clause-row c g k p whole st paired x named =
    let real = c.args.kernel.now in
    let h = c.in-Ok.held in
    let socket = socket_some g real k st p c.args.who paired c.whole.ensures c.args.fd c.args.of_pipe named
    c.socket_at.result c.socket_at.ensures h c.in-Ok.is in
    subst (Serves ByNumber same g real c.shut_object.new.kernel x x c.shut_object.result)
    (sym (shutdown_is k p c.args.fd c.args.how (seen_held g real h) socket))
    (c.shut_object.ensures.row g k h.desc x st)
