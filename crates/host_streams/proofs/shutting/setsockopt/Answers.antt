use Rattle.std.proofs.Common.{refl, sym, subst}
use Rattle.plain_machine.specs.Rows.Sockets.{setsockopt_row}
use Rattle.host_processes.specs.HandedOn.{seen_held}
use Rattle.host_processes.specs.OfHostTables.declared.attempt.Attempt.TheVariants as answer
use Rattle.host_processes.specs.OfHostTables.Serves.{Serves, ByNumber, same}
use Rattle.host_processes.proofs.OfHostTables.Replies.{gave, refused}
use Rattle.host_streams.proofs.SocketLookUps.{socket_none, socket_some}
use Rattle.host_streams.proofs.SocketRows.{setsockopt_fails, setsockopt_gives}
use Rattle.host_streams.proofs.shutting.setsockopt.Goals as goal

pub returns-in-Err : goal.returns-in-Err
returns-in-Err c g k p whole st paired x named =
    let real = c.args.kernel.now in
    let e = c.in-Err.error in
    refused g real x ByNumber e.0 (setsockopt_row k p c.args.fd)
    (setsockopt_fails k p c.args.fd e.0
    (socket_none g real k st p c.args.who paired c.whole.ensures c.args.fd c.args.of_pipe named
    c.socket_at.result c.socket_at.ensures e c.in-Err.is))

pub returns-in-Ok : goal.returns-in-Ok
returns-in-Ok c g k p whole st paired x named =
    let real = c.args.kernel.now in
    let h = c.in-Ok.field-0 in
    let socket = socket_some g real k st p c.args.who paired c.whole.ensures c.args.fd c.args.of_pipe named
    c.socket_at.result c.socket_at.ensures h c.in-Ok.is in
    subst (Serves ByNumber same g real real x x (answer.Gives 0))
    (sym (setsockopt_gives k p c.args.fd (seen_held g real h) socket))
    (gave g real x ByNumber k 0 0 refl real st (answer.Gives 0) refl)
