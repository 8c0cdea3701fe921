use Rattle.std.proofs.Common.{◌≡◌, Some, Result, sym, ap, ◌∙◌, subst}
use Rattle.std.specs.Prelude.{IfOk}
use Rattle.sys_abi.specs.declared.reply.Errno.{Errno}
use Rattle.fd_tables.specs.Slots as slots
use Rattle.plain_machine.specs.SocketWords.{socket_at}
use Rattle.plain_ports.specs.Told.{told}
use Rattle.host_streams.specs.HandedOn.{Held}
use Rattle.host_streams.specs.HandedOn.{held_in, seen_held}
use Rattle.host_streams.specs.PipeEnds.{socket_in}
use Rattle.host_streams.specs.OfHostTables.Systems.{given_of}
use Rattle.wrap_names.proofs.Sockets.{socket_told, socket_there}
use Rattle.wrap_names.proofs.look_ups.socket_at.Goals as goal

pub returns-clause-told : goal.returns-clause-told
returns-clause-told c k next_id p w paired =
    let s = c.args.system.now in
    let at = slots.slot c.args.who c.args.fd in
    subst (λ (r : Result Held Errno). socket_at k p c.args.fd ≡ told (seen_held (given_of s) s.kernel) r)
    (sym (c.socket_in.ensures ∙ ap (socket_in s.kernel.book at) c.leads_to_pipe.ensures))
    (socket_told s next_id k w p c.args.who paired c.whole.ensures c.args.fd)

pub returns-clause-there : goal.returns-clause-there
returns-clause-there c =
    let s = c.args.system.now in
    let at = slots.slot c.args.who c.args.fd in
    subst (λ (r : Result Held Errno). IfOk r (λ (h : Held). held_in s.kernel.book at ≡ Some h))
    (sym c.socket_in.ensures) (socket_there s.kernel.book at c.leads_to_pipe.result)
