use Rattle.std.proofs.Common.{sym, ap, ◌∙◌}
use Rattle.sys_abi.specs.declared.errors.TheConstants.{EADDRINUSE}
use Rattle.plain_machine.specs.SocketWords.{bound_or}
use Rattle.wrap_sockets.proofs.FoundSockets.{no_socket, may_not, no_address, is_found}
use Rattle.wrap_sockets.proofs.listening.find_socket.Goals as goal

pub returns-in-Err : goal.returns-in-Err
returns-in-Err c k next_id p w paired =
    no_socket c.args.system.now k p c.args.who c.args.fd c.in-Err.error
    (c.in-Err.ensures.told k next_id p w paired)

pub returns-in-Err-may_listen : goal.returns-in-Err-may_listen
returns-in-Err-may_listen c k next_id p w paired =
    may_not c.args.system.now k p c.args.who c.args.fd c.in-Ok.held
    (c.in-Ok.ensures.told k next_id p w paired)
    c.in-Err-may_listen.error c.in-Err-may_listen.ensures

pub returns-in-Ok-bound_or : goal.returns-in-Ok-bound_or
returns-in-Ok-bound_or c k next_id p w paired =
    is_found c.args.system.now k p c.args.who c.args.fd c.in-Ok.held
    (c.in-Ok.ensures.told k next_id p w paired)
    c.in-Ok-may_listen.ensures c.in-Ok.ensures.there c.in-Ok-bound_or.address
    (ap (λ own. bound_or k own EADDRINUSE) (sym c.address_of-own.ensures)
    ∙ c.in-Ok-bound_or.ensures k next_id w)

pub returns-in-Err-bound_or : goal.returns-in-Err-bound_or
returns-in-Err-bound_or c k next_id p w paired =
    no_address c.args.system.now k p c.args.who c.args.fd c.in-Ok.held
    (c.in-Ok.ensures.told k next_id p w paired)
    c.in-Ok-may_listen.ensures c.in-Err-bound_or.error
    (ap (λ own. bound_or k own EADDRINUSE) (sym c.address_of-own.ensures)
    ∙ c.in-Err-bound_or.ensures k next_id w)
