use Rattle.std.proofs.Common.{◌≡◌, Ok, Err, subst}
use Rattle.plain_machine.specs.Rows.Sockets.{bind_row}
use Rattle.host_streams.specs.OfHostTables.Systems.{given_of}
use Rattle.wrap_names.specs.Binding.{bound_told}
use Rattle.wrap_names.proofs.BoundRow.{bind_unable, bind_done, bind_starved}
use Rattle.wrap_names.proofs.binding.bind.Goals as goal

pub returns-in-Err : goal.returns-in-Err
returns-in-Err c k next_id p w paired whole =
    let s = c.args.system.now in
    let given = c.args.transfer.now in
    let row = bind_row k p c.args.fd c.args.length in
    bind_unable s next_id k w given (row given) c.in-Err.error
    (subst (λ bytes. row bytes ≡ bound_told (given_of s) s.kernel k (Err c.in-Err.error))
    c.as_slice.ensures.value (c.in-Err.ensures.told k next_id p w paired))

pub returns-in-Ok-set_name : goal.returns-in-Ok-set_name
returns-in-Ok-set_name c k next_id p w paired whole =
    let s = c.args.system.now in
    let given = c.args.transfer.now in
    let row = bind_row k p c.args.fd c.args.length in
    bind_done s next_id k w given (row given) c.args.who c.args.fd c.in-Ok.bound c.in-Ok.ensures.there
    (subst (λ bytes. row bytes ≡ bound_told (given_of s) s.kernel k (Ok c.in-Ok.bound))
    c.as_slice.ensures.value (c.in-Ok.ensures.told k next_id p w paired)) whole c.set_name.new.self
    c.in-Ok-set_name.ensures.ok

pub returns-in-Err-set_name : goal.returns-in-Err-set_name
returns-in-Err-set_name c k next_id p w paired whole =
    bind_starved c.args.system.now next_id k w c.args.transfer.now
    (bind_row k p c.args.fd c.args.length c.args.transfer.now) c.set_name.new.self
    c.in-Err-set_name.ensures.err
