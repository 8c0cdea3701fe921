use Rattle.std.proofs.Common.{sym, ◌∙◌}
use Rattle.host_tables.specs.Systems.{given_of}
use Rattle.wrap_calls.proofs.ConnectNames.{if_none, if_told}
use Rattle.wrap_calls.proofs.connecting.socket_address.Goals as goal

pub returns-in_default : goal.returns-in_default
returns-in_default c k next_id p w paired =
    let s = c.args.system.now in
    if_none (given_of s) s.kernel k w.stands.tables p c.args.who paired c.args.fd _ c.whole.ensures
    (sym c.held_at.ensures ∙ c.in_default.is)

pub returns : goal.returns
returns c k next_id p w paired =
    let s = c.args.system.now in
    if_told (given_of s) s.kernel k w.stands.tables p c.args.who paired c.args.fd _ c.in-Some.held
    (sym c.held_at.ensures ∙ c.in-Some.is) (sym c.address_of.ensures)
