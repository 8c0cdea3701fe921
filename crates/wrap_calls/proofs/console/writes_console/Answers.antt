use Rattle.std.proofs.Common.{sym, ◌∙◌}
use Rattle.std.specs.FinMap as map
use Rattle.host_tables.specs.Systems.{given_of}
use Rattle.wrap_calls.proofs.ConsoleTold.{stranger_writes, console_told}
use Rattle.wrap_calls.proofs.PairLooks.{found_pair, no_pair}
use Rattle.wrap_calls.proofs.console.writes_console.Goals as goal

pub returns-in_default : goal.returns-in_default
returns-in_default c k next_id w =
    let s = c.args.system.now in
    sym (stranger_writes (given_of s) s.kernel k w.stands.tables c.args.p c.args.fd
    (no_pair (map.get s.ids.pids c.args.p.0) _ _ (sym c.real_pid.ensures ∙ c.in_default.is)))

pub returns : goal.returns
returns c k next_id w =
    let s = c.args.system.now in
    c.leads_to_console.ensures
    ∙ sym (console_told (given_of s) s.kernel k w.stands.tables c.args.p c.args.fd c.in-Ok.who
    (found_pair (map.get s.ids.pids c.args.p.0) _ c.in-Ok.who (sym c.real_pid.ensures ∙ c.in-Ok.is))
    c.whole.ensures)
