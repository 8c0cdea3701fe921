use Rattle.std.proofs.Common.{sym, ◌∙◌}
use Rattle.std.specs.FinMap as map
use Rattle.host_tables.specs.Systems.{given_of}
use Rattle.host_tables.proofs.LookUps.{lives_of}
use Rattle.wrap_passing.proofs.PendingSignals.{found_pair, no_pair, lives_unpaired}
use Rattle.wrap_passing.proofs.looks.lives.Goals as goal

pub returns-in_default : goal.returns-in_default
returns-in_default c k next_id w =
    let s = c.args.system.now in
    sym (lives_unpaired (given_of s) s.kernel k w.stands.tables c.args.p
    (no_pair (map.get s.ids.pids c.args.p.0) _ _ (sym c.real_pid.ensures ∙ c.in_default.is)))

pub returns : goal.returns
returns c k next_id w =
    let s = c.args.system.now in
    c.is_live.ensures
    ∙ sym (lives_of (given_of s) s.kernel k w.stands.tables c.args.p c.in-Ok.who
    (found_pair (map.get s.ids.pids c.args.p.0) _ c.in-Ok.who (sym c.real_pid.ensures ∙ c.in-Ok.is)))
