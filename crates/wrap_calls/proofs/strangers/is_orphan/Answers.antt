use Rattle.std.proofs.Common.{sym, ap, ◌∙◌}
use Rattle.std.specs.Prelude.{not, is_some}
use Rattle.std.specs.FinMap as map
use Rattle.host_tables.specs.Systems.{given_of}
use Rattle.wrap_calls.proofs.Orphans.{absent_told, one_orphan, ended_orphan, live_orphan}
use Rattle.wrap_calls.proofs.PairLooks.{found_pair, no_pair}
use Rattle.wrap_calls.proofs.strangers.is_orphan.Goals as goal

pub returns-in_default : goal.returns-in_default
returns-in_default c k next_id w =
    let s = c.args.system.now in
    absent_told (given_of s) s.kernel k w.stands.tables w.stands.kernel c.args.number
    (no_pair (map.get s.ids.pids c.args.number) _ _ (sym c.real_pid.ensures ∙ c.in_default.is))

pub returns-then-not-is_live : goal.returns-then-not-is_live
returns-then-not-is_live c k next_id w =
    let s = c.args.system.now in
    sym (ap not (ended_orphan
    (map.get s.kernel.procs.processes c.in-Ok.real) (sym c.is_live.ensures ∙ c.if-not-is_live.true)))
    ∙ one_orphan (given_of s) s.kernel k w.stands.tables w.stands.kernel c.args.number c.in-Ok.real
    (found_pair (map.get s.ids.pids c.args.number) _ c.in-Ok.real (sym c.real_pid.ensures ∙ c.in-Ok.is))

pub returns : goal.returns
returns c k next_id w =
    let s = c.args.system.now in
    sym c.is_none.ensures ∙ ap is_some c.parent.ensures
    ∙ live_orphan (map.get s.kernel.procs.processes c.in-Ok.real) (sym c.is_live.ensures
    ∙ c.if-not-is_live.false)
    ∙ one_orphan (given_of s) s.kernel k w.stands.tables w.stands.kernel c.args.number c.in-Ok.real
    (found_pair (map.get s.ids.pids c.args.number) _ c.in-Ok.real (sym c.real_pid.ensures ∙ c.in-Ok.is))
