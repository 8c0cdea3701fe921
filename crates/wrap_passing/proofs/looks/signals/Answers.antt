use Rattle.std.proofs.Common.{sym, ◌∙◌}
use Rattle.std.specs.FinMap as map
use Rattle.host_tables.specs.Systems.{given_of}
use Rattle.wrap_passing.proofs.PendingSignals.{found_pair, no_pair, none_pending, process_pending, thread_pending}
use Rattle.wrap_passing.proofs.looks.signals.Goals as goal

pub returns-in_default : goal.returns-in_default
returns-in_default c k next_id w =
    let s = c.args.system.now in
    sym (none_pending (given_of s) s.kernel k w.stands.tables c.args.p c.args.t.0
    (no_pair (map.get s.ids.pids c.args.p.0) _ _ (sym c.real_pid.ensures ∙ c.in_default.is)))

pub returns-in_default-real_thread : goal.returns-in_default-real_thread
returns-in_default-real_thread c k next_id w =
    let s = c.args.system.now in
    c.pending_of.ensures
    ∙ process_pending (given_of s) s.kernel k w.stands.tables c.args.p c.in-Ok.who
    (found_pair (map.get s.ids.pids c.args.p.0) _ c.in-Ok.who (sym c.real_pid.ensures ∙ c.in-Ok.is)) c.args.t.0
    (sym c.real_thread.ensures ∙ c.in_default-real_thread.is)

pub returns : goal.returns
returns c k next_id w =
    let s = c.args.system.now in
    c.pending.ensures
    ∙ thread_pending (given_of s) s.kernel k w.stands.tables c.args.p c.in-Ok.who
    (found_pair (map.get s.ids.pids c.args.p.0) _ c.in-Ok.who (sym c.real_pid.ensures ∙ c.in-Ok.is)) c.args.t.0
    c.in-Some.thread (sym c.real_thread.ensures ∙ c.in-Some.is)
