use Rattle.std.proofs.Common.{sym, ◌∙◌}
use Rattle.host_processes.proofs.CloneRows.{fork_full, fork_serves}
use Rattle.host_processes.proofs.cloning.fork.Goals as goal

pub returns-then-is_full-clause-ok : goal.returns-then-is_full-clause-ok
returns-then-is_full-clause-ok c g k p whole st paired flags x last below =
    fork_full g c.args.kernel.now k whole st p c.args.who paired flags x last
    (sym c.is_full.ensures ∙ c.if-is_full.true)

pub returns-clause-ok : goal.returns-clause-ok
returns-clause-ok c g k p whole st paired flags x last below =
    fork_serves g c.args.kernel.now k whole st p c.args.who paired flags x last c.requires.alive below
    (sym c.is_full.ensures ∙ c.if-is_full.false) c.start_child.new.book c.start_child.new.procs
    c.next_real-pid.result c.next_real-pid.ensures.number c.in_ok-start_child.ensures.shared
    c.in_ok-start_child.ensures.started
