use Rattle.std.proofs.Common.{sym, ap, subst, ◌∙◌}
use Rattle.proc_book.specs.Procs.{ProcTable, wait_for}
use Rattle.proc_book.specs.Waits.{Finds}
use Rattle.proc_book.proofs.Leasts.{finds-wait_any}
use Rattle.proc_book.proofs.procs.Procs.look.Goals as goal

pub returns-clause-least : goal.returns-clause-least
returns-clause-least c any =
    let all = c.self.inside.processes in
    subst (λ (t : ProcTable). Finds t.processes c.args.p c.wait_for.result) c.self.view_is
    (subst (Finds all c.args.p) (sym (c.wait_for.ensures ∙ ap (wait_for all c.args.p) any)) (finds-wait_any c.args.p all))
