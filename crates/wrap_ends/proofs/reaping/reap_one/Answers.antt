use Rattle.std.proofs.Common.{None, refl, sym, ◌∙◌, subst}
use Rattle.virt_ids.specs.Pairs.{Pairs}
use Rattle.conn_table.specs.declared.table.ConnTable.{ConnTable}
use Rattle.proc_book.specs.Procs.{ProcTable, wait_for}
use Rattle.wrap_ends.specs.Ending.{EndsAs, IsAlone, IsFewer, without_number}
use Rattle.wrap_ends.proofs.Steps.{number_told, none_told}
use Rattle.wrap_ends.proofs.Zombies.{stays, none_left, step, always_paired, told_ended, not_ended, nothing_waited}
use Rattle.wrap_ends.proofs.reaping.reap_one.Goals as goal

pub returns-in_default : goal.returns-in_default
returns-in_default c k next_id p w paired alive =
    let s = c.args.system.now in
    let who = c.args.who in
    let found = wait_for s.kernel.procs.processes who None in
    let none = not_ended found _ c.in_default.ensures.answer in
    subst (λ (t : ProcTable). EndsAs (record s { kernel = record s.kernel { procs = t } }) next_id k p who
    (λ kernel. IsAlone k kernel p))
    (sym (c.in_default.ensures.gone ∙ nothing_waited s.kernel.procs found none))
    (stays s next_id k w p who paired alive
    (none_left s next_id k w p who paired alive found (c.in_default.ensures.least refl) none))

pub returns : goal.returns
returns c k next_id p w paired alive =
    let s = c.args.system.now in
    let who = c.args.who in
    let found = wait_for s.kernel.procs.processes who None in
    let zombie = c.in-Ok.zombie in
    let n = c.in-Ok-virt_pid.number in
    let is = told_ended found _ c.in-Ok.ensures.answer in
    let kernel = record s.kernel { procs = c.wait.new.self } in
    subst (λ (ids : Pairs). EndsAs (record s { kernel = kernel; ids = ids; conns = c.drop_maker.new.self })
    next_id k p
    who (λ kernel. IsFewer k kernel p)) (sym c.drop_pid.ensures.dropped)
    (subst (λ (conns : ConnTable). EndsAs (record s {
      kernel = kernel;
      ids = without_number s.ids n;
      conns = conns;
    }) next_id k p who (λ kernel. IsFewer k kernel p)) (sym c.drop_maker.ensures)
    (step s next_id k w p who paired alive found zombie _ (c.in-Ok.ensures.least refl) is c.wait.new.self
    c.in-Ok.ensures.gone n (number_told _ n _ c.in-Ok-virt_pid.ensures)))

pub returns-in_default-virt_pid : goal.returns-in_default-virt_pid
returns-in_default-virt_pid c k next_id p w paired alive =
    let s = c.args.system.now in
    let who = c.args.who in
    let found = wait_for s.kernel.procs.processes who None in
    absurd (always_paired s next_id k w p who paired alive found c.in-Ok.zombie _ (c.in-Ok.ensures.least refl)
    (told_ended found _ c.in-Ok.ensures.answer) (none_told _ _ _ c.in_default-virt_pid.ensures))
