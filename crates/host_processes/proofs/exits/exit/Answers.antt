use Rattle.std.proofs.Common.{◌≡◌, true, sym, ◌∙◌, subst}
use Rattle.proc_book.specs.Ends.{is_live_at}
use Rattle.host_descriptors.specs.OfHostTables.declared.kernel.Kernel.{Kernel}
use Rattle.host_processes.proofs.ExitRows.{last_served}
use Rattle.host_processes.proofs.exits.exit.Goals as goal

pub returns-then-exit_thread : goal.returns-then-exit_thread
returns-then-exit_thread c g k p whole st paired t x thread =
    c.exit_thread.ensures.row c.if-exit_thread.true g k p whole st paired t c.args.code x thread

pub exit_group-requires : goal.exit_group-requires
exit_group-requires c = record {
  alive = subst (λ (r : Kernel). is_live_at r.procs.processes c.args.who ≡ true)
      (sym (c.exit_thread.ensures.kept c.if-exit_thread.false)) c.requires.alive;
}

pub returns : goal.returns
returns c g k p whole st paired t x thread =
    last_served g c.args.kernel.now k st p c.args.who paired whole c.exit_thread.new.kernel c.exit_group.new.kernel
    (c.exit_thread.ensures.kept c.if-exit_thread.false) c.exit_group.result c.args.code c.exit_group.ensures
    (sym c.if-exit_thread.false ∙ c.exit_thread.ensures.others) t x
