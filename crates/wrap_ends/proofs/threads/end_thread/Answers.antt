use Rattle.std.proofs.Common.{[], sym, ap, ◌∙◌}
use Rattle.host_tables.specs.declared.kernel.Kernel.{Kernel}
use Rattle.host_tables.specs.Systems.{given_of}
use Rattle.wrap_ends.proofs.ExitCalls.{thread_as, several, just_one}
use Rattle.wrap_ends.proofs.ThreadEnds.{count_is, thread_stands}
use Rattle.wrap_ends.proofs.threads.end_thread.Goals as goal

pub returns-then-not-exit_thread : goal.returns-then-not-exit_thread
returns-then-not-exit_thread c k next_id t w paired alive leads has =
    let s = c.args.system.now in (
      just_one _ _ (count_is s next_id k w c.args.p c.args.who paired alive)
          (sym c.if-not-exit_thread.true ∙ c.exit_thread.ensures.others),
      ap (λ (r : Kernel). record s { kernel = r }) (c.exit_thread.ensures.kept c.if-not-exit_thread.true),
    )

pub returns : goal.returns
returns c k next_id t w paired alive leads has =
    let s = c.args.system.now in
    let others = several _ _ (count_is s next_id k w c.args.p c.args.who paired alive)
    (sym c.if-not-exit_thread.false ∙ c.exit_thread.ensures.others) in
    thread_as s next_id k w c.args.p c.args.who paired alive t has others c.exit_thread.new.kernel
    (thread_stands s next_id k w c.args.p c.args.who paired alive c.exit_thread.new.kernel t [] others
    (c.exit_thread.ensures.row c.if-not-exit_thread.false (given_of s) k c.args.p w.stands.kernel
    w.stands.tables
    paired t 0 [] leads))
    c.forget_thread.new.ids (c.forget_thread.ensures t leads)
