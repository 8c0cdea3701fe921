use Rattle.std.proofs.Common.{ap, ◌∙◌}
use Rattle.thread_group.specs.Groups.{joined}
use Rattle.thread_group.proofs.CloneLaws.{called_is}
use Rattle.thread_group.proofs.group.ThreadGroup.add_called.Goals as goal

pub returns-clause-added : goal.returns-clause-added
returns-clause-added c memory =
    ap (joined memory) c.insert.ensures
    ∙ called_is (joined memory c.args.self.now) c.args.t.0 c.args.new c.args.flags c.args.stack c.args.tls c.args.child_tid c.regs-caller.result c.after_call-called.result c.new_regs-regs.result
    c.mask-mask.result c.new_clear_tid-clear_tid.result c.regs-caller.ensures c.mask-mask.ensures c.after_call-called.ensures c.new_regs-regs.ensures c.new_clear_tid-clear_tid.ensures
