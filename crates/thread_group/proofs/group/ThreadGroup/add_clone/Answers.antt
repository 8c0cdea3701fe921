use Rattle.std.proofs.Common.{ap, ◌∙◌}
use Rattle.thread_group.specs.Groups.{joined}
use Rattle.thread_group.proofs.CloneLaws.{clone_is}
use Rattle.thread_group.proofs.group.ThreadGroup.add_clone.Goals as goal

pub returns-clause-added : goal.returns-clause-added
returns-clause-added c memory =
    ap (joined memory) c.insert.ensures
    ∙ clone_is (joined memory c.args.self.now) c.args.t.0 c.args.new c.args.flags c.args.stack c.args.tls c.args.child_tid c.regs.result c.new_regs-regs.result c.mask-mask.result
    c.new_clear_tid.result c.regs.ensures c.mask-mask.ensures c.new_regs-regs.ensures c.new_clear_tid.ensures
