use Rattle.std.proofs.Common.{◌+◌, sym, ap, ◌∙◌}
use Rattle.std.specs.FinMap as map
use Rattle.plain_process.specs.Memory.{Memory}
use Rattle.plain_process.proofs.PageByPage.{without_none, without_more}
use Rattle.plain_memory.proofs.pages.remove_pages.Goals as goal

pub loop-i-init : goal.loop-i-init
loop-i-init c = sym (without_none c.args.memory.now c.args.first)

pub loop-i-preserved : goal.loop-i-preserved
loop-i-preserved c =
    c.remove.ensures.removed
    ∙ ap (λ (m : Memory). map.remove m (c.args.first + c.loop-i.i)) c.loop-i.invariant
    ∙ without_more c.args.memory.now c.args.first c.loop-i.i
