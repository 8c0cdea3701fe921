use Rattle.std.proofs.Common.{◌+◌, sym, ap, ◌∙◌}
use Rattle.std.specs.Prelude.{replicate}
use Rattle.std.specs.FinMap as map
use Rattle.plain_process.specs.Memory.{Memory}
use Rattle.plain_process.proofs.PageByPage.{with_none, with_more}
use Rattle.plain_memory.proofs.pages.put_pages.Goals as goal

pub loop-i-init : goal.loop-i-init
loop-i-init c = sym (with_none c.args.memory.now c.args.first c.args.rights)

pub loop-i-preserved : goal.loop-i-preserved
loop-i-preserved c =
    c.in_ok-insert.ensures.ok
    ∙ ap (λ page. map.insert c.loop-i.memory (c.args.first + c.loop-i.i) (record { rights = c.args.rights; page = page })) c.in_ok-page.ensures
    ∙ ap (λ (m : Memory). map.insert m (c.args.first + c.loop-i.i) (record { rights = c.args.rights; page = replicate 4096 0 })) c.loop-i.invariant
    ∙ with_more c.args.memory.now c.args.first c.loop-i.i c.args.rights
