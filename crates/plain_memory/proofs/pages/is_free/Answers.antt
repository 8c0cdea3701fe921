use Rattle.std.proofs.Common.{sym, ◌∙◌}
use Rattle.plain_process.proofs.PageByPage.{free_none, free_more, free_held}
use Rattle.plain_memory.proofs.pages.is_free.Goals as goal

pub loop-i-init : goal.loop-i-init
loop-i-init c = free_none c.args.memory.now c.args.first

pub returns-then-contains_key : goal.returns-then-contains_key
returns-then-contains_key c =
    sym (free_held c.args.memory.now c.args.first c.loop-i.i c.args.count c.loop-i-test.true (sym c.contains_key.ensures ∙ c.if-contains_key.true))

pub loop-i-preserved : goal.loop-i-preserved
loop-i-preserved c = free_more c.args.memory.now c.args.first c.loop-i.i c.loop-i.invariant (sym c.contains_key.ensures ∙ c.if-contains_key.false)
