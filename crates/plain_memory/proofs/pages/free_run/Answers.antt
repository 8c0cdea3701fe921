use Rattle.std.proofs.Common.{sym, ◌∙◌, arith}
use Rattle.plain_process.proofs.PageByPage.{place_found, place_nowhere}
use Rattle.plain_memory.proofs.pages.free_run.Goals as goal

pub returns-then-is_free-clause-run : goal.returns-then-is_free-clause-run
returns-then-is_free-clause-run c =
    sym (place_found c.args.memory.now c.args.count c.loop-i.i c.saturating_sub-places.result c.saturating_sub-places.ensures c.loop-i-test.true c.loop-i.invariant (sym c.is_free.ensures ∙ c.if-is_free.true))

pub returns-clause-run : goal.returns-clause-run
returns-clause-run c =
    sym (place_nowhere c.args.memory.now c.args.count c.loop-i.i c.saturating_sub-places.result c.saturating_sub-places.ensures (omega arith) c.loop-i.invariant)
