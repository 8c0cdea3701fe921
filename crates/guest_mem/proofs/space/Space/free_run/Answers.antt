use Rattle.std.proofs.Common.{arith}
use Rattle.guest_mem.proofs.FreeRuns.{walk_more, walk_found, walk_over}
use Rattle.guest_mem.proofs.space.Space.free_run.Goals as goal

pub returns-in_default-clause-run : goal.returns-in_default-clause-run
returns-in_default-clause-run c = walk_found c.args.self.now c.args.count c.loop-page.page c.loop-page.invariant.walk c.loop-page-test.true c.in_default.ensures

pub loop-page-preserved : goal.loop-page-preserved
loop-page-preserved c = record {
  walk = walk_more c.args.self.now c.args.count 262144 c.loop-page.page c.in-Some.taken c.loop-page.invariant.walk c.in-Some.ensures;
  within = omega (arith, c.in-Some.ensures.below);
}

pub returns-clause-run : goal.returns-clause-run
returns-clause-run c = walk_over c.args.self.now c.args.count c.loop-page.page c.loop-page.invariant.walk (omega arith)
