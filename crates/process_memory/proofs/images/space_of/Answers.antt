use Rattle.std.proofs.Common.{arith}
use Rattle.process_memory.proofs.PageImages.{fills_start, fills_more, fills_end}
use Rattle.process_memory.proofs.images.space_of.Goals as goal

pub loop-page-init : goal.loop-page-init
loop-page-init c = fills_start c.args.pages c.into_vec-left.result.items c.new-space.result c.into_vec-left.ensures c.new-space.ensures c.requires.numbers c.requires.few

pub loop-page-preserved : goal.loop-page-preserved
loop-page-preserved c =
    fills_more c.args.pages c.loop-page.left.items c.pop.new.self.items c.in-Some.page c.loop-page.space c.insert_page.new.space c.loop-page.invariant c.in-Some.ensures.items c.in_ok-insert_page.ensures.page

pub returns : goal.returns
returns c = fills_end c.args.pages c.loop-page.left.items c.loop-page.space c.loop-page.invariant (let none = c.in_default.ensures.cases.0 in omega arith)
