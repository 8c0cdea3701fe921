use Rattle.std.proofs.Common.{◌+◌, ◌%◌, ◌/◌, ◌≤◌, ◌<◌, sym, ap, ◌∙◌, arith}
use Rattle.std.specs.FinMap as map
use Rattle.plain_process.specs.Memory.{Memory}
use Rattle.guest_pages.proofs.OpenTables.{get-code, load-read}
use Rattle.guest_pages.proofs.open_space.OpenSpace.load.Goals as goal

pub returns-in-Some-clause-value : goal.returns-in-Some-clause-value
returns-in-Some-clause-value c =
    let some : 0 < c.args.size = omega arith in
    let inside : c.args.address % 4096 + c.args.size ≤ 4096 = omega arith in
    load-read c.args.self.now c.args.address c.args.size c.in-Some.frame.now c.read.result some inside c.in-Some.ensures c.read.ensures.value

pub returns-in-None-clause-value : goal.returns-in-None-clause-value
returns-in-None-clause-value c =
    let some : 0 < c.args.size = omega arith in
    let inside : c.args.address % 4096 + c.args.size ≤ 4096 = omega arith in
    let there = ap (λ (m : Memory). map.get m (c.args.address / 4096)) (sym c.self.view_is) ∙ get-code c.self.inside.blocks.items c.self.inside.start (c.args.address / 4096) c.self.inside.code c.if-page-self.true in
    load-read c.args.self.now c.args.address c.args.size c.self.inside.code c.read-in-None.result some inside there c.read-in-None.ensures.value
