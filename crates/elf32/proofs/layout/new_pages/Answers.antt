use Rattle.std.proofs.Common.{◌-◌, ◌/◌, ◌^◌, arith}
use Rattle.elf32.proofs.PageCounts.{Spans, page_count-one, page_count-several}
use Rattle.elf32.proofs.layout.new_pages.Goals as goal

pub returns-then-first-last-clause-counted : goal.returns-then-first-last-clause-counted
returns-then-first-last-clause-counted c segment same =
    let spans : Spans c.args.memory (c.args.memory.start / 4096) (c.args.memory.start / 4096) =
    record { first_above = omega arith; first_below = omega arith; last_above = omega arith; last_below = omega arith; some = c.requires.some } in
    page_count-one c.args.segments.now segment c.args.memory _ (2 ^ 20) _ same spans (omega arith) c.untouched.ensures

pub returns-clause-counted : goal.returns-clause-counted
returns-clause-counted c segment same =
    let spans : Spans c.args.memory (c.args.memory.start / 4096) ((c.args.memory.end - 1) / 4096) =
    record { first_above = omega arith; first_below = omega arith; last_above = omega arith; last_below = omega arith; some = c.requires.some } in
    page_count-several c.args.segments.now segment c.args.memory _ _ (2 ^ 20) _ _ same spans (omega arith) (omega arith) c.requires.apart
    c.untouched-2.ensures c.untouched-3.ensures
