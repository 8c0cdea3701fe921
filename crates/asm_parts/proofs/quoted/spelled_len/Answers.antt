use Rattle.std.proofs.Common.{length, sym, ◌∙◌}
use Rattle.asm_parts.proofs.QuoteLaws.{all_counted, is_empty}
use Rattle.asm_parts.proofs.quoted.spelled_len.Goals as goal

pub returns : goal.returns
returns c =
    sym (c.loop-rest.invariant.0
    ∙ all_counted c.loop-rest.count c.loop-rest.rest.now (is_empty c.is_empty.result (length c.loop-rest.rest.now) c.is_empty.ensures c.loop-rest-test.false))
