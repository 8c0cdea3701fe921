use Rattle.std.proofs.Common.{length}
use Rattle.asm_parts.specs.Quotes.{spelled}
use Rattle.asm_parts.proofs.QuoteLaws.{all_put, is_empty}
use Rattle.asm_parts.proofs.quoted.put_spelled.Goals as goal

pub returns : goal.returns
returns c =
    all_put c.args.out.now.items c.loop-rest.out.items (spelled c.args.inside.now) c.loop-rest.rest.now c.loop-rest.invariant.0
    (is_empty c.is_empty.result (length c.loop-rest.rest.now) c.is_empty.ensures c.loop-rest-test.false)
