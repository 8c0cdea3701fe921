use Rattle.std.proofs.Common.{sym, ◌∙◌, ap}
use Rattle.std.specs.Prelude.{is_some}
use Rattle.plain_memory.proofs.ByteByByte.{bytes_at-none_yet, is_some-more, bytes_at-missing}
use Rattle.plain_memory.proofs.memory.has_bytes.Goals as goal

pub loop-i-init : goal.loop-i-init
loop-i-init c = ap is_some (bytes_at-none_yet c.args.memory.now c.args.right c.args.address)

pub returns-in_default : goal.returns-in_default
returns-in_default c =
    ap is_some (sym (bytes_at-missing c.args.memory.now c.args.right c.args.address c.loop-i.i c.args.count c.loop-i-test.true (sym c.byte_at.ensures ∙ c.in_default.is)))

pub loop-i-preserved : goal.loop-i-preserved
loop-i-preserved c =
    is_some-more c.args.memory.now c.args.right c.args.address c.loop-i.i c.in-Some.field-0 c.loop-i.invariant (sym c.byte_at.ensures ∙ c.in-Some.is)
