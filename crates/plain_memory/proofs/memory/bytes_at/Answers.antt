use Rattle.std.proofs.Common.{sym, ◌∙◌, ap}
use Rattle.std.specs.Prelude.{Some}
use Rattle.plain_memory.proofs.ByteByByte.{bytes_at-none_yet, bytes_at-more, bytes_at-missing}
use Rattle.plain_memory.proofs.memory.bytes_at.Goals as goal

pub loop-i-init : goal.loop-i-init
loop-i-init c = bytes_at-none_yet c.args.memory.now c.args.right c.args.address ∙ ap (λ xs. Some xs) (sym c.new-bytes.ensures)

pub returns-in_default : goal.returns-in_default
returns-in_default c =
    sym (bytes_at-missing c.args.memory.now c.args.right c.args.address c.loop-i.i c.args.count c.loop-i-test.true (sym c.byte_at.ensures ∙ c.in_default.is))

pub loop-i-preserved : goal.loop-i-preserved
loop-i-preserved c =
    bytes_at-more c.args.memory.now c.args.right c.args.address c.loop-i.i c.loop-i.bytes c.in-Some.byte c.loop-i.invariant (sym c.byte_at.ensures ∙ c.in-Some.is)
    ∙ ap (λ xs. Some xs) (sym c.in_ok-push.ensures.ok)
