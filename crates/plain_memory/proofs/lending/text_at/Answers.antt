use Rattle.std.proofs.Common.{◌+◌, ◌∙◌, ap, sym, subst, arith}
use Rattle.std.specs.Prelude.{Some}
use Rattle.plain_process.proofs.TextBytes.{Reads, text-missing, text-ended, text-more, text-full}
use Rattle.plain_memory.proofs.lending.text_at.Goals as goal

pub returns-in_default : goal.returns-in_default
returns-in_default c =
    sym (text-missing c.args.memory.now c.args.address c.loop-i.i c.loop-i.text c.loop-i.invariant c.loop-i-test.true (sym c.byte_at.ensures ∙ c.in_default.is))

pub returns-then-byte-eq0 : goal.returns-then-byte-eq0
returns-then-byte-eq0 c =
    ap (λ xs. Some xs) c.in_ok-push.ensures.ok
    ∙ sym (text-ended c.args.memory.now c.args.address c.loop-i.i c.in-Some.byte c.loop-i.text c.loop-i.invariant c.loop-i-test.true (sym c.byte_at.ensures ∙ c.in-Some.is) c.if-byte-eq0.true)

pub loop-i-preserved : goal.loop-i-preserved
loop-i-preserved c =
    subst (λ xs. Reads c.args.memory.now c.args.address (c.loop-i.i + 1) xs) (sym c.in_ok-push.ensures.ok)
    (text-more c.args.memory.now c.args.address c.loop-i.i c.in-Some.byte c.loop-i.text c.loop-i.invariant c.loop-i-test.true (sym c.byte_at.ensures ∙ c.in-Some.is) c.if-byte-eq0.false)

pub returns : goal.returns
returns c = sym (text-full c.args.memory.now c.args.address c.loop-i.i c.loop-i.text c.loop-i.invariant (omega arith))
