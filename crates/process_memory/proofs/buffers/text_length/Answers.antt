use Rattle.std.proofs.Common.{sym, arith}
use Rattle.process_memory.proofs.Texts.{starts, no_byte, not_readable, ended, goes_on, full}
use Rattle.process_memory.proofs.buffers.text_length.Goals as goal

pub loop-length-init : goal.loop-length-init
loop-length-init c = starts c.args.space.now c.args.address

pub returns-then-not-is_readable : goal.returns-then-not-is_readable
returns-then-not-is_readable c =
    not_readable c.args.space.now c.args.address c.loop-length.length c.loop-length.invariant c.loop-length-test.true (sym c.if-not-is_readable.ensures.readable)

pub returns-in_default : goal.returns-in_default
returns-in_default c = no_byte c.args.space.now c.args.address c.loop-length.length c.loop-length.invariant c.loop-length-test.true (sym c.in_default.ensures)

pub returns-then-byte-eq0 : goal.returns-then-byte-eq0
returns-then-byte-eq0 c =
    let done = ended c.args.space.now c.args.address c.loop-length.length c.in-Some.byte c.loop-length.invariant c.loop-length-test.true (sym c.in-Some.ensures) c.if-byte-eq0.true in
    (done.text, done.there, omega arith)

pub loop-length-preserved : goal.loop-length-preserved
loop-length-preserved c =
    goes_on c.args.space.now c.args.address c.loop-length.length c.in-Some.byte c.loop-length.invariant c.loop-length-test.true (sym c.in-Some.ensures) c.if-byte-eq0.false

pub returns : goal.returns
returns c =
    let done = full c.args.space.now c.args.address c.loop-length.length c.loop-length.invariant (omega arith) in (done.text, done.there, omega arith)
