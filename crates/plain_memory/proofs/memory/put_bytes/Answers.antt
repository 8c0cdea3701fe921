use Rattle.std.proofs.Common.{◌+◌, drop, sym, ◌∙◌, ap}
use Rattle.std.proofs.Math.ListN.{drop_of_length-le}
use Rattle.plain_process.specs.Memory.{Memory, with_bytes}
use Rattle.plain_memory.proofs.ByteByByte.{with_bytes-more, with_bytes-done}
use Rattle.plain_memory.proofs.memory.put_bytes.Goals as goal

pub loop-i-preserved : goal.loop-i-preserved
loop-i-preserved c =
    ap (λ (m : Memory). with_bytes m (c.args.address + (c.loop-i.i + 1)) (drop (c.loop-i.i + 1) c.args.bytes.now)) c.put_byte.ensures
    ∙ sym (with_bytes-more c.loop-i.memory c.args.address c.loop-i.i c.args.bytes.now c.loop-i-test.true) ∙ c.loop-i.invariant

pub returns : goal.returns
returns c =
    sym (with_bytes-done c.loop-i.memory (c.args.address + c.loop-i.i))
    ∙ ap (with_bytes c.loop-i.memory (c.args.address + c.loop-i.i)) (sym (drop_of_length-le c.args.bytes.now c.loop-i-test.false)) ∙ c.loop-i.invariant
