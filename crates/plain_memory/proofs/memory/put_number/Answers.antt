use Rattle.std.proofs.Common.{◌≡◌, ◌+◌, ◌-◌, ◌/◌, sym, ◌∙◌, ap, arith}
use Rattle.plain_process.specs.Memory.{Memory, with_bytes, low_bytes}
use Rattle.plain_memory.proofs.ByteByByte.{with_low-more, with_bytes-done}
use Rattle.plain_memory.proofs.memory.put_number.Goals as goal

pub loop-i-preserved : goal.loop-i-preserved
loop-i-preserved c =
    ap (λ (m : Memory). with_bytes m (c.args.address + (c.loop-i.i + 1)) (low_bytes (c.args.size - (c.loop-i.i + 1)) (c.loop-i.rest / 256))) c.put_byte.ensures
    ∙ sym (with_low-more c.loop-i.memory c.args.address c.loop-i.i c.args.size c.loop-i.rest c.loop-i-test.true) ∙ c.loop-i.invariant

pub returns : goal.returns
returns c =
    let none_left : 0 ≡ c.args.size - c.loop-i.i = omega arith in
    sym (with_bytes-done c.loop-i.memory (c.args.address + c.loop-i.i))
    ∙ ap (λ n. with_bytes c.loop-i.memory (c.args.address + c.loop-i.i) (low_bytes n c.loop-i.rest)) none_left ∙ c.loop-i.invariant
