use Rattle.std.proofs.Common.{◌-◌, length, arith}
use Rattle.plain_transfers.proofs.CounterBytes.{small_tail}
use Rattle.host_streams.proofs.counters.number_of.Goals as goal

pub overflow_mul-number : goal.overflow_mul-number
overflow_mul-number c =
    let below = small_tail c.args.bytes.now c.loop-i.i c.loop-i.number c.loop-i.invariant (omega arith) in
    omega (arith, below)

pub overflow_add-number : goal.overflow_add-number
overflow_add-number c =
    let below = small_tail c.args.bytes.now c.loop-i.i c.loop-i.number c.loop-i.invariant (omega arith) in
    let byte = c.type_inv.bytes (length c.args.bytes.now - 1 - c.loop-i.i) in
    omega (arith, below, byte)
