use Rattle.std.proofs.Common.{sym, ◌∙◌, ap, rules, arith}
use Rattle.std.specs.Option.{option_map}
use Rattle.plain_process.specs.Memory.{little_endian}
use Rattle.plain_memory.proofs.ByteByByte.{number-none_yet, number-more, bytes_at-missing, unit_fits, digit_fits}
use Rattle.plain_memory.proofs.memory.number_at.Goals as goal

pub loop-i-init : goal.loop-i-init
loop-i-init c = number-none_yet c.args.memory.now c.args.right c.args.address

pub returns-in_default-clause-number : goal.returns-in_default-clause-number
returns-in_default-clause-number c =
    ap (option_map little_endian)
    (sym (bytes_at-missing c.args.memory.now c.args.right c.args.address c.loop-i.i c.args.size c.loop-i-test.true (sym c.byte_at.ensures ∙ c.in_default.is)))

pub overflow_mul-number : goal.overflow_mul-number
overflow_mul-number c =
    let digit = digit_fits c.in-Some.byte c.loop-i.unit c.loop-i.i (search rules) c.loop-i.invariant.unit (omega arith) in omega (arith, digit)

pub overflow_add-number : goal.overflow_add-number
overflow_add-number c =
    let digit = digit_fits c.in-Some.byte c.loop-i.unit c.loop-i.i (search rules) c.loop-i.invariant.unit (omega arith) in
    let unit = unit_fits c.loop-i.unit c.loop-i.i c.loop-i.invariant.unit (omega arith) in omega (arith, digit, unit, c.loop-i.invariant.below)

pub overflow_mul-unit : goal.overflow_mul-unit
overflow_mul-unit c = let unit = unit_fits c.loop-i.unit c.loop-i.i c.loop-i.invariant.unit (omega arith) in omega (arith, unit)

pub loop-i-preserved : goal.loop-i-preserved
loop-i-preserved c =
    number-more c.args.memory.now c.args.right c.args.address c.loop-i.i c.loop-i.number c.loop-i.unit c.in-Some.byte c.loop-i.invariant (sym c.byte_at.ensures ∙ c.in-Some.is) (search rules)

pub overflow_cast-result : goal.overflow_cast-result
overflow_cast-result c = let unit = unit_fits c.loop-i.unit c.loop-i.i c.loop-i.invariant.unit (omega arith) in omega (arith, unit, c.loop-i.invariant.below)
