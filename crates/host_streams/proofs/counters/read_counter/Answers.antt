use Rattle.std.proofs.Common.{ap, ◌∙◌, arith, ◌++◌, ◌≡◌, true, false}
use Rattle.std.specs.Prelude.{nat_le}
use Rattle.std.proofs.lemmas.Bool.Decides.{nat_tests}
use Rattle.host_streams.proofs.CounterRows.{value_bytes, counter_refused, counter_read}
use Rattle.host_streams.proofs.counters.read_counter.Goals as goal

pub returns-then-count-lt-COUNTER_SIZE-clause-row : goal.returns-then-count-lt-COUNTER_SIZE-clause-row
returns-then-count-lt-COUNTER_SIZE-clause-row c g k st =
    let few = c.if-count-lt-COUNTER_SIZE.true in
    let short : nat_le 8 c.args.count ≡ false = grind (arith, nat_tests, few) in
    counter_refused g c.args.kernel.now k c.args.held c.args.value c.args.count short c.args.transfer.now

pub returns-clause-row : goal.returns-clause-row
returns-clause-row c g k st =
    let many = c.if-count-lt-COUNTER_SIZE.false in
    let enough : nat_le 8 c.args.count ≡ true = grind (arith, nat_tests, many) in
    counter_read g c.args.kernel.now k c.args.held c.args.value c.args.count enough c.put_value.new.kernel
    (c.put_value.ensures.stands c.args.value c.requires.counter g k st) c.args.transfer.now c.put.new.self
    (c.put.ensures ∙ ap (λ bytes. bytes ++ c.to_le_bytes.result) c.clear.ensures ∙ c.to_le_bytes.ensures
    ∙ value_bytes c.args.value)
