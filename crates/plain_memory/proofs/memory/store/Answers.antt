use Rattle.std.proofs.Common.{sym, ◌∙◌}
use Rattle.plain_memory.proofs.ByteByByte.{store-denied, store-made}
use Rattle.plain_memory.proofs.memory.store.Goals as goal

pub returns-then-not-has_bytes-clause-told : goal.returns-then-not-has_bytes-clause-told
returns-then-not-has_bytes-clause-told c =
    store-denied c.args.memory.now c.args.address c.args.size c.args.value (sym c.has_bytes.ensures ∙ c.if-not-has_bytes.true)

pub returns-clause-told : goal.returns-clause-told
returns-clause-told c =
    store-made c.args.memory.now c.args.address c.args.size c.args.value c.put_number.new.memory (sym c.has_bytes.ensures ∙ c.if-not-has_bytes.false) c.put_number.ensures
