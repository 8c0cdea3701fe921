use Rattle.std.proofs.Common.{ℕ, ap, ◌≤◌, arith}
use Rattle.circular_buffer.specs.Buffer.{Buffer}
use Rattle.wire_channels.proofs.Stretches.{read_out}
use Rattle.wire_channels.proofs.lane.Lane.receive.Goals as goal

pub returns-clause-ok : goal.returns-clause-ok
returns-clause-ok c =
    read_out c.min-count.result c.self.inside.received c.self.inside.wire c.self.inside.bytes.items c.take_front.new.from.items c.self.inside.is_ended c.self.inside.is_unread c.self.inside.carried
    c.args.self.now c.self.view_is (let k = c.min-count.ensures in omega arith) (ap (λ (b : Buffer ℕ). b.items) c.take_front.ensures.taken)
