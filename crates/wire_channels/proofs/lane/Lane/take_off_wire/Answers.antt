use Rattle.wire_channels.proofs.Stretches.{taken_off}
use Rattle.wire_channels.proofs.lane.Lane.take_off_wire.Goals as goal

pub returns-clause-after : goal.returns-clause-after
returns-clause-after c =
    taken_off c.min-count.result c.args.n c.self.inside.received c.self.inside.wire c.self.inside.bytes.items c.self.inside.is_ended c.self.inside.is_unread c.self.inside.carried
    c.args.self.now c.self.view_is c.self.invariant.2 c.min-count.ensures
