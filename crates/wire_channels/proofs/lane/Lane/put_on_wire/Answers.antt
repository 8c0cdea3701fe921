use Rattle.std.proofs.Common.{ap, ◌∙◌}
use Rattle.std.specs.Prelude.{min}
use Rattle.wire_channels.proofs.Stretches.{put_on}
use Rattle.wire_channels.proofs.lane.Lane.put_on_wire.Goals as goal

pub returns-clause-after : goal.returns-clause-after
returns-clause-after c =
    put_on c.min-count.result c.args.n c.self.inside.received c.self.inside.wire c.self.inside.bytes.items c.self.inside.is_ended c.self.inside.is_unread c.self.inside.carried
    c.args.self.now c.self.view_is (c.min-count.ensures ∙ ap (min c.args.n) c.sent.ensures.sent)
