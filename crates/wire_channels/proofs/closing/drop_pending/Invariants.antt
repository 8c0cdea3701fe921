use Rattle.std.proofs.Common.{◌≡◌, length}
use Rattle.wire_channels.specs.Channels.{after_closes}
use Rattle.wire_channels.proofs.closing.drop_pending.Given as goal

abbrev pub invariant-loop-id : goal.invariant-loop-id
invariant-loop-id l = after_closes 1 l.channels l.queue ≡ after_closes 1 l.fn.channels l.fn.queue

abbrev pub decreases-loop-id : goal.decreases-loop-id
decreases-loop-id l = length l.queue
