use Rattle.std.proofs.Common.{◌≡◌, length}
use Rattle.plain_tables.specs.Closing.{pending_channels, pending_directions}
use Rattle.plain_tables.proofs.closing.close_pending.Given as goal

-- the closes that are still to come end as all of them do
abbrev pub invariant-loop-conn : goal.invariant-loop-conn
invariant-loop-conn l = record {
  channels : pending_channels l.channels l.rest ≡ pending_channels l.initial.channels l.queue;
  directions : pending_directions l.channels l.directions l.rest ≡ pending_directions l.initial.channels l.initial.directions l.queue;
}

abbrev pub decreases-loop-conn : goal.decreases-loop-conn
decreases-loop-conn l = length l.rest
