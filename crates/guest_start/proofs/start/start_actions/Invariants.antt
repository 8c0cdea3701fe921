use Rattle.std.proofs.Common.{◌≡◌, replicate}
use Rattle.plain_process.specs.Start.{default_action}
use Rattle.guest_start.proofs.start.start_actions.Given as goal

abbrev pub invariant-loop-signal : goal.invariant-loop-signal
invariant-loop-signal l = l.actions.items ≡ replicate l._signal default_action
