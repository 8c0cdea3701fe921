use Rattle.std.proofs.Common.{◌≡◌}
use Rattle.std.specs.Prelude.{Some}
use Rattle.plain_process.specs.Steps.{user_steps}
use Rattle.plain_steps.proofs.steps.user_steps.Given as goal

abbrev pub invariant-loop-done : goal.invariant-loop-done
invariant-loop-done l = user_steps l._done l.fn.user l.t.0 ≡ Some l.user
