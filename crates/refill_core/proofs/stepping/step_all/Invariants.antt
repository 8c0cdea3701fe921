use Rattle.std.proofs.Common.{◌≡◌, drop}
use Rattle.std.specs.Prelude.{◌||◌}
use Rattle.refill_core.specs.Refills.{Fits, dirs_of, turns_after}
use Rattle.refill_core.specs.Work.{moved_any}
use Rattle.refill_core.specs.Stepping.{state}
use Rattle.refill_core.proofs.OneCall.{with_channels}
use Rattle.refill_core.proofs.stepping.step_all.Given as goal

abbrev pub invariant-loop-place : goal.invariant-loop-place
invariant-loop-place l = record {
  fits : Fits l.net.channels l.all;
  dirs : dirs_of l.all ≡ dirs_of l.initial.all;
  net : l.net ≡ with_channels l.initial.net l.net.channels;
  moved : (l.moved || moved_any l.agent (drop l.place (dirs_of l.all)) (state l.all l.net)) ≡ moved_any l.agent (dirs_of l.initial.all) (state l.initial.all l.initial.net);
  after : turns_after l.agent (drop l.place (dirs_of l.all)) (state l.all l.net) ≡ turns_after l.agent (dirs_of l.initial.all) (state l.initial.all l.initial.net);
}
