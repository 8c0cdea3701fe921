use Rattle.std.proofs.Common.{◌≡◌, true, take}
use Rattle.std.specs.List.{list_all}
use Rattle.refill_core.specs.Work.{is_finished}
use Rattle.refill_core.proofs.finishing.all_finished.Given as goal

abbrev pub invariant-loop-place : goal.invariant-loop-place
invariant-loop-place l = list_all (is_finished l.net.channels l.all) (take l.place l.all) ≡ true
