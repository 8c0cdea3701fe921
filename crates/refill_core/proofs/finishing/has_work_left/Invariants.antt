use Rattle.std.proofs.Common.{◌≡◌, false, take}
use Rattle.std.specs.List.{list_any}
use Rattle.refill_core.specs.Work.{is_left}
use Rattle.refill_core.proofs.finishing.has_work_left.Given as goal

abbrev pub invariant-loop-place : goal.invariant-loop-place
invariant-loop-place l = list_any (is_left l.agent l.all) (take l.place l.all) ≡ false
