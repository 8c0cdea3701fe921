use Rattle.std.proofs.Common.{◌≡◌, drop}
use Rattle.image_process.proofs.LiveProcesses.{live_from}
use Rattle.image_process.proofs.process_image.live_at.Given as goal

abbrev pub invariant-loop-process : goal.invariant-loop-process
invariant-loop-process l = live_from (drop l.process-index l.processes) l.left ≡ live_from l.processes l.initial.left
