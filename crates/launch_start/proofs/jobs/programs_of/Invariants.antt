use Rattle.std.proofs.Common.{◌≡◌, map}
use Rattle.std.specs.List.{range_with_len}
use Rattle.job_words.specs.Jobs.{start_of}
use Rattle.launch_start.specs.RingJobs.{member}
use Rattle.launch_start.proofs.jobs.programs_of.Given as goal

abbrev pub invariant-loop-process : goal.invariant-loop-process
invariant-loop-process l = l.programs ≡ map start_of (map (member l.processes) (range_with_len 0 l.process))
