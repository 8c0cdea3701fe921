use Rattle.std.proofs.Common.{◌≡◌, ◌≤◌, map, take}
use Rattle.launch_start.specs.JobInputs.{FileInput, ProgramInput, JobInputs}
use Rattle.launch_start.specs.JobStarts.{HasRead}
use Rattle.launch_start.proofs.job_start.JobStart.add_programs.Given as goal

abbrev pub invariant-loop-program : goal.invariant-loop-program
invariant-loop-program g l = record {
  same : (g.I.Inputs.seen l.inputs).files ≡ (g.I.Inputs.seen l.initial.inputs).files;
  later : (g.I.Inputs.seen l.initial.inputs).faults ≤ (g.I.Inputs.seen l.inputs).faults;
  read : (read : JobInputs) × (HasRead (g.I.Inputs.seen l.initial.inputs).files l.self read
      × (map (λ (input : FileInput). input.name) read.files ≡ l.job.file)
      × (map (λ (input : ProgramInput). input.program) read.programs ≡ take l.program-index l.job.programs));
}
