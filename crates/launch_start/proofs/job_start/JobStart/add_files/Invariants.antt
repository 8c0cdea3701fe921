use Rattle.std.proofs.Common.{◌≡◌, ◌≤◌, List, map, take}
use Rattle.launch_start.specs.JobInputs.{FileInput}
use Rattle.launch_start.specs.JobStarts.{HasRead, files_alone}
use Rattle.launch_start.proofs.job_start.JobStart.add_files.Given as goal

abbrev pub invariant-loop-name : goal.invariant-loop-name
invariant-loop-name g l = record {
  same : (g.I.Inputs.seen l.inputs).files ≡ (g.I.Inputs.seen l.initial.inputs).files;
  later : (g.I.Inputs.seen l.initial.inputs).faults ≤ (g.I.Inputs.seen l.inputs).faults;
  read : (files : List FileInput) × (HasRead (g.I.Inputs.seen l.initial.inputs).files l.self (files_alone files)
      × (map (λ (input : FileInput). input.name) files ≡ take l.name-index l.job.file));
}
