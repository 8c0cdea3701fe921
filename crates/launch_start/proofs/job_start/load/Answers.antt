use Rattle.std.proofs.Common.{subst}
use Rattle.launch_start.specs.JobInputs.{IsFirstRefusal, too_big}
use Rattle.launch_start.specs.JobStarts.{IsLoaded}
use Rattle.launch_start.proofs.JobStarts.{job_loaded, job_too_big}
use Rattle.launch_start.proofs.job_start.load.Goals as goal

pub returns-in-Some-clause-loaded : goal.returns-in-Some-clause-loaded
returns-in-Some-clause-loaded g c =
    let files = (g.I.Inputs.seen c.add_files.new.inputs).files in
    let read = c.in_ok-add_programs.ensures.ok in
    subst (λ held. IsLoaded held c.args.job.now c.add_programs.new.self.state) c.in_ok-add_files.ensures.same
    (job_loaded files c.args.job.now c.add_programs.new.self read.0 read.1.0 read.1.1 c.in-Some.field-0 c.in-Some.is)

pub returns-clause-refused : goal.returns-clause-refused
returns-clause-refused g c =
    let files = (g.I.Inputs.seen c.add_files.new.inputs).files in
    let read = c.in_ok-add_programs.ensures.ok in
    subst (λ held. IsFirstRefusal held c.args.job.now too_big) c.in_ok-add_files.ensures.same
    (job_too_big files c.args.job.now c.add_programs.new.self read.0 read.1.0 read.1.1 c.in-None.is)

pub add_files-requires-clause-empty : goal.add_files-requires-clause-empty
add_files-requires-clause-empty g c = c.new-start.ensures (g.I.Inputs.seen c.args.inputs.now).files
