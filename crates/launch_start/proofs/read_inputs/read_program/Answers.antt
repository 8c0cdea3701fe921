use Rattle.launch_start.specs.JobStarts.{IsBadProgram, IsProgramRefused}
use Rattle.launch_start.proofs.JobStarts.{refused_so, program_refused}
use Rattle.launch_start.proofs.read_inputs.read_program.Goals as goal

pub returns-clause-refused : goal.returns-clause-refused
returns-clause-refused g c =
    let files = (g.I.Inputs.seen c.args.inputs.now).files in
    let name = c.as_str-name.result.now in
    refused_so c.program_in.result (IsBadProgram name c.as_slice.result.now) (IsProgramRefused files c.args.program.now)
    (λ why is. program_refused files c.args.program.now name c.in_ok-bytes.bytes c.as_slice.result.now why c.as_str-name.ensures c.as_slice.ensures c.in_ok-bytes.ensures.read.told is)
    c.program_in.ensures.err
