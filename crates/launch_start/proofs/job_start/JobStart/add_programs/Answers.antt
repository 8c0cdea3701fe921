use Rattle.std.proofs.Common.{sym, subst, ◌∙◌, arith}
use Rattle.std.specs.Prelude.{Option}
use Rattle.edge_io.specs.Inputs.{NamedFiles}
use Rattle.launch_start.specs.JobInputs.{IsFirstRefusal}
use Rattle.launch_start.specs.JobStarts.{HasRead, IsProgramRefused, with_program}
use Rattle.launch_start.proofs.JobStarts.{IfErr-blames}
use Rattle.launch_start.proofs.JobNames.{inside_of, item_of, program_runs, program_passes, program_refuses}
use Rattle.launch_start.proofs.job_start.JobStart.add_programs.Goals as goal

pub add_program-requires : goal.add_program-requires
add_program-requires g c =
    let read = c.loop-program.invariant.read in
    let inside = inside_of c.as_slice-program-items.result.now c.args.job.now.programs c.loop-program.program-index c.as_slice-program-items.ensures c.loop-program-test.true in
    let here = item_of c.as_slice-program-items.result.now c.args.job.now.programs c.loop-program.program-index c.program-item.result c.as_slice-program-items.ensures c.program-item.is in
    record {
      next = (
        read.0,
        (
          subst (λ files. HasRead files c.loop-program.self read.0) (sym c.loop-program.invariant.same) read.1.0,
          program_runs c.requires.asked.0 c.args.job.now c.requires.asked.1 read.0.programs c.loop-program.program-index c.program-item.result inside here read.1.2,
        ),
      );
    }

pub returns-in_err-add_program-clause-refused : goal.returns-in_err-add_program-clause-refused
returns-in_err-add_program-clause-refused g c =
    let files = (g.I.Inputs.seen c.args.inputs.now).files in
    let read = c.loop-program.invariant.read in
    let inside = inside_of c.as_slice-program-items.result.now c.args.job.now.programs c.loop-program.program-index c.as_slice-program-items.ensures c.loop-program-test.true in
    let here = item_of c.as_slice-program-items.result.now c.args.job.now.programs c.loop-program.program-index c.program-item.result c.as_slice-program-items.ensures c.program-item.is in
    IfErr-blames c.from_residual.result c.in_err-add_program.field-0.0 (IsProgramRefused (g.I.Inputs.seen c.loop-program.inputs).files c.program-item.result) (IsFirstRefusal files c.args.job.now)
    c.from_residual.ensures.1
    (λ why is.
    program_refuses files c.args.job.now c.loop-program.self read.0 c.loop-program.program-index c.program-item.result why read.1.0 read.1.1 inside here read.1.2
    (subst (λ (f : Option NamedFiles). IsProgramRefused f c.program-item.result why) c.loop-program.invariant.same is))
    c.in_err-add_program.ensures.refused

pub loop-program-preserved : goal.loop-program-preserved
loop-program-preserved g c =
    let before = c.loop-program.invariant in
    let read = before.read in
    let inside = inside_of c.as_slice-program-items.result.now c.args.job.now.programs c.loop-program.program-index c.as_slice-program-items.ensures c.loop-program-test.true in
    let here = item_of c.as_slice-program-items.result.now c.args.job.now.programs c.loop-program.program-index c.program-item.result c.as_slice-program-items.ensures c.program-item.is in
    let has = subst (λ files. HasRead files c.loop-program.self read.0) (sym before.same) read.1.0 in
    let can = program_runs c.requires.asked.0 c.args.job.now c.requires.asked.1 read.0.programs c.loop-program.program-index c.program-item.result inside here read.1.2 in
    let more = c.in_ok-add_program.ensures.ok read.0 has can in
    let late = c.in_ok-add_program.ensures.later in
    let later = before.later in
    record {
      same = c.in_ok-add_program.ensures.same ∙ before.same;
      later = omega (arith, late, later);
      read = (
        with_program read.0 c.program-item.result more.0,
        (
          subst (λ files. HasRead files c.add_program.new.self (with_program read.0 c.program-item.result more.0)) before.same more.1,
          read.1.1,
          program_passes c.requires.asked.0 c.args.job.now c.requires.asked.1 read.0.programs c.loop-program.program-index c.program-item.result more.0 inside here read.1.2,
        ),
      );
    }
