use Rattle.std.proofs.Common.{◌++◌, ◌∷◌, [], sym, subst, ◌∙◌, arith}
use Rattle.std.specs.Prelude.{Option}
use Rattle.edge_io.specs.Inputs.{NamedFiles}
use Rattle.launch_start.specs.JobInputs.{found, IsFirstRefusal}
use Rattle.launch_start.specs.JobStarts.{HasRead, IsFileRefused, files_alone, file_input}
use Rattle.launch_start.proofs.JobStarts.{IfErr-blames}
use Rattle.launch_start.proofs.JobNames.{inside_of, item_of, file_follows, file_passes, file_refuses}
use Rattle.launch_start.proofs.job_start.JobStart.add_files.Goals as goal

pub add_file-requires : goal.add_file-requires
add_file-requires g c =
    let read = c.loop-name.invariant.read in
    let inside = inside_of c.as_slice-name-items.result.now c.args.job.now.file c.loop-name.name-index c.as_slice-name-items.ensures c.loop-name-test.true in
    let here = item_of c.as_slice-name-items.result.now c.args.job.now.file c.loop-name.name-index c.name-item.result c.as_slice-name-items.ensures c.name-item.is in
    record {
      next = (
        read.0,
        (
          subst (λ files. HasRead files c.loop-name.self (files_alone read.0)) (sym c.loop-name.invariant.same) read.1.0,
          file_follows c.requires.asked.0 c.args.job.now c.requires.asked.1 read.0 c.loop-name.name-index c.name-item.result inside here read.1.1,
        ),
      );
    }

pub returns-in_err-add_file-clause-refused : goal.returns-in_err-add_file-clause-refused
returns-in_err-add_file-clause-refused g c =
    let files = (g.I.Inputs.seen c.args.inputs.now).files in
    let read = c.loop-name.invariant.read in
    let inside = inside_of c.as_slice-name-items.result.now c.args.job.now.file c.loop-name.name-index c.as_slice-name-items.ensures c.loop-name-test.true in
    let here = item_of c.as_slice-name-items.result.now c.args.job.now.file c.loop-name.name-index c.name-item.result c.as_slice-name-items.ensures c.name-item.is in
    IfErr-blames c.from_residual.result c.in_err-add_file.field-0.0 (IsFileRefused (g.I.Inputs.seen c.loop-name.inputs).files c.name-item.result) (IsFirstRefusal files c.args.job.now) c.from_residual.ensures.1
    (λ why is.
    file_refuses files c.args.job.now c.loop-name.self read.0 c.loop-name.name-index c.name-item.result why read.1.0 inside here read.1.1
    (subst (λ (f : Option NamedFiles). IsFileRefused f c.name-item.result why) c.loop-name.invariant.same is))
    c.in_err-add_file.ensures.refused

pub loop-name-preserved : goal.loop-name-preserved
loop-name-preserved g c =
    let before = c.loop-name.invariant in
    let read = before.read in
    let inside = inside_of c.as_slice-name-items.result.now c.args.job.now.file c.loop-name.name-index c.as_slice-name-items.ensures c.loop-name-test.true in
    let here = item_of c.as_slice-name-items.result.now c.args.job.now.file c.loop-name.name-index c.name-item.result c.as_slice-name-items.ensures c.name-item.is in
    let has = subst (λ files. HasRead files c.loop-name.self (files_alone read.0)) (sym before.same) read.1.0 in
    let can = file_follows c.requires.asked.0 c.args.job.now c.requires.asked.1 read.0 c.loop-name.name-index c.name-item.result inside here read.1.1 in
    let more = c.in_ok-add_file.ensures.ok read.0 has can in
    let late = c.in_ok-add_file.ensures.later in
    let later = before.later in
    record {
      same = c.in_ok-add_file.ensures.same ∙ before.same;
      later = omega (arith, late, later);
      read = (
        read.0 ++ file_input c.name-item.result (found more.0) ∷ [],
        (
          subst (λ files. HasRead files c.add_file.new.self (files_alone (read.0 ++ file_input c.name-item.result (found more.0) ∷ []))) before.same more.1,
          file_passes c.requires.asked.0 c.args.job.now c.requires.asked.1 read.0 c.loop-name.name-index c.name-item.result more.0 inside here read.1.1,
        ),
      );
    }
