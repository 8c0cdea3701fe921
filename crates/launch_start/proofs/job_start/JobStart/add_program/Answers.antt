use Rattle.std.proofs.Common.{sym, subst, refl}
use Rattle.launch_start.specs.declared.job_start.JobStart.{JobStart}
use Rattle.launch_start.specs.JobStarts.{HasRead, with_program}
use Rattle.launch_start.proofs.JobStarts.{program_added, runs_more, some_room, no_room}
use Rattle.launch_start.proofs.job_start.JobStart.add_program.Goals.{then-is_some+in_ok-add_program, else-is_some}
use Rattle.launch_start.proofs.job_start.JobStart.add_program.Goals as goal

pub returns-clause-ok : goal.returns-clause-ok
returns-clause-ok g c before has can =
    let files = (g.I.Inputs.seen c.args.inputs.now).files in
    let old = c.args.self.now in
    let program = c.args.program.now in
    let read = c.in_ok-elf.ensures.read in (
      read.file,
      elim c.if-is_some.branch [
        | then-is_some+in_ok-add_program w ↦
            let new : JobStart = record { state = w.add_program.new.self; room = old.room } in
            let built = has.built (some_room old.room c.is_some.result c.is_some.ensures w.if-is_some.true) in
            subst (λ (s : JobStart). HasRead files s (with_program before program read.file)) (sym w.self-is)
            (program_added files old new before program read.file has read.told read.of.fine refl w.in_ok-add_program.ensures.ready
            (λ some. runs_more old.state new.state before program read.file c.in_ok-elf.elf w.as_slice-arguments.result.now read.of.is w.as_slice-arguments.ensures built
            (read.of.good program.host w.as_slice-arguments.result.now can.placed w.look_at_bytes.ensures) w.in_ok-add_program.ensures.start))
        | else-is_some w ↦
            subst (λ (s : JobStart). HasRead files s (with_program before program read.file)) (sym w.self-is)
            (program_added files old old before program read.file has read.told read.of.fine refl has.can
            (λ some. absurd (no_room old.room c.is_some.result c.is_some.ensures w.if-is_some.false some)))
      ],
    )
