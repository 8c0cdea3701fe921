use Rattle.std.proofs.Common.{sym, subst, ap, ◌∙◌, ◌+◌, ◌++◌, ◌∷◌, []}
use Rattle.launch_start.specs.declared.job_start.JobStart.{JobStart}
use Rattle.launch_start.specs.JobInputs.{found}
use Rattle.launch_start.specs.JobStarts.{HasRead, IsFileRead, files_alone, file_input, room_after, size_of}
use Rattle.launch_start.proofs.JobStarts.{file_added, file_requires, file_builds, some_room, no_room}
use Rattle.launch_start.proofs.job_start.JobStart.add_file.Goals.{then-is_some+in_ok-add_file, else-is_some}
use Rattle.launch_start.proofs.job_start.JobStart.add_file.Goals as goal

pub add_file-requires : goal.add_file-requires
add_file-requires g c =
    let files = (g.I.Inputs.seen c.args.inputs.now).files in
    let before = c.requires.next.0 in
    let has = c.requires.next.1.0 in
    let room = c.less-self.ensures (size_of before) has.room ∙ ap (λ n. room_after (size_of before + n)) c.len.ensures in
    file_requires files c.args.self.now before c.args.name.now c.as_bytes-name.result.now c.in_ok-bytes.bytes c.as_slice.result.now c.less-self.result has c.requires.next.1.1
    (c.as_bytes-name.ensures.value ∙ c.as_str-then-is_some.ensures) c.as_slice.ensures c.look_at_bytes.ensures c.in_ok-bytes.ensures.read.each room
    (some_room c.less-self.result c.is_some.result c.is_some.ensures c.if-is_some.true)

pub returns-clause-ok : goal.returns-clause-ok
returns-clause-ok g c before has can =
    let files = (g.I.Inputs.seen c.args.inputs.now).files in
    let old = c.args.self.now in
    let name = c.args.name.now in
    let bytes = c.in_ok-bytes.bytes in
    let read = subst (λ n. IsFileRead files n bytes) c.as_str.ensures c.in_ok-bytes.ensures.read in
    let room = c.less-self.ensures (size_of before) has.room ∙ ap (λ n. room_after (size_of before + n)) c.len.ensures in (
      bytes,
      elim c.if-is_some.branch [
        | then-is_some+in_ok-add_file w ↦
            let new : JobStart = record { state = w.add_file.new.self; room = c.less-self.result } in
            let some = some_room c.less-self.result c.is_some.result c.is_some.ensures w.if-is_some.true in
            subst (λ (s : JobStart). HasRead files s (files_alone (before ++ file_input name (found bytes) ∷ []))) (sym w.self-is)
            (file_added files old new before name bytes has can read room w.in_ok-add_file.ensures.ready
            (λ there. file_builds files old before name w.as_bytes-name.result.now bytes w.as_slice.result.now c.less-self.result has can
            (w.as_bytes-name.ensures.value ∙ w.as_str-then-is_some.ensures) w.as_slice.ensures w.look_at_bytes.ensures read.each room some new.state w.in_ok-add_file.ensures.start))
        | else-is_some w ↦
            let new : JobStart = record { state = old.state; room = c.less-self.result } in
            subst (λ (s : JobStart). HasRead files s (files_alone (before ++ file_input name (found bytes) ∷ []))) (sym w.self-is)
            (file_added files old new before name bytes has can read room has.can
            (λ there. absurd (no_room c.less-self.result c.is_some.result c.is_some.ensures w.if-is_some.false there)))
      ],
    )
