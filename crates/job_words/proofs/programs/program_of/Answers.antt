use Rattle.std.proofs.Common.{refl, ◌∙◌}
use Rattle.job_words.specs.declared.job.NamedProgram.{NamedProgram}
use Rattle.job_words.proofs.ProgramLists.{started}
use Rattle.job_words.proofs.programs.program_of.Goals as goal

pub returns : goal.returns
returns c =
    let named : NamedProgram = record { host = c.in-Some.parts.host; name = c.from_string.result; arguments = c.in_ok-argument_bytes.field-0 } in
    started c.args.word.now c.in-Some.parts named c.in-Some.ensures.some refl (c.from_string.ensures ∙ c.in_ok-from_str.ensures.ok) c.in_ok-argument_bytes.ensures
