use Rattle.std.proofs.Common.{refl, ap, ◌∙◌, ◌∷◌}
use Rattle.std.specs.Prelude.{codes, unwrap_or}
use Rattle.job_words.specs.declared.job.LaunchJob.{LaunchJob}
use Rattle.option_words.specs.Reading.{texts_of}
use Rattle.job_words.proofs.Forms.{answered, unremembered, memory_alone, refused, launch_of, launch_answer, launch_refused}
use Rattle.job_words.proofs.ProgramLists.{are_words}
use Rattle.job_words.proofs.reader.launch.Goals as goal

pub returns-in_default-clause-usage : goal.returns-in_default-clause-usage
returns-in_default-clause-usage c =
    refused (codes "launch" ∷ texts_of c.args.words.now)
    (launch_refused (texts_of c.args.words.now) c.read_options-options.result.0 (texts_of c.read_options-options.result.1.now) c.read_options-options.ensures.read c.read_options-options.ensures.whole
    c.get.result c.get.ensures c.in_default.ensures.none)

pub returns-in_err-file-clause-usage : goal.returns-in_err-file-clause-usage
returns-in_err-file-clause-usage c =
    let found = c.in-Some.ensures.some in
    unremembered c.from_residual.result (codes "launch" ∷ texts_of c.args.words.now)
    (launch_of (texts_of c.args.words.now) c.read_options-options.result.0 (texts_of c.read_options-options.result.1.now) c.read_options-options.ensures.read c.get.result c.get.ensures found.0 found.1)
    (memory_alone c.from_residual.result c.from_residual.ensures.1)

pub programs_of-requires : goal.programs_of-requires
programs_of-requires c =
    let found = c.in-Some.ensures.some in
    are_words (texts_of c.read_options-options.result.1.now) found.0 found.1.are

pub returns-in_err-programs-clause-usage : goal.returns-in_err-programs-clause-usage
returns-in_err-programs-clause-usage c =
    let found = c.in-Some.ensures.some in
    unremembered c.from_residual-in_err-programs.result (codes "launch" ∷ texts_of c.args.words.now)
    (launch_of (texts_of c.args.words.now) c.read_options-options.result.0 (texts_of c.read_options-options.result.1.now) c.read_options-options.ensures.read c.get.result c.get.ensures found.0 found.1)
    (memory_alone c.from_residual-in_err-programs.result c.from_residual-in_err-programs.ensures.1)

pub returns-clause-found : goal.returns-clause-found
returns-clause-found c =
    let made : LaunchJob = record {
      nodes = c.in-Some.nodes;
      workers = c.unwrap_or.result;
      every = c.get-3.result;
      records = c.unwrap_or-2.result;
      file = c.in_ok-file.file;
      programs = c.in_ok-programs.programs;
    } in
    launch_answer (texts_of c.args.words.now) c.read_options-options.result.0 (texts_of c.read_options-options.result.1.now) c.read_options-options.ensures.read c.get.result c.get.ensures c.in-Some.nodes
    c.in-Some.ensures.some made (record {
      nodes_is = refl;
      workers = c.unwrap_or.ensures ∙ ap (λ o. unwrap_or o 0) c.get-2.ensures;
      every = c.get-3.ensures;
      records = c.unwrap_or-2.ensures ∙ ap (λ o. unwrap_or o 1000000) c.get-4.ensures;
      file = c.in_ok-file.ensures;
    }) c.in_ok-programs.ensures

pub returns-clause-usage : goal.returns-clause-usage
returns-clause-usage c =
    let found = c.in-Some.ensures.some in
    answered _ (codes "launch" ∷ texts_of c.args.words.now)
    (launch_of (texts_of c.args.words.now) c.read_options-options.result.0 (texts_of c.read_options-options.result.1.now) c.read_options-options.ensures.read c.get.result c.get.ensures found.0 found.1)
