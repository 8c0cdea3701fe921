use Rattle.std.proofs.Common.{◌∷◌}
use Rattle.std.specs.Prelude.{codes}
use Rattle.option_words.specs.declared.option_key.Form.TheVariants.{Restart}
use Rattle.option_words.specs.Reading.{texts_of}
use Rattle.job_words.proofs.Forms.{answered, unremembered, passed_on, refused, no_words, some_words, alone, restart_command_of, restart_answer, restart_refused}
use Rattle.job_words.proofs.reader.restart.Goals as goal

pub restart_of-requires : goal.restart_of-requires
restart_of-requires c =
    alone Restart (texts_of c.args.words.now) c.read_options.result.0 (texts_of c.read_options.result.1.now) c.read_options.ensures.read (no_words c.read_options.result.1.now c.is_empty.result c.is_empty.ensures c.if-is_empty.true)

pub returns-in_err-restart_of-clause-usage : goal.returns-in_err-restart_of-clause-usage
returns-in_err-restart_of-clause-usage c =
    unremembered c.from_residual.result (codes "restart" ∷ texts_of c.args.words.now)
    (restart_command_of (texts_of c.args.words.now) (alone Restart (texts_of c.args.words.now) c.read_options.result.0 (texts_of c.read_options.result.1.now) c.read_options.ensures.read (no_words c.read_options.result.1.now c.is_empty.result c.is_empty.ensures c.if-is_empty.true)))
    (passed_on c.from_residual.result c.in_err-restart_of.field-0.0 c.from_residual.ensures.1 c.in_err-restart_of.ensures.err)

pub returns-in_ok-restart_of-clause-found : goal.returns-in_ok-restart_of-clause-found
returns-in_ok-restart_of-clause-found c =
    let options = alone Restart (texts_of c.args.words.now) c.read_options.result.0 (texts_of c.read_options.result.1.now) c.read_options.ensures.read (no_words c.read_options.result.1.now c.is_empty.result c.is_empty.ensures c.if-is_empty.true) in
    restart_answer (texts_of c.args.words.now) options c.in_ok-restart_of.field-0 (c.in_ok-restart_of.ensures.ok options.given options.settings options.text)

pub returns-in_ok-restart_of-clause-usage : goal.returns-in_ok-restart_of-clause-usage
returns-in_ok-restart_of-clause-usage c =
    answered _ (codes "restart" ∷ texts_of c.args.words.now)
    (restart_command_of (texts_of c.args.words.now) (alone Restart (texts_of c.args.words.now) c.read_options.result.0 (texts_of c.read_options.result.1.now) c.read_options.ensures.read (no_words c.read_options.result.1.now c.is_empty.result c.is_empty.ensures c.if-is_empty.true)))

pub returns-else-is_empty-clause-usage : goal.returns-else-is_empty-clause-usage
returns-else-is_empty-clause-usage c =
    refused (codes "restart" ∷ texts_of c.args.words.now)
    (restart_refused (texts_of c.args.words.now) c.read_options.result.0 (texts_of c.read_options.result.1.now) c.read_options.ensures.read c.read_options.ensures.whole
    (some_words c.read_options.result.1.now c.is_empty.result c.is_empty.ensures c.if-is_empty.false))
