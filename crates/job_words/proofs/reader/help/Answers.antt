use Rattle.std.proofs.Common.{◌∷◌, sym, subst}
use Rattle.std.specs.Prelude.{codes}
use Rattle.job_words.specs.declared.job.Job.TheVariants as job
use Rattle.job_words.specs.Answers.{AnswersFor}
use Rattle.option_words.specs.Reading.{texts_of}
use Rattle.job_words.proofs.Forms.{AreOf, answered, refused, help_of, help_answer, help_refused, no_words, some_words}
use Rattle.job_words.proofs.reader.help.Goals as goal

pub returns-then-is_empty-clause-found : goal.returns-then-is_empty-clause-found
returns-then-is_empty-clause-found c =
    subst (λ words. AnswersFor (codes "help" ∷ words) job.Help) (sym (no_words c.args.words.now c.is_empty.result c.is_empty.ensures c.if-is_empty.true)) help_answer

pub returns-then-is_empty-clause-usage : goal.returns-then-is_empty-clause-usage
returns-then-is_empty-clause-usage c =
    answered job.Help (codes "help" ∷ texts_of c.args.words.now) (subst (λ words. AreOf (codes "help" ∷ words)) (sym (no_words c.args.words.now c.is_empty.result c.is_empty.ensures c.if-is_empty.true)) help_of)

pub returns-else-is_empty-clause-usage : goal.returns-else-is_empty-clause-usage
returns-else-is_empty-clause-usage c =
    refused (codes "help" ∷ texts_of c.args.words.now) (help_refused (texts_of c.args.words.now) (some_words c.args.words.now c.is_empty.result c.is_empty.ensures c.if-is_empty.false))
