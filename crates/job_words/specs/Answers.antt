-- What the reader of one form answers, where no word holds a zero byte.
use Rattle.std.specs.Prelude.{◌≡◌, List}
use Rattle.job_words.specs.declared.job.Job.{Job}
use Rattle.option_words.specs.Options.{Text}
use Rattle.job_words.specs.Commands.{Command, IsCommand, words_of_command}
use Rattle.job_words.specs.Jobs.{IsJobOf}

pub record AnswersFor (words : List Text) (asked : Job) : Type 0 where
  pub command : Command
  pub is : IsCommand command
  pub text : words ≡ words_of_command command
  pub job : IsJobOf command asked

abbrev pub IsRefusal : List Text → Type 0
IsRefusal words = (command : Command) → IsCommand command → words ≡ words_of_command command → ⊥
