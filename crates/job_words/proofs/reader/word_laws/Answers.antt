use Rattle.job_words.proofs.Forms.{one_command}
use Rattle.job_words.proofs.OneJob.{one_job}
use Rattle.job_words.proofs.reader.word_laws.Goals as goal

pub returns : goal.returns
returns c = record { command = one_command; job = one_job }
