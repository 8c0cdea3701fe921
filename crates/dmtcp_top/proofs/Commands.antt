-- Words ask for one job at most, so a call is that of one command.
--     not_this         they don't ask for another
--     ring_is          the ring that they ask for is the one that was read
--     one_run          a job that is neither the ring nor help
--     help_words       the words that ask for help
use Rattle.std.proofs.Common.{◌≡◌, List, [], ◌∷◌, refl, sym, ◌∙◌}
use Rattle.std.specs.Prelude.{codes}
use Rattle.option_words.specs.Options.{Text}
use Rattle.job_words.specs.declared.job.Job.{Job}
use Rattle.job_words.specs.declared.job.Job.TheVariants.{Launch, Restart, Ring, Help}
use Rattle.job_words.specs.declared.job.RingJob.{RingJob}
use Rattle.job_words.specs.Commands.{Command, Spell, launch, restart, ring, help}
use Rattle.job_words.specs.Jobs.{IsJob, IsJobOf}
use Rattle.job_words.proofs.OneJob.{one_job}
use Rattle.dmtcp_top.specs.Jobs.{Asks, IsOneRun}

pub same_asked : (words : List Text) (a b : Job) → Asks words a → Asks words b → a ≡ b
same_asked words a b first second = one_job words a b first.is second.is

-- a job that was read as another one
pub not_this : {P : Type 0} (words : List Text) (job a b : Job) → Asks words job → Asks words b → job ≡ a → (a ≡ b → ⊥) → P
not_this words job a b asks other is apart = absurd (apart (sym is ∙ same_asked words job b asks other))

pub ring_is : (words : List Text) (job : Job) (a b : RingJob) → Asks words job → Asks words (Ring b) → job ≡ Ring a → a ≡ b
ring_is words job a b asks other is = let same : Ring a ≡ Ring b = sym is ∙ same_asked words job (Ring b) asks other in cc

pub one_run : (job : Job) → ((ring : RingJob) → job ≡ Ring ring → ⊥) → (job ≡ Help → ⊥) → IsOneRun job
one_run (Launch job) no_ring no_help = tt
one_run (Restart job) no_ring no_help = tt
one_run (Ring job) no_ring no_help = absurd (no_ring job refl)
one_run Help no_ring no_help = absurd (no_help refl)

spelled : (words : List Text) (command : Command) → Spell words command → IsJobOf command Help → words ≡ codes "help" ∷ []
spelled words (launch given programs) spell is = absurd is
spelled words (restart given) spell is = absurd is
spelled words (ring n given) spell is = absurd is
spelled words help spell is = spell.text

pub help_words : (words : List Text) → IsJob words Help → words ≡ codes "help" ∷ []
help_words words asked = spelled words asked.command asked.spell asked.job
