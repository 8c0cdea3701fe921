-- Words ask for one job at most, since they are of one command and its job has one value under each name.
--     one_job
use Rattle.std.proofs.Common.{◌≡◌, ℕ, List, Option, refl, sym, ap, subst, ◌∙◌}
use Rattle.option_words.specs.Options.{Text, Setting}
use Rattle.job_words.specs.declared.job.Job.{Job}
use Rattle.job_words.specs.declared.job.Job.TheVariants as job
use Rattle.job_words.specs.declared.job.LaunchJob.{LaunchJob}
use Rattle.job_words.specs.declared.job.NamedProgram.{NamedProgram}
use Rattle.job_words.specs.declared.job.RestartJob.{RestartJob}
use Rattle.job_words.specs.declared.job.RingJob.{RingJob}
use Rattle.job_words.specs.Programs.{ProgramText}
use Rattle.job_words.specs.Commands.{Command, launch, restart, ring, help}
use Rattle.job_words.specs.Jobs.{IsLaunchOf, IsRestartOf, IsRingOf, IsJobOf, OneJob}
use Rattle.job_words.proofs.Forms.{one_command}

abbrev launch_job : ℕ → ℕ → Option ℕ → ℕ → List Text → List NamedProgram → LaunchJob
launch_job nodes workers every records file programs = record { nodes = nodes; workers = workers; every = every; records = records; file = file; programs = programs }

same_fields : (n m w v : ℕ) (e d : Option ℕ) (r s : ℕ) (f g : List Text) (p q : List NamedProgram) → n ≡ m → w ≡ v → e ≡ d → r ≡ s → f ≡ g → p ≡ q → launch_job n w e r f p ≡ launch_job m v d s g q
same_fields n m w v e d r s f g p q nodes workers every records file programs =
    ap (λ x. launch_job x w e r f p) nodes ∙ ap (λ x. launch_job m x e r f p) workers ∙ ap (λ x. launch_job m v x r f p) every
    ∙ ap (λ x. launch_job m v d x f p) records ∙ ap (λ x. launch_job m v d s x p) file ∙ ap (λ x. launch_job m v d s g x) programs

one_launch : (given : List Setting) (texts : List ProgramText) (a b : LaunchJob) → IsLaunchOf given texts a → IsLaunchOf given texts b → a ≡ b
one_launch given texts a b first second =
    same_fields a.nodes b.nodes a.workers b.workers a.every b.every a.records b.records a.file b.file a.programs b.programs (first.nodes ∙ sym second.nodes) (first.workers ∙ sym second.workers)
    (first.every ∙ sym second.every) (first.records ∙ sym second.records) (first.file ∙ sym second.file) (first.programs ∙ sym second.programs)

abbrev restart_job : ℕ → ℕ → Option ℕ → ℕ → ℕ → ℕ → ℕ → RestartJob
restart_job nodes workers every records shift pid_base port_base = record { nodes = nodes; workers = workers; every = every; records = records; shift = shift; pid_base = pid_base; port_base = port_base }

same_restart : (n m w v : ℕ) (e d : Option ℕ) (r s h i p q t u : ℕ) → n ≡ m → w ≡ v → e ≡ d → r ≡ s → h ≡ i → p ≡ q → t ≡ u → restart_job n w e r h p t ≡ restart_job m v d s i q u
same_restart n m w v e d r s h i p q t u nodes workers every records shift pid_base port_base =
    ap (λ x. restart_job x w e r h p t) nodes ∙ ap (λ x. restart_job m x e r h p t) workers ∙ ap (λ x. restart_job m v x r h p t) every
    ∙ ap (λ x. restart_job m v d x h p t) records ∙ ap (λ x. restart_job m v d s x p t) shift ∙ ap (λ x. restart_job m v d s i x t) pid_base ∙ ap (λ x. restart_job m v d s i q x) port_base

one_restart : (given : List Setting) (a b : RestartJob) → IsRestartOf given a → IsRestartOf given b → a ≡ b
one_restart given a b first second =
    same_restart a.nodes b.nodes a.workers b.workers a.every b.every a.records b.records a.shift b.shift a.pid_base b.pid_base a.port_base b.port_base (first.nodes ∙ sym second.nodes)
    (first.workers ∙ sym second.workers) (first.every ∙ sym second.every) (first.records ∙ sym second.records) (first.shift ∙ sym second.shift) (first.pid_base ∙ sym second.pid_base)
    (first.port_base ∙ sym second.port_base)

abbrev ring_job : ℕ → ℕ → ℕ → RingJob
ring_job processes workers every = record { processes = processes; workers = workers; every = every }

same_ring : (n m w v e d : ℕ) → n ≡ m → w ≡ v → e ≡ d → ring_job n w e ≡ ring_job m v d
same_ring n m w v e d processes workers every = ap (λ x. ring_job x w e) processes ∙ ap (λ x. ring_job m x e) workers ∙ ap (λ x. ring_job m v x) every

one_ring : (n : ℕ) (given : List Setting) (a b : RingJob) → IsRingOf n given a → IsRingOf n given b → a ≡ b
one_ring n given a b first second =
    same_ring a.processes b.processes a.workers b.workers a.every b.every (first.processes ∙ sym second.processes) (first.workers ∙ sym second.workers) (first.every ∙ sym second.every)

of_one : (command : Command) (a b : Job) → IsJobOf command a → IsJobOf command b → a ≡ b
of_one (launch given texts) (job.Launch a) (job.Launch b) first second = ap job.Launch (one_launch given texts a b first second)
of_one (restart given) (job.Restart a) (job.Restart b) first second = ap job.Restart (one_restart given a b first second)
of_one (ring n given) (job.Ring a) (job.Ring b) first second = ap job.Ring (one_ring n given a b first second)
of_one help job.Help job.Help first second = refl
of_one (launch given texts) (job.Launch a) _ first second = absurd second
of_one (restart given) (job.Restart a) _ first second = absurd second
of_one (ring n given) (job.Ring a) _ first second = absurd second
of_one help job.Help _ first second = absurd second
of_one (launch given texts) _ b first second = absurd first
of_one (restart given) _ b first second = absurd first
of_one (ring n given) _ b first second = absurd first
of_one help _ b first second = absurd first

pub one_job : OneJob
one_job words a b first second =
    let same = one_command words first.command second.command first.spell second.spell in
    of_one second.command a b (subst (λ (command : Command). IsJobOf command a) same first.job) second.job
