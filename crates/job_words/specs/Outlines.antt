-- What a job is and where it runs.
--     hosts_used programs     the number above the greatest host
--     outline_of job          the outline of the job
use Rattle.std.specs.Prelude.{ℕ, ◌+◌, max, List, fold}
use Rattle.job_words.specs.declared.job.Job.{Job}
use Rattle.job_words.specs.declared.job.Job.TheVariants as job
use Rattle.job_words.specs.declared.job.NamedProgram.{NamedProgram}
use Rattle.job_words.specs.declared.outline.Outline.{Outline}
use Rattle.job_words.specs.declared.outline.Outline.TheVariants.{Launch, Restart, Ring, Help}

abbrev pub hosts_used : List NamedProgram → ℕ
hosts_used programs = fold (λ count program. max count (program.host + 1)) 0 programs

abbrev pub outline_of : Job → Outline
outline_of (job.Launch asked) =
    Launch (record { nodes = asked.nodes; hosts = hosts_used asked.programs; workers = asked.workers })
outline_of (job.Restart asked) = Restart (record {
  nodes = asked.nodes;
  workers = asked.workers;
  shift = asked.shift;
  pid_base = asked.pid_base;
  port_base = asked.port_base;
})
outline_of (job.Ring asked) = Ring (record { workers = asked.workers })
outline_of job.Help = Help
