-- What words ask for that are those of a command.
--     job_of            each command has a job
--     some_asked        words of a command whose job is built ask for something
use Rattle.std.proofs.Common.{List, refl, map}
use Rattle.option_words.specs.declared.option_key.OptionKey.TheVariants.{Nodes, Workers, Every, Records, Shift, PidBase, PortBase}
use Rattle.option_words.specs.Options.{Text, files_of, given_for, given_or}
use Rattle.job_words.specs.declared.job.Job.{Job}
use Rattle.job_words.specs.declared.job.Job.TheVariants as job
use Rattle.job_words.specs.Commands.{Command, launch, restart, ring, help, SpellNothing, nodes_of}
use Rattle.job_words.specs.Jobs.{IsJob, IsJobOf, start_of}
use Rattle.dmtcp_top.specs.Jobs.{AskSomething, IsBuilt}

job_of : (command : Command) → (asked : Job) × IsJobOf command asked
job_of (launch given programs) = (
  job.Launch (record {
    nodes = nodes_of given programs;
    workers = given_or Workers given 0;
    every = given_for Every given;
    records = given_or Records given 1000000;
    file = files_of given;
    programs = map start_of programs;
  }),
  record { nodes = refl; workers = refl; every = refl; records = refl; file = refl; programs = refl },
)
job_of (restart given) = (
  job.Restart (record {
    nodes = given_or Nodes given 16;
    workers = given_or Workers given 0;
    every = given_for Every given;
    records = given_or Records given 1000000;
    shift = given_or Shift given 0;
    pid_base = given_or PidBase given 2000;
    port_base = given_or PortBase given 30000;
  }),
  record { nodes = refl; workers = refl; every = refl; records = refl; shift = refl; pid_base = refl; port_base = refl },
)
job_of (ring n given) =
    (job.Ring (record { processes = n; workers = given_or Workers given 0; every = given_or Every given 1000 }), record { processes = refl; workers = refl; every = refl })
job_of help = (job.Help, tt)

pub some_asked : (words : List Text) → (SpellNothing words → ⊥) → ((asked : Job) → IsJob words asked → IsBuilt asked) → AskSomething words
some_asked words spelled built nothing = spelled (λ command spell.
    let asked = job_of command in
    let is : IsJob words asked.0 = record { command = command; spell = spell; job = asked.1 } in
    nothing asked.0 (record { is = is; built = built asked.0 is }))
