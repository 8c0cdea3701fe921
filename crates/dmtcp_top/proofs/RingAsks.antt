-- What a ring asks for by its halves.
--     asks_launch, asks_restart      the words of the halves ask for their jobs
--     made_halves                    so these jobs are the ring's halves
--     refused_memory                 the call where memory was wanted before the launch
use Rattle.std.proofs.Common.{◌≡◌, List, [], None, inl, refl, ◌∙◌}
use Rattle.sys_abi.specs.declared.record.Record.{Record}
use Rattle.edge_io.specs.Sink.{SeenSink}
use Rattle.edge_io.specs.Sunk.{sunk}
use Rattle.disk_folder.specs.SeenFolder.{SeenFolder}
use Rattle.option_words.specs.Options.{Text}
use Rattle.job_words.specs.declared.job.Job.TheVariants.{Launch, Restart, Ring}
use Rattle.job_words.specs.declared.job.LaunchJob.{LaunchJob}
use Rattle.job_words.specs.declared.job.RestartJob.{RestartJob}
use Rattle.job_words.specs.declared.job.RingJob.{RingJob}
use Rattle.job_words.specs.Commands.{words_of_command}
use Rattle.job_words.specs.Jobs.{IsLaunchOf, IsRestartOf}
use Rattle.endings.specs.declared.status.Status.TheVariants.{Memory as IsMemory}
use Rattle.endings.specs.declared.ending.Ending.TheVariants.{Memory}
use Rattle.endings.specs.Log.{memory_line}
use Rattle.drive.proofs.HandedOn.{took_nothing}
use Rattle.launch_start.specs.RingJobs.{launch_of, launch_settings, members, restart_of, restart_settings}
use Rattle.launch_start.proofs.RingBounds.{ring_bounds}
use Rattle.launch_start.proofs.RingWords.{launch_asked, restart_asked, launch_there}
use Rattle.dmtcp_top.specs.Jobs.{Asks, AskSomething}
use Rattle.dmtcp_top.specs.Ends.{Reaches}
use Rattle.dmtcp_top.specs.Ring.{RingHalves, launch_half}
use Rattle.dmtcp_top.specs.RingEndings.{AreHalves, RingComesToEnd}
use Rattle.dmtcp_top.proofs.Loads.{looks_none, whole_unbegun}

module _ (ring : RingJob) (words : List Text) (asks : Asks words (Ring ring)) where
  asks_launch : (launch : LaunchJob) → IsLaunchOf (launch_settings ring) (members ring.processes) launch → Asks (words_of_command (launch_of ring)) (Launch launch)
  asks_launch launch of = record {
    is = launch_asked ring (ring_bounds words ring asks.is) launch of;
    built = of.workers ∙ asks.built;
  }

  asks_restart : (restart : RestartJob) → IsRestartOf (restart_settings ring) restart → Asks (words_of_command (restart_of ring)) (Restart restart)
  asks_restart restart of = record {
    is = restart_asked ring (ring_bounds words ring asks.is) restart of;
    built = of.workers ∙ asks.built;
  }

  pub made_halves : (launch : LaunchJob) (restart : RestartJob) → IsLaunchOf (launch_settings ring) (members ring.processes) launch → IsRestartOf (restart_settings ring) restart → AreHalves ring (Launch launch) (Restart restart)
  made_halves launch restart first second = record {
    launch_job = launch;
    launch_is = refl;
    launches = asks_launch launch first;
    launch_as = first;
    restart_job = restart;
    restart_is = refl;
    restarts = asks_restart restart second;
    quiet = second.every;
  }

  asks_something : AskSomething (words_of_command (launch_of ring))
  asks_something nothing = let there = launch_there ring (ring_bounds words ring asks.is) in nothing (Launch there.0) (asks_launch there.0 there.1.1)

  unbegun_halves : (d : SeenFolder) → RingHalves ring d d
  unbegun_halves d = record {
    first = None;
    launched = [];
    second = None;
    restarted = [];
    in_rounds = tt;
    again_in_rounds = tt;
    whole = whole_unbegun [] d d refl (looks_none d);
  }

  none_begun : (d : SeenFolder) → Reaches IsMemory (launch_half ring d.files None []) memory_line
  none_begun d = (inl (record { start = refl; trace = refl; console = refl }, asks_something), refl)

  pub refused_memory : (trace : List Record) → trace ≡ [] → (d : SeenFolder) (out log : SeenSink) → RingComesToEnd Memory ring trace d d (sunk out.taken out.taken) (sunk log.taken log.taken)
  unfolding unbegun_halves
  refused_memory trace none d out log = record {
    halves = unbegun_halves d;
    there = record {
      shown = [];
      there = (inl (none_begun d, none), refl);
      took = took_nothing out.taken;
      text = [];
      lines = (0, refl);
      logged = took_nothing log.taken;
    };
  }
