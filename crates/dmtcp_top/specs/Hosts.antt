-- On which nodes the hosts of a run are, and what numbers and ports these nodes hand out.
--     launch_hosts job      of a launch: host h is on node h, process numbers are from 1,000 on, ports from
--                           20,000 on
--     restart_hosts job     of a restart: as its words say
use Rattle.host_tables.specs.declared.kernel.Hosts.{Hosts}
use Rattle.job_words.specs.declared.job.LaunchJob.{LaunchJob}
use Rattle.job_words.specs.declared.job.RestartJob.{RestartJob}

abbrev pub launch_hosts : LaunchJob → Hosts
launch_hosts job = record { nodes = job.nodes; shift = 0; pid_base = 1000; port_base = 20000 }

abbrev pub restart_hosts : RestartJob → Hosts
restart_hosts job = record {
  nodes = job.nodes;
  shift = job.shift;
  pid_base = job.pid_base;
  port_base = job.port_base;
}
