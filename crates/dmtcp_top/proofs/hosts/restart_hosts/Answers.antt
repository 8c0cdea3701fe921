use Rattle.dmtcp_top.proofs.HostRanges.{restarted_within}
use Rattle.dmtcp_top.proofs.hosts.restart_hosts.Goals as goal

pub returns-clause-within : goal.returns-clause-within
returns-clause-within c = restarted_within c.requires.0 c.args.job.now c.requires.1.is
