use Rattle.dmtcp_top.proofs.HostRanges.{launched_within}
use Rattle.dmtcp_top.proofs.hosts.launch_hosts.Goals as goal

pub returns-clause-within : goal.returns-clause-within
returns-clause-within c = launched_within c.requires.0 c.args.job.now c.requires.1.is
