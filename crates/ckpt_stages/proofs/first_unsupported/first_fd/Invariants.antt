use Rattle.std.proofs.Common.{◌-◌}
use Rattle.fd_tables.specs.Numbers.{first_above}
use Rattle.ckpt_stages.proofs.FirstOnes.{NoneBelow}
use Rattle.ckpt_stages.proofs.first_unsupported.first_fd.Given as goal

abbrev pub invariant-loop-fd : goal.invariant-loop-fd
invariant-loop-fd l = NoneBelow l.book l.r (first_above l.above)

abbrev pub decreases-loop-fd : goal.decreases-loop-fd
decreases-loop-fd l = 256 - first_above l.above
