use Rattle.std.proofs.Common.{◌≡◌}
use Rattle.plain_tables.specs.Ends.{shared_below}
use Rattle.plain_tables.proofs.forks.share_below.Given as goal

abbrev pub invariant-loop-fd : goal.invariant-loop-fd
invariant-loop-fd l = l.descriptors ≡ shared_below l.p l.child l.initial.descriptors l.fd
