use Rattle.std.proofs.Common.{arith}
use Rattle.staged_cut.proofs.holding.vacant.Goals as goal

pub begin-requires-clause-hosts : goal.begin-requires-clause-hosts
begin-requires-clause-hosts c = record {
  some = omega arith;
  nodes = omega arith;
  shift = omega arith;
  first = omega arith;
  last = omega arith;
  ports = omega arith;
}
