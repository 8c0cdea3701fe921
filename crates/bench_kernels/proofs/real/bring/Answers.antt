use Rattle.std.proofs.Common.{sym, subst}
use Rattle.bench_kernels.specs.Owning.{IsOwn}
use Rattle.bench_kernels.proofs.Owned.{arrival_own}
use Rattle.bench_kernels.proofs.real.bring.Goals as goal

pub returns : goal.returns
returns c = subst IsOwn (sym c.arrive.ensures.arrived) (arrival_own c.args.kernel.now c.args.dir c.args.n c.requires.own)
