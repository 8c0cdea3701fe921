use Rattle.bench_kernels.proofs.Makings.{pair_made}
use Rattle.bench_kernels.proofs.requests.pair.Goals as goal

pub returns : goal.returns
returns c = pair_made
