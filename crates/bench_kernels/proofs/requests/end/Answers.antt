use Rattle.bench_kernels.proofs.Makings.{end_made}
use Rattle.bench_kernels.proofs.requests.end.Goals as goal

pub returns : goal.returns
returns c = end_made
