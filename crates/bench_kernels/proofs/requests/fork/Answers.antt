use Rattle.bench_kernels.proofs.Makings.{fork_made}
use Rattle.bench_kernels.proofs.requests.fork.Goals as goal

pub returns : goal.returns
returns c = fork_made
