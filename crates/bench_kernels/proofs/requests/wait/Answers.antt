use Rattle.bench_kernels.proofs.Makings.{wait_made}
use Rattle.bench_kernels.proofs.requests.wait.Goals as goal

pub returns : goal.returns
returns c = wait_made
