use Rattle.bench_kernels.proofs.Makings.{pipe_made}
use Rattle.bench_kernels.proofs.requests.pipe.Goals as goal

pub returns : goal.returns
returns c = pipe_made
