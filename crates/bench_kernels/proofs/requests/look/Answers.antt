use Rattle.bench_kernels.proofs.Makings.{look_made}
use Rattle.bench_kernels.proofs.requests.look.Goals as goal

pub returns : goal.returns
returns c = look_made
