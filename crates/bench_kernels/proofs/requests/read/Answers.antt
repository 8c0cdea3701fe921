use Rattle.bench_kernels.proofs.Makings.{read_made}
use Rattle.bench_kernels.proofs.requests.read.Goals as goal

pub returns : goal.returns
returns c = read_made c.args.fd c.args.count c.ranges.fd.fits c.ranges.count.fits
