use Rattle.bench_kernels.proofs.Makings.{write_made}
use Rattle.bench_kernels.proofs.requests.write.Goals as goal

pub returns : goal.returns
returns c = write_made c.args.fd c.args.count c.ranges.fd.fits c.ranges.count.fits
