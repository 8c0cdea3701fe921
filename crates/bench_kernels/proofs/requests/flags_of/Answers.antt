use Rattle.bench_kernels.proofs.Makings.{flags_made}
use Rattle.bench_kernels.proofs.requests.flags_of.Goals as goal

pub returns : goal.returns
returns c = flags_made c.args.fd c.ranges.fd.fits
