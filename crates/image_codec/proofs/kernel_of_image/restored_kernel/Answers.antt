use Rattle.std.proofs.Common.{sym, subst}
use Rattle.plain_machine.specs.Kernels.{IsKernel}
use Rattle.image_codec.proofs.ImageKernels.{image_is_kernel}
use Rattle.image_codec.proofs.RestoredKernels.{filled}
use Rattle.image_codec.proofs.kernel_of_image.restored_kernel.Goals as goal

pub returns-clause-kernel : goal.returns-clause-kernel
returns-clause-kernel c = filled c.args.s.now c.empty-k.result c.restore.new.k c.empty-k.ensures c.in_ok-restore.ensures

pub returns-clause-valid : goal.returns-clause-valid
returns-clause-valid c = subst IsKernel (sym (returns-clause-kernel c)) (image_is_kernel c.args.s.now c.requires)
