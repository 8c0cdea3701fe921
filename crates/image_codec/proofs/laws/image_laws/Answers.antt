use Rattle.image_codec.proofs.FittingKernels.{kernel_has_image}
use Rattle.image_codec.proofs.ImageKernels.{image_is_kernel}
use Rattle.image_codec.proofs.KernelBack.{kernel_comes_back}
use Rattle.image_codec.proofs.StartImages.{start_has_image}
use Rattle.image_codec.proofs.laws.image_laws.Goals as goal

pub returns-clause-kernel : goal.returns-clause-kernel
returns-clause-kernel c = image_is_kernel

pub returns-clause-back : goal.returns-clause-back
returns-clause-back c = kernel_comes_back

pub returns-clause-image : goal.returns-clause-image
returns-clause-image c = kernel_has_image

pub returns-clause-start : goal.returns-clause-start
returns-clause-start c = start_has_image
