use Rattle.std.proofs.Common.{refl, ◌∙◌}
use Rattle.image_codec.proofs.KernelLaws.{only_image, image_made}
use Rattle.image_codec.proofs.kernel_image.shared_image.Goals as goal

pub returns-clause-image : goal.returns-clause-image
returns-clause-image c = image_made c.args.k.now _ refl refl c.in_ok-file_images.ensures c.in_ok-channel_images.ensures c.in_ok-description_images.ensures c.in_ok-process_images.ensures

pub returns-clause-only : goal.returns-clause-only
returns-clause-only c = λ s image. returns-clause-image c ∙ only_image s c.args.k.now image
