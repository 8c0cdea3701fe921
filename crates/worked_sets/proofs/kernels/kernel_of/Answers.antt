use Rattle.shared_items.proofs.SharedLaws.{text_of}
use Rattle.worked_sets.proofs.kernels.kernel_of.Goals as goal

pub restored_kernel-requires : goal.restored_kernel-requires
restored_kernel-requires c = (text_of _ _ c.in_ok-image.ensures.found).keeps
