use Rattle.std.proofs.Common.{sym, subst}
use Rattle.image_codec.specs.KernelImages.{IsImage}
use Rattle.shared_items.specs.SharedFits.{IsShared}
use Rattle.shared_items.proofs.SharedLaws.{text_of}
use Rattle.worked_sets.proofs.verdicts.comes_back.Goals as goal

pub restored_kernel-requires : goal.restored_kernel-requires
restored_kernel-requires c = (text_of _ _ c.in_ok-image.ensures.found).keeps

-- What is made of the kernel part is the image that was read.
pub write_shared-requires : goal.write_shared-requires
write_shared-requires c =
    let spelled = (text_of _ _ c.in_ok-image.ensures.found).keeps in
    let image : IsImage c.in_ok-image.image c.in_ok-kernel.kernel =
    record { spelled = spelled; kernel = sym c.in_ok-kernel.ensures.kernel }
    in
    subst IsShared (sym (c.in_ok-again.ensures.only c.in_ok-image.image image)) spelled
