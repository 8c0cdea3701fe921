use Rattle.shared_items.proofs.SharedLaws.{text_of}
use Rattle.worked_images.proofs.shared_images.spells_start.Goals as goal

pub write_shared-requires : goal.write_shared-requires
write_shared-requires c = (text_of _ _ c.in_ok-image.ensures.found).keeps
