use Rattle.image_format.proofs.ManifestLaws.{text_of}
use Rattle.worked_images.proofs.manifests.both_ways.Goals as goal

pub write_manifest-requires : goal.write_manifest-requires
write_manifest-requires c = (text_of _ _ c.in_ok-read.ensures.found).keeps
