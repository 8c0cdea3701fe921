use Rattle.std.proofs.Common.{◌∙◌}
use Rattle.image_store.proofs.ManifestFronts.{generation_bytes}
use Rattle.image_store.proofs.head.generation_of.Goals as goal

pub returns : goal.returns
returns c = c.from_le_bytes.ensures ∙ generation_bytes c.args.front.now
