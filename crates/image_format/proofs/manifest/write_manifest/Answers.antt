use Rattle.std.proofs.lemmas.Result.{IfOk-weaker}
use Rattle.image_format.proofs.ManifestLaws.{of_text}
use Rattle.image_format.proofs.manifest.write_manifest.Goals as goal

pub returns : goal.returns
returns c = IfOk-weaker c.manifest_text.result _ _ (λ bytes is. of_text bytes.items c.args.m.now is) c.manifest_text.ensures
