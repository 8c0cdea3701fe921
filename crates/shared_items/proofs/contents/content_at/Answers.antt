use Rattle.std.proofs.Common.{subst}
use Rattle.image_format.specs.Reading.{Gives}
use Rattle.image_format.proofs.Numerals.{fit_bytes}
use Rattle.shared_items.proofs.ByteItems.{reads_bytes}
use Rattle.shared_items.proofs.contents.content_at.Goals as goal

pub returns-clause-read : goal.returns-clause-read
returns-clause-read c =
    subst (λ answer. Gives (λ x. (x.0.now, x.1.now)) c.bytes_at.result answer) (reads_bytes c.args.size c.args.text.now (fit_bytes _ c.type_inv.text)) c.bytes_at.ensures.read
