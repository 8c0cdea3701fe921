use Rattle.std.proofs.Common.{ap, sym, ◌∙◌}
use Rattle.image_store.specs.Slots.{info_of, manifest_of}
use Rattle.image_store.proofs.Passing.{told_at}
use Rattle.image_store.proofs.ManifestFronts.{info_front, read_take}
use Rattle.image_store.proofs.head.read_head.Goals as goal

pub returns-clause-info : goal.returns-clause-info
returns-clause-info g c = λ files is.
    let bytes = manifest_of files c.args.slot in
    let front = read_take c.in_ok-n.n 16 c.read_at.new.buf _ bytes (told_at _ _ files c.in_ok-n.ensures.placed is) (told_at _ _ files c.in_ok-n.ensures.bytes is) in
    sym (c.head_of.ensures.info ∙ ap (info_of c.args.slot) front ∙ info_front c.args.slot bytes)
