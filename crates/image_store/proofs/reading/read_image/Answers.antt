use Rattle.std.proofs.Common.{◌∙◌, arith}
use Rattle.image_store.proofs.Readings.{whole_bytes}
use Rattle.image_store.proofs.reading.read_image.Goals as goal

pub returns-then-len-length-clause-refused : goal.returns-then-len-length-clause-refused
returns-then-len-length-clause-refused g c = λ files is.
    let whole = whole_bytes c.args.name.index c.args.length _ c.from_vec-image.result (c.requires files is) (c.from_vec-image.ensures ∙ c.in_ok-read_front.ensures.bytes files is) in
    omega (arith, whole.1, c.len-len.ensures)

pub returns-clause-found : goal.returns-clause-found
returns-clause-found g c = λ files is.
    let whole = whole_bytes c.args.name.index c.args.length _ c.from_vec-image.result (c.requires files is) (c.from_vec-image.ensures ∙ c.in_ok-read_front.ensures.bytes files is) in
    whole.0
