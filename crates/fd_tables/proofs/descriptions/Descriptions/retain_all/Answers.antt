use Rattle.fd_tables.proofs.RetainLaws.{fits_next}
use Rattle.fd_tables.proofs.descriptions.Descriptions.retain_all.Goals as goal

pub retain_place-count-requires : goal.retain_place-count-requires
retain_place-count-requires c =
    fits_next c.args.self.now c.loop-place.self c.args.places.now c.loop-place.place-index 18446744073709551616 c.requires c.loop-place-test.true c.loop-place.invariant.retained
