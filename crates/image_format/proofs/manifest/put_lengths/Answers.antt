use Rattle.image_format.proofs.Writing.{all_fit_64}
use Rattle.image_format.proofs.manifest.put_lengths.Goals as goal

pub returns-clause-range : goal.returns-clause-range
returns-clause-range c = all_fit_64 c.args.lengths.now c.type_inv.lengths
