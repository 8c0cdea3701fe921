use Rattle.std.proofs.Common.{ap, ◌∙◌}
use Rattle.std.specs.Prelude.{option_map}
use Rattle.rv_asm.specs.Labels.{label_seen}
use Rattle.rv_asm.proofs.Places.{label_found}
use Rattle.rv_asm.proofs.labels.label_in.Goals as goal

pub returns : goal.returns
returns c = ap (option_map label_seen) c.first_named.ensures ∙ label_found c.args.labels.now c.args.name.now
