use Rattle.asm_parts.proofs.TextLaws.{first_is}
use Rattle.asm_parts.proofs.text.without_first.Goals as goal

pub returns : goal.returns
returns c = first_is c.args.first c.args.text.now c.strip_prefix.result c.strip_prefix.ensures.cases c.requires
