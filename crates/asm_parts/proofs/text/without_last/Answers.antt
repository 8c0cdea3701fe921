use Rattle.asm_parts.proofs.TextLaws.{last_is}
use Rattle.asm_parts.proofs.text.without_last.Goals as goal

pub returns : goal.returns
returns c = last_is c.args.last c.args.text.now c.strip_suffix.result c.strip_suffix.ensures.cases c.requires
