use Rattle.asm_parts.proofs.TextLaws.{trimmed_is}
use Rattle.asm_parts.proofs.text.without_spaces.Goals as goal

pub returns : goal.returns
returns c = trimmed_is c.args.text.now c.trim_start_matches.result.now c.trim_start_matches.ensures.matches
