use Rattle.rv_asm.proofs.InsnWords.{decided}
use Rattle.rv_asm.proofs.words.has_word.Goals as goal

pub returns : goal.returns
returns c = decided c.args.insn c.is_valid.result c.is_valid.ensures
