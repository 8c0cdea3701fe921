use Rattle.std.proofs.Common.{◌∙◌}
use Rattle.rv_words.proofs.WordLaws.{word_of-decoded, decoded-filled}
use Rattle.rv_words.proofs.encoder.encode.Goals as goal

pub returns-clause-decodes : goal.returns-clause-decodes
returns-clause-decodes c = decoded-filled c.filled_word.result c.args.insn c.filled_word.ensures c.requires

pub returns-clause-only : goal.returns-clause-only
returns-clause-only c = λ w h e. c.filled_word.ensures ∙ word_of-decoded w h c.args.insn e
