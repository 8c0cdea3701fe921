use Rattle.std.proofs.Common.{arith}
use Rattle.rv_asm.proofs.InsnWords.{word_decodes}
use Rattle.rv_asm.proofs.TwoParts.{parts_fit}
use Rattle.rv_asm.proofs.words.word_laws.Goals as goal

pub returns-clause-decode : goal.returns-clause-decode
returns-clause-decode c = word_decodes

pub returns-clause-fit : goal.returns-clause-fit
returns-clause-fit c = parts_fit

pub returns-clause-add : goal.returns-clause-add
returns-clause-add c = λ n small. omega arith
