use Rattle.option_words.proofs.TwoWords.{file_some, file_none}
use Rattle.option_words.proofs.Numbers.{text_is}
use Rattle.option_words.specs.Options.{FILE}
use Rattle.option_words.proofs.option_key.Form.setting.Goals as goal

pub returns-then-eq-clause-some : goal.returns-then-eq-clause-some
returns-then-eq-clause-some c = file_some c.args.self c.args.name.now c.args.value.now c.file.result (text_is c.args.name.now FILE c.eq.result c.eq.ensures c.if-eq.true) c.file.ensures.some

pub returns-then-eq-clause-none : goal.returns-then-eq-clause-none
returns-then-eq-clause-none c = file_none c.args.self c.args.name.now c.args.value.now c.file.result (text_is c.args.name.now FILE c.eq.result c.eq.ensures c.if-eq.true) c.file.ensures.none
